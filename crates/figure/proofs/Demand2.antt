-- Demand 2 (specs/Demand2.antt), proved of document 01's calls.
--   demand_2 : Demand2 document01
-- Assumes nothing.
use Rattle.desk.specs.Calls.{document01}
use Rattle.writer.proofs.RoundTrip.{written_reads_back, read_writes_back}
use Rattle.figure.specs.Demand2.{Demand2}
use Rattle.figure.proofs.Laws.Opens.{open_by_rules}
use Rattle.figure.proofs.Laws.Writes.{write_by_rules}
use Rattle.figure.proofs.Laws.Reads.{read_by_rules}
use Rattle.figure.proofs.Laws.Sends.{send_by_rules}
use Rattle.figure.proofs.Laws.Delivers.{deliver_by_rules}
use Rattle.figure.proofs.Laws.Takes.{take_by_rules}

pub demand_2 : Demand2 document01
demand_2 =
    record {
      opening = open_by_rules;
      write = write_by_rules;
      read = read_by_rules;
      send = send_by_rules;
      deliver = deliver_by_rules;
      take = take_by_rules;
      written_reads_back = written_reads_back;
      read_writes_back = read_writes_back;
    }
