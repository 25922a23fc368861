-- `play` ends: each record takes bytes off the rest.
-- Assumes nothing.
use lib.ListN.{length}
use Rattle.roundbook.proofs.records.play.Given as goal

abbrev pub decreases-loop-record : goal.decreases-loop-record
decreases-loop-record g l = length l.records.rest.now
