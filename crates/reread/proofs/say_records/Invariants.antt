-- `say_records` ends: each record leaves less of the input.
-- Assumes nothing.
use lib.ListN.{length}
use Rattle.reread.proofs.say_records.Given as goal

abbrev pub decreases-loop-record : goal.decreases-loop-record
decreases-loop-record g l = length l.rest
