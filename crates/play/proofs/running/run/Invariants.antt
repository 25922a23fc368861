-- `run` meets its contract: the loop is `RunSoFar`, and what its turns ask for is `turns`.
-- Assumes nothing.
use lib.ListN.{length}
use Rattle.play.specs.Parts.Running.{said_shelf}
use Rattle.play.proofs.Laws.Playing.{RunSoFar}
use Rattle.play.proofs.running.run.Given as goal

abbrev pub invariant-loop-rest : goal.invariant-loop-rest
invariant-loop-rest l = RunSoFar l.steps (said_shelf l.shelf) l.initial.out l.at l.size l.out l.desks l.trays l.latest l.rest l.end l.number

abbrev pub decreases-loop-rest : goal.decreases-loop-rest
decreases-loop-rest l = length l.rest
