-- `opened` meets its contract: the desks opened so far are as they should be (`OpenedSoFar`).
-- Assumes nothing.
use Rattle.play.specs.Parts.Running.{said_shelf}
use Rattle.play.proofs.Laws.Running.{OpenedSoFar}
use Rattle.play.proofs.running.opened.Given as goal

abbrev pub invariant-loop-p : goal.invariant-loop-p
invariant-loop-p l = OpenedSoFar (said_shelf l.shelf) l.desks l.p
