-- `count_filled` meets its contract: how many of the places so far are filled (`CountSoFar`).
-- Assumes nothing.
use Rattle.cells.proofs.Laws.{CountSoFar}
use Rattle.cells.proofs.count_filled.Given as goal

abbrev pub invariant-loop-kind : goal.invariant-loop-kind
invariant-loop-kind l = CountSoFar l.kinds l.n l.kind-index
