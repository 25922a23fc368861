-- `any_filled` meets its contract: what the places so far have (`AnySoFar`).
-- Assumes nothing.
use Rattle.cells.proofs.Laws.{AnySoFar}
use Rattle.cells.proofs.any_filled.Given as goal

abbrev pub invariant-loop-kind : goal.invariant-loop-kind
invariant-loop-kind l = AnySoFar l.kinds l.any l.kind-index
