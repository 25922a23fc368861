-- `all_zeros` meets its contract: what was looked at so far, and the rest, are the whole (`ZerosSoFar`).
-- Assumes nothing.
use Rattle.tray.proofs.Laws.Zeros.{ZerosSoFar}
use Rattle.tray.proofs.all_zeros.Given as goal

abbrev pub invariant-loop-b : goal.invariant-loop-b
invariant-loop-b l = ZerosSoFar l.s l.ok l.b-index
