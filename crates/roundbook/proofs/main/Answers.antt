-- `main` lends its space whole. The levels are written out, since antt would count to 524,685 to find them.
-- Assumes nothing.
use mathlib.Core.Path.{sym}
use Prim.Native.Nat.{ℕ}
use Rattle.std.proofs.lemmas.List.{length-replicate}
use Rattle.roundbook.proofs.main.Goals as goal

pub slice_bounds-answer-end : goal.slice_bounds-answer-end
slice_bounds-answer-end c = sym {0} (length-replicate {0} {A = ℕ} 524685 0)

pub slice_bounds-play-end : goal.slice_bounds-play-end
slice_bounds-play-end c = sym {0} (length-replicate {0} {A = ℕ} 524685 0)
