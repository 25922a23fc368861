-- `all_kinds_fit` meets its contract: the test was made of each place passed (`EachSoFar`).
-- Assumes nothing.
use Rattle.std.proofs.Common.{length}
use Rattle.cells.specs.Cells.{kind_at}
use Rattle.sound.specs.Parts.{kinds_fit}
use Rattle.sound.proofs.Laws.Scans.{EachSoFar}
use Rattle.sound.proofs.all_kinds_fit.Given as goal

abbrev pub invariant-loop-a : goal.invariant-loop-a
invariant-loop-a l = EachSoFar (λ j. kinds_fit l.causal (kind_at l.kinds j) (kind_at l.pkinds j)) l.ok (length l.yielded)
