-- `all_days_fit` meets its contract: the test was made of each place passed (`EachSoFar`).
-- Assumes nothing.
use Rattle.std.proofs.Common.{length}
use Rattle.cells.specs.Cells.{kind_at, day_at}
use Rattle.sound.specs.Sound.{day_fits}
use Rattle.sound.proofs.Laws.Scans.{EachSoFar}
use Rattle.sound.proofs.all_days_fit.Given as goal

abbrev pub invariant-loop-kind : goal.invariant-loop-kind
invariant-loop-kind l = EachSoFar (λ j. day_fits (kind_at l.kinds j) (day_at l.days j)) l.ok (length l.yielded)
