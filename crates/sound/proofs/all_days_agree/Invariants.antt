-- `all_days_agree` meets its contract: the test was made of each place passed (`EachSoFar`).
-- Assumes nothing.
use Rattle.cells.specs.Cells.{kind_at, day_at}
use Rattle.sound.specs.Sound.{same_day}
use Rattle.sound.specs.Parts.{wanted_day}
use Rattle.sound.proofs.Laws.Scans.{EachSoFar}
use Rattle.sound.proofs.all_days_agree.Given as goal

abbrev pub invariant-loop-i : goal.invariant-loop-i
invariant-loop-i l = EachSoFar (λ j. same_day (day_at l.pdays j) (wanted_day (kind_at l.pkinds j) (day_at l.days j))) l.ok l.i
