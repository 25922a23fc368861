-- A bound for the private functions: how many days the calendar has. Nobody need believe it: `years_end` in proofs/Laws/Year.antt shows that
-- its years have so many.
-- Assumes nothing.
use Rattle.std.specs.Prelude.{ℕ}

-- 25,202 before day 0, day 0, and 84,006 after it
abbrev pub days_in_all : ℕ
days_in_all = 109209
