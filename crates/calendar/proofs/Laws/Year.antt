-- Laws of the years (`leap`, `year_length`, specs/Calendar.antt), each of 365 days or 366.
--   year_length_lem      a year has the days of its twelve months
--   year_begins      the days before year k: 1,461 for each four years
--   years_end        and those of all the calendar's years
--   year_found       the year of day i, found from there
-- Assumes nothing.
use mathlib.Core.Path.{◌≡◌, refl}
use mathlib.Core.Bool.{Bool, true, false, cond}
use Prim.Native.Nat.{ℕ, zero, suc, ◌+◌, ◌*◌, ◌/◌, ◌%◌, ◌<◌}
use native.Mathlib.Omega.{arith}
use borrow.Author.Tests.{eqb-true, eqb-false}
use Rattle.calendar.specs.Spans.{before, span_of}
use Rattle.calendar.specs.Calendar.{leap, length_in, month_length, year_length}
use Rattle.calendar.specs.Parts.{days_in_all}
use Rattle.calendar.proofs.Laws.Spans.{span_found}
use Rattle.calendar.proofs.Laws.Month.{month}

pub year_length_lem : (k : ℕ) → year_length k ≡ before (month_length (1901 + k)) 12
unfolding year_length
year_length_lem k = refl

-- the months of a year make 365 days, or 366
months_of_year : (l : Bool) → before (length_in l) 12 ≡ 365 + cond l 1 0
months_of_year true = (month true 12 (omega arith)).begins
months_of_year false = (month false 12 (omega arith)).begins

-- four years have 1,461 days
by_fours : (k : ℕ) → k * 1461 / 4 ≡ 365 * k + k / 4
by_fours k = omega arith

-- every fourth year, and no other, has a day more
fourth : (k : ℕ) (b : Bool) → leap (1901 + k) ≡ b → k / 4 + cond b 1 0 ≡ suc k / 4
fourth k true e = let f : suc k % 4 ≡ 0 = omega (arith, eqb-true ((1901 + k) % 4) 0 e) in omega arith
fourth k false e = let f : (suc k % 4 ≡ 0 → ⊥) = λ h. eqb-false ((1901 + k) % 4) 0 e (omega arith) in omega arith

pub year_begins : (k : ℕ) → before year_length k ≡ k * 1461 / 4
unfolding before year_length
year_begins zero = refl
year_begins (suc k) =
    let b = leap (1901 + k) in
    omega (arith, year_begins k, months_of_year b, by_fours k, by_fours (suc k), fourth k b refl)

pub years_end : before year_length 299 ≡ days_in_all
years_end = year_begins 299

pub year_found : (i : ℕ) → i < days_in_all → span_of year_length 298 i ≡ (i * 4 + 3) / 1461
year_found i h =
    let k = (i * 4 + 3) / 1461 in
    span_found year_length 298 k i (omega arith)
    (record { begins = omega (arith, year_begins k); ends = omega (arith, year_begins (suc k)) })
