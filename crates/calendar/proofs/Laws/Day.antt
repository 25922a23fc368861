-- Laws of day numbers (`is_day`, `number_of`, specs/Calendar.antt): a day of the calendar is one of the 109,209 since 1 January 1901, moved by the
-- 25,202 that lie before day 0.
--   days_to_zero      25,202 days lie before day 0
--   number_of_lem         a date's number, by the days to it
--   index             the day of a number
--   is_day_lem            the number of a day
--   day_fits_lem          which a signed 32-bit number holds
-- Assumes nothing.
use mathlib.Core.Path.{◌≡◌, refl, ap, sym, ◌∙◌}
use mathlib.Core.Bool.{Bool, true, false, cond}
use Prim.Native.Nat.{ℕ, suc, ◌+◌, ◌-◌, ◌≤◌, ◌<◌}
use native.Mathlib.Omega.{arith}
use lib.Dec.{ltb}
use lib.IntN.{ℤ, pos, negsuc, ◌+ℤ◌, ◌-ℤ◌, +ℤ-neg_ℤ_cancel}
use borrow.Author.Tests.{leb-true, ltb-true, ltb-false, le-ltb, le-leb}
use Rattle.numbers.proofs.Tests.{tested}
use mir.Syntax.{w32}
use mir.Val.{SFits}
use Rattle.calendar.specs.Spans.{before}
use Rattle.calendar.specs.declared.Date.{Date}
use Rattle.calendar.specs.Calendar.{length_in, year_length, days_to, day_zero, number_of, is_day}
use Rattle.calendar.specs.Parts.{days_in_all}

pub days_to_zero : days_to day_zero ≡ 25202
unfolding before length_in year_length days_to
days_to_zero = refl

pub number_of_lem : (t : Date) → number_of t ≡ pos (days_to t) -ℤ pos 25202
unfolding number_of
number_of_lem t = rw days_to_zero

-- day i since 1 January 1901 has the number z
pub record Index (z : ℤ) : Type 0 where
  pub i : ℕ
  pub small : i < days_in_all
  pub plus : z +ℤ pos 25202 ≡ pos i

pub index : (z : ℤ) → is_day z ≡ true → Index z
unfolding is_day
index (pos n) e = record { i = n + 25202; small = omega (arith, leb-true n 84006 e); plus = refl }
index (negsuc n) e =
    let low : n ≤ 25201 = search tested in
    record { i = 25202 - suc n; small = omega arith; plus = rw (le-ltb 25202 (suc n) (omega arith)) }

pub index_is : (z : ℤ) (x : Index z) → z ≡ pos x.i -ℤ pos 25202
index_is z x = sym (+ℤ-neg_ℤ_cancel z (pos 25202)) ∙ ap (λ (y : ℤ). y -ℤ pos 25202) x.plus

within : (i : ℕ) (b : Bool) → ltb i 25202 ≡ b → i < days_in_all → is_day (cond b (negsuc (25202 - suc i)) (pos (i - 25202))) ≡ true
unfolding is_day
within i true e h = rw (le-leb (25202 - suc i) 25201 (omega (arith, ltb-true i 25202 e)))
within i false e h = le-leb (i - 25202) 84006 (omega (arith, ltb-false i 25202 e))

pub is_day_lem : (i : ℕ) → i < days_in_all → is_day (pos i -ℤ pos 25202) ≡ true
is_day_lem i h = within i (ltb i 25202) refl h

pub day_fits_lem : (z : ℤ) → is_day z ≡ true → SFits w32 z
unfolding is_day
day_fits_lem (pos n) e = record { sfits = omega (arith, leb-true n 84006 e) }
day_fits_lem (negsuc n) e = let low : n ≤ 25201 = search tested in record { sfits = omega arith }
