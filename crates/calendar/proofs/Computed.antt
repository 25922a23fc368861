-- Day numbers as the code computes them, in 32 bits: the days to a date less 25,202, and a day's number plus 25,202. A signed number of the
-- code shows as `to_z w (of_z w z)`, the number of its own pattern: these laws take that away, for `Date::number` and `Date::of_day`.
-- Assumes nothing.
use mathlib.Core.Path.{◌≡◌, ap, ◌∙◌}
use mathlib.Core.Bool.{true}
use Prim.Native.Nat.{ℕ, ◌<◌}
use native.Mathlib.Omega.{arith}
use lib.Dec.{T}
use lib.IntN.{ℤ, pos, nat_abs, ◌+ℤ◌, ◌-ℤ◌}
use lib.Signed.{non_neg}
use mir.Facts.{to_z-of_z, to_z_pos}
use mir.Syntax.{w32}
use mir.Val.{Fits, SFits, to_z, of_z}
use Rattle.calendar.specs.Calendar.{is_day}
use Rattle.calendar.specs.Parts.{days_in_all}
use Rattle.calendar.proofs.Laws.Date.{days_to_small}
use Rattle.calendar.proofs.Laws.Day.{Index, index, is_day_lem, day_fits_lem, days_to_zero, number_of_lem}

-- ---- a date's number

module _ (i : ℕ) (h : i < days_in_all) where
  in_32_bits : to_z w32 i ≡ pos i
  in_32_bits = to_z_pos w32 {n = i} (omega arith)

  pub number_fits : SFits w32 (to_z w32 i -ℤ pos 25202)
  number_fits = rw in_32_bits (day_fits_lem (pos i -ℤ pos 25202) (is_day_lem i h))

  pub number_computed : to_z w32 (of_z w32 (to_z w32 i -ℤ pos 25202)) ≡ pos i -ℤ pos 25202
  number_computed = to_z-of_z number_fits ∙ rw in_32_bits

pub ruleset numbers_computed = (number_fits, number_computed, days_to_small, number_of_lem)

-- ---- a day's place in the calendar

abbrev sum : ℤ → ℤ
sum z = to_z w32 (of_z w32 z) +ℤ pos 25202

abbrev place : ℤ → ℤ
place z = to_z w32 (of_z w32 (sum z))

module _ (z : ℤ) (f : SFits w32 z) (e : is_day (to_z w32 (of_z w32 z)) ≡ true) where
  itself : to_z w32 (of_z w32 z) ≡ z
  itself = to_z-of_z f

  x : Index z
  x = index z (rw itself at e)

  pub sum_fits : SFits w32 (sum z)
  sum_fits = rw (itself, x.plus) (record { sfits = omega (arith, x.small) })

  pub place_same : place z ≡ z +ℤ pos 25202
  place_same = to_z-of_z sum_fits ∙ ap (λ (y : ℤ). y +ℤ pos 25202) itself

  pub place_whole : T (non_neg (place z)) × Fits w32 (nat_abs (place z))
  place_whole = rw (place_same, x.plus) (tt, record { fits = omega (arith, x.small) })

  pub place_small : nat_abs (place z) < days_in_all
  place_small = rw (place_same, x.plus) x.small

pub ruleset places_computed = (sum_fits, place_same, place_whole, place_small, days_to_zero)
