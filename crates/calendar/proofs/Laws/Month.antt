-- Laws of a year's months, leap years and others alike (`length_in`, specs/Calendar.antt): one test of every month over both tables of the
-- code, which antt computes, and what follows from it at each.
--   month                                of month m: its length and the days before it by the tables, and bounds on both
--   length_by_table, before_by_table     the same as the code adds it
--   year_short                           so that a day's number by 32 is a month's
--   month_guessed, month_after_guess     so the month of day j is j / 32, or the next if that one begins by then
-- Assumes nothing.
use mathlib.Core.Path.{◌≡◌, refl, subst}
use mathlib.Core.Bool.{Bool, true, false, cond, ◌&&◌}
use mathlib.Core.Logic.{⊎_elim}
use mathlib.Core.List.{List, [], ◌∷◌}
use Prim.Native.Nat.{ℕ, zero, suc, ◌+◌, ◌*◌, ◌/◌, ◌≤◌, ◌<◌}
use native.Mathlib.Nat.{eq-or-lt_of_le, not-suc-le-zero}
use native.Mathlib.Numerals.{add-one}
use native.Mathlib.Omega.{arith}
use lib.Dec.{eqb, leb}
use lib.ListN.{get_or}
use mir.Val.{bool_byte}
use Rattle.numbers.proofs.Tests.{and_split, tested}
use Rattle.calendar.specs.Spans.{before, span_of}
use Rattle.calendar.specs.Calendar.{length_in}
use Rattle.calendar.proofs.Laws.Spans.{before_orders, span_found}

-- the tables of the code, LENGTHS and BEFORE, of a year that is no leap year: the length of each month; the days before each, and those of
-- the year
abbrev pub lengths : List ℕ
lengths = 31 ∷ 28 ∷ 31 ∷ 30 ∷ 31 ∷ 30 ∷ 31 ∷ 31 ∷ 30 ∷ 31 ∷ 30 ∷ 31 ∷ []

abbrev pub days_before : List ℕ
days_before = 0 ∷ 31 ∷ 59 ∷ 90 ∷ 120 ∷ 151 ∷ 181 ∷ 212 ∷ 243 ∷ 273 ∷ 304 ∷ 334 ∷ 365 ∷ []

-- ---- the test

-- of month m, or of the year's end at 12, in a leap year or not: both tables are right there, the month begins by 32 days for each before
-- it and at most 32 days earlier, and it has from 1 to 31 days
unfoldable right : Bool → ℕ → Bool
right l m =
    let days = before (length_in l) m in
    eqb (length_in l m) (get_or lengths m 0 + cond (l && eqb m 1) 1 0)
    && eqb days (get_or days_before m 0 + cond (l && leb 2 m) 1 0)
    && leb days (32 * m) && leb (32 * m) (days + 32) && leb (length_in l m) 31 && leb 12 (m + length_in l m)

-- the test passes at each month below n
unfoldable all : (ℕ → Bool) → ℕ → Bool
all f zero = true
all f (suc n) = f n && all f n

at : (f : ℕ → Bool) (n : ℕ) → all f n ≡ true → (m : ℕ) → m < n → f m ≡ true
unfolding all
at f zero t m h = absurd (not-suc-le-zero h)
at f (suc n) t m h =
    let both = and_split (f n) (all f n) t in
    ⊎_elim (λ e. subst (λ (k : ℕ). f k ≡ true) (omega arith) both.0) (λ l. at f n both.1 m (omega arith)) (eq-or-lt_of_le h)

all_right : (l : Bool) → all (right l) 13 ≡ true
unfolding all right before length_in
all_right true = refl
all_right false = refl

-- ---- what it shows of month m

pub record Month (l : Bool) (m : ℕ) : Type 0 where
  -- at 12, past December, both sides are 0
  pub lasts : length_in l m ≡ get_or lengths m 0 + cond (l && eqb m 1) 1 0
  pub begins : before (length_in l) m ≡ get_or days_before m 0 + cond (l && leb 2 m) 1 0
  pub by : before (length_in l) m ≤ 32 * m
  pub after : 32 * m ≤ before (length_in l) m + 32
  pub short : length_in l m ≤ 31
  -- a month has a day: at 12, past December, this says nothing
  pub some : 12 ≤ m + length_in l m

pub month : (l : Bool) (m : ℕ) → m ≤ 12 → Month l m
unfolding right
month l m h = search (at (right l) 13 (all_right l) m (omega arith), tested) depth 8

-- a test as a number, as the code adds it
counted : (b : Bool) → bool_byte b ≡ cond b 1 0
counted true = refl
counted false = refl

pub length_by_table : (l : Bool) (m : ℕ) → m ≤ 12 → length_in l m ≡ get_or lengths m 0 + bool_byte (l && eqb m 1)
length_by_table l m h = rw ((month l m h).lasts, counted (l && eqb m 1))

pub before_by_table : (l : Bool) (m : ℕ) → m ≤ 12 → before (length_in l) m ≡ get_or days_before m 0 + bool_byte (l && leb 2 m)
before_by_table l m h = rw ((month l m h).begins, counted (l && leb 2 m))

-- ---- the inverse: the month of a day

pub year_short : (l : Bool) → before (length_in l) 12 ≤ 32 * 12
year_short l = (month l 12 (omega arith)).by

module _ (l : Bool) (j : ℕ) (h : j < before (length_in l) 12) where
  pub guess_small : j / 32 ≤ 11
  guess_small = omega (arith, year_short l)

  pub month_guessed : j < before (length_in l) (j / 32 + 1) → span_of (length_in l) 11 j ≡ j / 32
  month_guessed e =
      span_found (length_in l) 11 (j / 32) j guess_small
      (record { begins = omega (arith, (month l (j / 32) (omega (arith, guess_small))).by); ends = rw add-one at e })

  pub month_after_guess : before (length_in l) (j / 32 + 1) ≤ j → span_of (length_in l) 11 j ≡ j / 32 + 1
  month_after_guess e =
      let small : j / 32 + 1 < 12 = before_orders (length_in l) (j / 32 + 1) 12 (omega arith) in
      span_found (length_in l) 11 (j / 32 + 1) j (omega arith)
      (record { begins = e; ends = omega (arith, (month l (suc (j / 32 + 1)) (omega arith)).after) })
