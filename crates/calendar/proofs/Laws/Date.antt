-- Laws of `is_date`, `days_to` and `date_at` (specs/Calendar.antt): dates, and the days since 1 January 1901. A date is told by three numbers that
-- count from 0: its year, its month in the year and its day in the month.
--   fields, of_fields                    what the test of a date says, and back
--   three_of, is_three, is_date_lem          every date is one of three such numbers, within their bounds, and back
--   days_to_lem, days_within, date_found     the days to it, that they are days of the calendar, and that its date is found from them
--   year_falls .. days_back              the three numbers of day i
--   days_to_small, date_of_days_to, is_date_at, days_to_date_at     the same of a date and of a day: each comes back from the other
--   next_date_lem                            the next date lies one day on
--   day_at                                   those of them that `Date::at` needs
-- Assumes nothing.
use mathlib.Core.Path.{◌≡◌, refl, ap, subst, ◌∙◌}
use mathlib.Core.Bool.{Bool, true, false, cond}
use Prim.Native.Nat.{ℕ, suc, ◌+◌, ◌-◌, ◌≤◌, ◌<◌}
use native.Mathlib.Numerals.{add-one}
use native.Mathlib.Omega.{arith}
use lib.Dec.{ltb}
use borrow.Author.Tests.{ltb-true, ltb-false, le-leb}
use Rattle.numbers.proofs.Tests.{tested}
use Rattle.calendar.specs.Spans.{before, span_of}
use Rattle.calendar.specs.declared.Date.{Date}
use Rattle.calendar.specs.Calendar.{leap, month_length, year_length, is_date, days_to, year_at, day_in_year, month_at, date_at, next_date}
use Rattle.calendar.specs.Parts.{days_in_all}
use Rattle.calendar.proofs.Laws.Spans.{Falls, before_first, before_next, before_grows, before_orders, span_found, span_falls, span_within}
use Rattle.calendar.proofs.Laws.Month.{month}
use Rattle.calendar.proofs.Laws.Year.{year_length_lem, years_end}

-- ---- what the test of a date says

pub record Fields (t : Date) : Type 0 where
  pub year_first : 1901 ≤ t.year
  pub year_last : t.year ≤ 2199
  pub month_first : 1 ≤ t.month
  pub month_last : t.month ≤ 12
  pub day_first : 1 ≤ t.day
  pub day_last : t.day ≤ month_length t.year (t.month - 1)

pub fields : (t : Date) → is_date t ≡ true → Fields t
unfolding is_date
fields t e = search tested depth 8

pub of_fields : (t : Date) → Fields t → is_date t ≡ true
unfolding is_date
of_fields t f =
    rw (le-leb _ _ f.year_first, le-leb _ _ f.year_last, le-leb _ _ f.month_first, le-leb _ _ f.month_last, le-leb _ _ f.day_first, le-leb _ _ f.day_last)

-- ---- a date of three numbers

abbrev pub date_of_three : ℕ → ℕ → ℕ → Date
date_of_three k m d = record { year = 1901 + k; month = m + 1; day = d + 1 }

abbrev pub days_to_three : ℕ → ℕ → ℕ → ℕ
days_to_three k m d = before year_length k + before (month_length (1901 + k)) m + d

pub record Three (k m d : ℕ) : Type 0 where
  pub year_within : k ≤ 298
  pub month_within : m ≤ 11
  pub day_within : d < month_length (1901 + k) m

one_back : (m : ℕ) → m + 1 - 1 ≡ m
one_back m = omega arith

pub is_date_lem : (k m d : ℕ) → Three k m d → is_date (date_of_three k m d) ≡ true
is_date_lem k m d h =
    of_fields (date_of_three k m d)
    (record {
      year_first = omega arith;
      year_last = omega (arith, h.year_within);
      month_first = omega arith;
      month_last = omega (arith, h.month_within);
      day_first = omega arith;
      day_last = rw (one_back m) (omega (arith, h.day_within));
    })

pub days_to_lem : (k m d : ℕ) → days_to (date_of_three k m d) ≡ days_to_three k m d
unfolding days_to
days_to_lem k m d = let year_back : 1901 + k - 1901 ≡ k = omega arith in rw (year_back, one_back m, one_back d)

-- every date is one of three numbers
pub three_of : (t : Date) → is_date t ≡ true → Three (t.year - 1901) (t.month - 1) (t.day - 1)
three_of t e =
    let f = fields t e in
    let year_there : 1901 + (t.year - 1901) ≡ t.year = omega (arith, f.year_first) in
    record {
      year_within = omega (arith, f.year_last);
      month_within = omega (arith, f.month_last);
      day_within = rw year_there (omega (arith, f.day_first, f.day_last));
    }

pub is_three : (t : Date) → is_date t ≡ true → date_of_three (t.year - 1901) (t.month - 1) (t.day - 1) ≡ t
is_three t e =
    let f = fields t e in
    let year_there : 1901 + (t.year - 1901) ≡ t.year = omega (arith, f.year_first) in
    let month_there : t.month - 1 + 1 ≡ t.month = omega (arith, f.month_first) in
    let day_there : t.day - 1 + 1 ≡ t.day = omega (arith, f.day_first) in
    rw (year_there, month_there, day_there)

-- ---- the date at day i

module _ (k m d : ℕ) (h : Three k m d) where
  in_its_month : Falls (month_length (1901 + k)) (before (month_length (1901 + k)) m + d) m
  unfolding before
  in_its_month = record { begins = omega arith; ends = omega (arith, h.day_within) }

  in_its_year : Falls year_length (days_to_three k m d) k
  unfolding before year_length
  in_its_year =
      record {
        begins = omega arith;
        ends = omega (arith, in_its_month.ends, before_grows (month_length (1901 + k)) (suc m) 12 (omega (arith, h.month_within)));
      }

  pub days_within : days_to_three k m d < days_in_all
  days_within = omega (arith, in_its_year.ends, before_grows year_length (suc k) 299 (omega (arith, h.year_within)), years_end)

  pub date_found : date_at (days_to_three k m d) ≡ date_of_three k m d
  unfolding date_at
  date_found =
      let days = before (month_length (1901 + k)) m + d in
      let year : year_at (days_to_three k m d) ≡ k = span_found year_length 298 k (days_to_three k m d) h.year_within in_its_year in
      let rest : days_to_three k m d - before year_length k ≡ days = omega arith in
      let month : span_of (month_length (1901 + k)) 11 days ≡ m = span_found (month_length (1901 + k)) 11 m days h.month_within in_its_month in
      let day : days - before (month_length (1901 + k)) m ≡ d = omega arith in
      rw (year, rest, month, day)

module _ (i : ℕ) (h : i < days_in_all) where
  pub year_falls : Falls year_length i (year_at i)
  year_falls = span_falls year_length 298 i (omega (arith, years_end))

  pub in_year : day_in_year i < before (month_length (1901 + year_at i)) 12
  unfolding before year_length
  in_year = omega (arith, year_falls.begins, year_falls.ends)

  pub month_falls : Falls (month_length (1901 + year_at i)) (day_in_year i) (month_at i)
  month_falls = span_falls (month_length (1901 + year_at i)) 11 (day_in_year i) in_year

  pub placed : Three (year_at i) (month_at i) (day_in_year i - before (month_length (1901 + year_at i)) (month_at i))
  unfolding before
  placed =
      record {
        year_within = span_within year_length 298 i;
        month_within = span_within (month_length (1901 + year_at i)) 11 (day_in_year i);
        day_within = omega (arith, month_falls.begins, month_falls.ends);
      }

  pub year_is_short : day_in_year i < 384
  year_is_short = omega (arith, in_year, (month (leap (1901 + year_at i)) 12 (omega arith)).by)

  pub month_is_short : day_in_year i - before (month_length (1901 + year_at i)) (month_at i) < 31
  month_is_short =
      omega (arith, placed.day_within, (month (leap (1901 + year_at i)) (month_at i) (omega (arith, placed.month_within))).short)

  pub days_back : days_to_three (year_at i) (month_at i) (day_in_year i - before (month_length (1901 + year_at i)) (month_at i)) ≡ i
  days_back = omega (arith, year_falls.begins, month_falls.begins)

-- ---- date to days and back

pub days_to_small : (t : Date) → is_date t ≡ true → days_to t < days_in_all
days_to_small t e =
    let three = three_of t e in
    subst (λ (u : Date). days_to u < days_in_all) (is_three t e) (rw (days_to_lem (t.year - 1901) (t.month - 1) (t.day - 1)) (days_within _ _ _ three))

pub date_of_days_to : (t : Date) → is_date t ≡ true → date_at (days_to t) ≡ t
date_of_days_to t e =
    subst (λ (u : Date). date_at (days_to u) ≡ u) (is_three t e)
    (rw (days_to_lem (t.year - 1901) (t.month - 1) (t.day - 1)) (date_found _ _ _ (three_of t e)))

pub is_date_at : (i : ℕ) → i < days_in_all → is_date (date_at i) ≡ true
unfolding date_at
is_date_at i h = is_date_lem _ _ _ (placed i h)

pub days_to_date_at : (i : ℕ) → i < days_in_all → days_to (date_at i) ≡ i
unfolding date_at
days_to_date_at i h = days_to_lem _ _ _ ∙ days_back i h

-- ---- the next date

-- t is the date that lies n days after 1 January 1901
pub record Lies (t : Date) (n : ℕ) : Type 0 where
  pub is_date_lem : is_date t ≡ true
  pub days : days_to t ≡ n

lies : (k m d n : ℕ) → Three k m d → days_to_three k m d ≡ n → Lies (date_of_three k m d) n
lies k m d n h e = record { is_date_lem = is_date_lem k m d h; days = days_to_lem k m d ∙ e }

-- by the definition's two tests: are days left in the month, and months in the year?
module _ (k m d : ℕ) (h : Three k m d) (more : suc (days_to_three k m d) < days_in_all) where
  by_month : (b : Bool) → ltb (m + 1) 12 ≡ b → suc d ≡ month_length (1901 + k) m → Lies (cond b (date_of_three k (m + 1) 0) (date_of_three (k + 1) 0 0)) (suc (days_to_three k m d))
  by_month true e last =
      let early : m + 1 < 12 = ltb-true (m + 1) 12 e in
      lies k (m + 1) 0 (suc (days_to_three k m d))
      (record { year_within = h.year_within; month_within = omega arith; day_within = omega (arith, (month (leap (1901 + k)) (m + 1) (omega arith)).some) })
      (rw (add-one m, before_next (month_length (1901 + k)) m) (omega arith))
  by_month false e last =
      let december : suc m ≡ 12 = omega (arith, ltb-false (m + 1) 12 e, h.month_within) in
      let year_on : before year_length (k + 1) ≡ before year_length k + before (month_length (1901 + k)) 12 = rw (add-one k, before_next year_length k, year_length_lem k) in
      let month_on = before_next (month_length (1901 + k)) m in
      let days : days_to_three (k + 1) 0 0 ≡ suc (days_to_three k m d) = omega (arith, before_first (month_length (1901 + (k + 1))), ap (before (month_length (1901 + k))) december) in
      let early : k + 1 < 299 = before_orders year_length (k + 1) 299 (omega (arith, days, years_end)) in
      lies (k + 1) 0 0 (suc (days_to_three k m d))
      (record { year_within = omega arith; month_within = omega arith; day_within = omega (arith, (month (leap (1901 + (k + 1))) 0 (omega arith)).some) })
      days

  by_day : (b : Bool) → ltb (d + 1) (month_length (1901 + k) m) ≡ b → Lies (cond b (date_of_three k m (d + 1)) (cond (ltb (m + 1) 12) (date_of_three k (m + 1) 0) (date_of_three (k + 1) 0 0))) (suc (days_to_three k m d))
  by_day true e =
      lies k m (d + 1) (suc (days_to_three k m d))
      (record { year_within = h.year_within; month_within = h.month_within; day_within = ltb-true (d + 1) (month_length (1901 + k) m) e })
      (omega arith)
  by_day false e = by_month (ltb (m + 1) 12) refl (omega (arith, h.day_within, ltb-false (d + 1) (month_length (1901 + k) m) e))

  next_of_three : Lies (next_date (date_of_three k m d)) (suc (days_to_three k m d))
  unfolding next_date
  next_of_three =
      let year_on : 1901 + k + 1 ≡ 1901 + (k + 1) = omega arith in
      rw (one_back m, year_on) (by_day (ltb (d + 1) (month_length (1901 + k) m)) refl)

pub next_date_lem : (t : Date) → is_date t ≡ true → suc (days_to t) < days_in_all → Lies (next_date t) (suc (days_to t))
next_date_lem t e =
    let k = t.year - 1901 in
    let m = t.month - 1 in
    let d = t.day - 1 in
    subst (λ (u : Date). suc (days_to u) < days_in_all → Lies (next_date u) (suc (days_to u))) (is_three t e)
    (rw (days_to_lem k m d) (next_of_three k m d (three_of t e)))

-- what `Date::at` needs of day i
pub ruleset day_at = (year_falls, in_year, month_falls, placed, year_is_short, month_is_short, span_within)
