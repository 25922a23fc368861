-- The promises of specs/Promises.antt.
--   dates_come_back, days_come_back     date to day number and back undo each other
--   next_dates, next_days               days that follow one another have numbers that do
--   ends                                the calendar's ends, by computation
--   said_day_tells_apart, said_date_tells_apart     no two answers say the same
-- Assumes nothing.
use mathlib.Core.Path.{◌≡◌, refl, ap, sym, ◌∙◌}
use mathlib.Core.Bool.{Bool, true, false}
use mathlib.Core.Logic.{⊎_elim}
use Prim.Native.Nat.{ℕ, suc, ◌<◌}
use native.Mathlib.Nat.{eq-or-lt_of_le}
use native.Mathlib.Omega.{arith}
use lib.IntN.{ℤ, pos, negsuc, suc_ℤ, nat_abs, ◌+ℤ◌, suc_ℤ-+ℤ, -ℤ-+ℤ_cancel}
use Rattle.answer.specs.Answer.{refused, answered}
use Rattle.answer.proofs.Refusals.{said_apart}
use Rattle.calendar.specs.Spans.{before, span_of}
use Rattle.calendar.specs.declared.Date.{Date}
use Rattle.calendar.specs.Calendar.{length_in, year_length, is_date, days_to, number_of, day_number_of, date_at, is_day, date_of, next_date, last_date}
use Rattle.calendar.specs.Parts.{days_in_all}
use Rattle.calendar.specs.Promises.{DatesComeBack, DaysComeBack, NextIsOneMore, NextDates, NextDays, Ends, DaysApart, DatesApart}
use Rattle.calendar.proofs.Laws.Date.{days_to_small, date_of_days_to, is_date_at, days_to_date_at, next_date_lem}
use Rattle.calendar.proofs.Laws.Day.{days_to_zero, number_of_lem, index, index_is, is_day_lem}

-- ---- date to day number and back

pub dates_come_back : DatesComeBack
unfolding day_number_of date_of
dates_come_back t e =
    let i = days_to t in
    let z_is_day : is_day (number_of t) ≡ true = rw (number_of_lem t) (is_day_lem i (days_to_small t e)) in
    record {
      numbered = rw e;
      in_range = z_is_day;
      back = rw (z_is_day, days_to_zero, number_of_lem t, -ℤ-+ℤ_cancel (pos i) (pos 25202), date_of_days_to t e);
    }

pub days_come_back : DaysComeBack
unfolding day_number_of date_of
days_come_back z e =
    let x = index z e in
    let t_is_date = is_date_at x.i x.small in
    record {
      date = date_at x.i;
      dated = rw (e, days_to_zero, x.plus);
      in_range = t_is_date;
      back = rw (t_is_date, number_of_lem (date_at x.i), days_to_date_at x.i x.small) (ap answered (sym (index_is z x)));
    }

-- ---- one day on

-- the calendar's last day is the last of its days
before_last : (t : Date) → is_date t ≡ true → (t ≡ last_date → ⊥) → suc (days_to t) < days_in_all
unfolding before length_in year_length is_date days_to
before_last t e differs =
    ⊎_elim
    (λ last.
    let same : days_to t ≡ days_to last_date = omega arith in
    absurd (differs (sym (date_of_days_to t e) ∙ ap date_at same ∙ date_of_days_to last_date refl)))
    (λ l. l)
    (eq-or-lt_of_le (days_to_small t e))

-- from the days to a date to its number
one_more : (t : Date) → days_to (next_date t) ≡ suc (days_to t) → number_of (next_date t) ≡ suc_ℤ (number_of t)
one_more t e = rw (number_of_lem t, number_of_lem (next_date t), e) (suc_ℤ-+ℤ (pos (days_to t)) (negsuc 25201))

next_of : (t : Date) → is_date t ≡ true → suc (days_to t) < days_in_all → NextIsOneMore t
next_of t e h = let n = next_date_lem t e h in record { in_range = n.is_date_lem; one_more = one_more t n.days }

pub next_dates : NextDates
next_dates t e differs = next_of t e (before_last t e differs)

-- a day that has a date is a day of the calendar, and the date's number is the day's
dated_day : (z : ℤ) (t : Date) (b : Bool) → is_day z ≡ b → date_of z ≡ answered t → (is_date t ≡ true) × (number_of t ≡ z)
unfolding date_of
dated_day z t true d e =
    let back = days_come_back z d in
    let same : back.date ≡ t = cc in
    let is_date_lem : is_date t ≡ true = rw same at back.in_range in
    (is_date_lem, (cc (dates_come_back t is_date_lem).numbered))
dated_day z t false d e = let none : refused 22 ≡ answered t = rw d at e in let nothing : ◌≡◌ {A = ℕ} 0 1 = cc in absurd (omega arith)

pub next_days : NextDays
next_days z t e f =
    let at-z = dated_day z t (is_day z) refl e in
    let x = index (suc_ℤ z) f in
    let on : pos x.i ≡ pos (suc (days_to t)) =
    sym x.plus ∙ suc_ℤ-+ℤ z (pos 25202) ∙ ap (λ (y : ℤ). suc_ℤ (y +ℤ pos 25202)) (sym at-z.1 ∙ number_of_lem t) ∙ ap suc_ℤ (-ℤ-+ℤ_cancel (pos (days_to t)) (pos 25202))
    in
    let next = next_of t at-z.0 (omega (arith, x.small, ap nat_abs on)) in
    ap (λ (y : ℤ). date_of (suc_ℤ y)) (sym at-z.1) ∙ ap date_of (sym next.one_more) ∙ (dates_come_back (next_date t) next.in_range).back

-- ---- the ends, by computation

pub ends : Ends
unfolding before span_of length_in year_length is_date days_to number_of day_number_of date_at is_day date_of
ends = record { first = refl; last = refl; before_first = refl; after_last = refl; year_1900 = refl; year_2200 = refl; no_leap_day_1901 = refl; zero = refl; before_zero = refl }

-- ---- the answers

pub said_day_tells_apart : DaysApart
said_day_tells_apart = said_apart (λ z. z) (λ z. z) (λ z. refl)

pub said_date_tells_apart : DatesApart
said_date_tells_apart = said_apart (λ t. t) (λ t. t) (λ t. refl)
