-- What is promised of the calendar's definitions. 01, "Calendar": "Date to day number and back undo each other on this range."
-- And that the numbers are those of days that follow one another: "Day 0 is 1 January 1970 and day -1 the day before."
-- proofs/Laws/Calendar.antt proves each. Assumes nothing.
use Rattle.std.specs.Prelude.{◌≡◌, true, ℤ, pos, negsuc, Result}
use Rattle.std.proofs.Math.IntN.{suc_ℤ}
use Rattle.answer.specs.Answer.{refused, answered}
use Rattle.answer.specs.declared.Refusal.{Refusal}
use Rattle.calendar.specs.declared.Date.{Date}
use Rattle.calendar.specs.Calendar.{is_date, is_day, day_zero, number_of, day_number_of, date_of, next_date, last_date, said_day, said_date}

-- date to day number and back: a date has a day's number, and that day's date is the date
pub record DateComesBack (t : Date) : Type 0 where
  pub numbered : day_number_of t ≡ answered (number_of t)
  pub in_range : is_day (number_of t) ≡ true
  pub back : date_of (number_of t) ≡ answered t

abbrev pub DatesComeBack : Type 0
DatesComeBack = (t : Date) → is_date t ≡ true → DateComesBack t

-- day number to date and back: a day has a date, and that date's number is the day's
pub record DayComesBack (z : ℤ) : Type 0 where
  pub date : Date
  pub dated : date_of z ≡ answered date
  pub in_range : is_date date ≡ true
  pub back : day_number_of date ≡ answered z

abbrev pub DaysComeBack : Type 0
DaysComeBack = (z : ℤ) → is_day z ≡ true → DayComesBack z

-- the date after a date has the next number, unless the date is the last
pub record NextIsOneMore (t : Date) : Type 0 where
  pub in_range : is_date (next_date t) ≡ true
  pub one_more : number_of (next_date t) ≡ suc_ℤ (number_of t)

abbrev pub NextDates : Type 0
NextDates = (t : Date) → is_date t ≡ true → (t ≡ last_date → ⊥) → NextIsOneMore t

-- and the day after a day has the next date
abbrev pub NextDays : Type 0
NextDays = (z : ℤ) (t : Date) → date_of z ≡ answered t → is_day (suc_ℤ z) ≡ true → date_of (suc_ℤ z) ≡ answered (next_date t)

-- the calendar's two ends and what lies past them, a February of 28 days, day 0, and the day before it
pub record Ends : Type 0 where
  pub first : day_number_of (record { year = 1901; month = 1; day = 1 }) ≡ answered (negsuc 25201)
  pub last : day_number_of last_date ≡ answered (pos 84006)
  pub before_first : date_of (negsuc 25202) ≡ refused 22
  pub after_last : date_of (pos 84007) ≡ refused 22
  pub year_1900 : day_number_of (record { year = 1900; month = 12; day = 31 }) ≡ refused 22
  pub year_2200 : day_number_of (record { year = 2200; month = 1; day = 1 }) ≡ refused 22
  pub no_leap_day_1901 : day_number_of (record { year = 1901; month = 2; day = 29 }) ≡ refused 22
  pub zero : date_of (pos 0) ≡ answered day_zero
  pub before_zero : date_of (negsuc 0) ≡ answered (record { year = 1969; month = 12; day = 31 })

-- two different answers never say the same
abbrev pub DaysApart : Type 0
DaysApart = (a b : Result ℤ Refusal) → said_day a ≡ said_day b → a ≡ b

abbrev pub DatesApart : Type 0
DatesApart = (a b : Result Date Refusal) → said_date a ≡ said_date b → a ≡ b
