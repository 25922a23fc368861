-- 01, "Calendar": "Years 1901 to 2199, days -25,202 to 84,006. A year that 4 divides has 29 days in February.
-- Date to day number and back undo each other on this range." And 01, "The shelf": "Day 0 is 1 January 1970 and day -1 the day before."
-- A date is the struct `Date` of the code: year, month from 1, day from 1. A refusal is 22: "date or day outside the calendar".
-- Assumes nothing.
use Rattle.std.specs.Prelude.{ℕ, ◌+◌, ◌-◌, ◌%◌, Bool, not, cond, ◌&&◌, List, [], ◌∷◌, eqb, leb, ltb, get_or, ℤ, pos, negsuc, nat_abs, ◌+ℤ◌, ◌-ℤ◌}
use Rattle.std.specs.Int.Signed.{le_z}
use Rattle.std.specs.Prelude.{Result, length, replicate, ◌++◌, codes}
use Rattle.std.specs.Fmt.{decimal}
use Rattle.answer.specs.Answer.{Answer, ◌if◌, answer}
use Rattle.answer.specs.declared.Refusal.{Refusal}
use Rattle.answer.specs.Refusals.{said}
use Rattle.calendar.specs.declared.Date.{Date}
use Rattle.calendar.specs.Spans.{before, span_of}

-- ---- the years

-- "A year that 4 divides has 29 days in February." The rule stands here alone.
abbrev pub leap : ℕ → Bool
leap y = eqb (y % 4) 0

-- "Month lengths stand in a constant table": January to December, of a year that is not a leap year
abbrev pub month_lengths : List ℕ
month_lengths = 31 ∷ 28 ∷ 31 ∷ 30 ∷ 31 ∷ 30 ∷ 31 ∷ 31 ∷ 30 ∷ 31 ∷ 30 ∷ 31 ∷ []

-- the length of a month in a year that is a leap year or is not; here the first month, January, is 0, and February 1
unfoldable pub length_in : Bool → ℕ → ℕ
length_in l k = get_or month_lengths k 0 + cond (l && eqb k 1) 1 0

-- the length of a year's month
abbrev pub month_length : ℕ → ℕ → ℕ
month_length y = length_in (leap y)

-- the length of a year: that of its twelve months. The years are counted from 1901
unfoldable pub year_length : ℕ → ℕ
year_length k = before (month_length (1901 + k)) 12

-- ---- a date's day

-- "Years 1901 to 2199", a month of the year, and a day of the month
unfoldable pub is_date : Date → Bool
is_date t =
    leb 1901 t.year && leb t.year 2199
    && leb 1 t.month && leb t.month 12
    && leb 1 t.day && leb t.day (month_length t.year (t.month - 1))

-- the days from 1 January 1901 to a date
unfoldable pub days_to : Date → ℕ
days_to t = before year_length (t.year - 1901) + before (month_length t.year) (t.month - 1) + (t.day - 1)

-- "Day 0 is 1 January 1970"
abbrev pub day_zero : Date
day_zero = record { year = 1970; month = 1; day = 1 }

-- the number of a date's day: how many days it lies after 1 January 1970
unfoldable pub number_of : Date → ℤ
number_of t = pos (days_to t) -ℤ pos (days_to day_zero)

-- date to day number
unfoldable pub day_number_of : Date → Answer ℤ
day_number_of t = answer (22 if not (is_date t) ∷ []) (number_of t)

-- ---- a day's date

-- How it is found need not be believed: `DaysComeBack` and `DatesComeBack` (specs/Promises.antt) say that it is the one date with the day's number.

-- of the day that lies i days after 1 January 1901: its year, counted from 1901 and up to 2199, is the last that begins no later
abbrev pub year_at : ℕ → ℕ
year_at i = span_of year_length (2199 - 1901) i

-- so many days of that year lie before it
abbrev pub day_in_year : ℕ → ℕ
day_in_year i = i - before year_length (year_at i)

-- its month, counted from 0, is the last of that year that begins no later
abbrev pub month_at : ℕ → ℕ
month_at i = span_of (month_length (1901 + year_at i)) 11 (day_in_year i)

-- and this is its date
unfoldable pub date_at : ℕ → Date
date_at i =
    record {
      year = 1901 + year_at i;
      month = month_at i + 1;
      day = day_in_year i - before (month_length (1901 + year_at i)) (month_at i) + 1;
    }

-- "days -25,202 to 84,006"
unfoldable pub is_day : ℤ → Bool
is_day z = le_z (negsuc 25201) z && le_z z (pos 84006)

-- day number to date
unfoldable pub date_of : ℤ → Answer Date
date_of z = answer (22 if not (is_day z) ∷ []) (date_at (nat_abs (z +ℤ pos (days_to day_zero))))

-- ---- one day on

-- the date after: the next day of the month, else the first of the next month, else 1 January of the next year
unfoldable pub next_date : Date → Date
next_date t =
    cond (ltb t.day (month_length t.year (t.month - 1)))
    (record { year = t.year; month = t.month; day = t.day + 1 })
    (cond (ltb t.month 12)
    (record { year = t.year; month = t.month + 1; day = 1 })
    (record { year = t.year + 1; month = 1; day = 1 }))

-- the calendar's last date, which has no next
abbrev pub last_date : Date
last_date = record { year = 2199; month = 12; day = 31 }

-- ---- the answers: what each says

abbrev pub said_day : Result ℤ Refusal → Answer ℤ
said_day = said (λ z. z)

abbrev pub said_date : Result Date Refusal → Answer Date
said_date = said (λ t. t)

-- ---- a date as the programs print it: `1970-01-01`

-- 01, "Calendar": "Years 1901 to 2199": a year has four digits, a month and a day are printed with two
-- a number with zeros before it, up to so many digits
abbrev pub wide : ℕ → ℕ → List ℕ
wide digits n = replicate (digits - length (decimal n)) 48 ++ decimal n

-- 01, "The shelf": "Day 0 is 1 January 1970", which is printed as 1970-01-01
abbrev pub shown : Date → List ℕ
shown t = wide 4 t.year ++ (codes "-" ++ (wide 2 t.month ++ (codes "-" ++ wide 2 t.day)))
