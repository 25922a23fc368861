-- Wrong calls on books: each is document 02's but for what is said of it here, and there is a book
-- of which a statement of this crate is false. So each statement says something of the calls.
-- proofs/WrongBooks.antt proves it.
-- Assumes nothing.
use Rattle.std.specs.Prelude.{Bool, true, false, not, cond, ◌&&◌, ◌||◌, List, [], ◌∷◌, ◌++◌, ℕ, ◌+◌, ◌-◌, eqb, leb, ltb, pos, length, take, drop, replicate, Option, Some, None}
use Rattle.answer.specs.Answer.{Answer, refused, answered, accepted, ◌if◌, answer}
use Rattle.content.specs.declared.Content.TheVariants.{Day}
use Rattle.sheet.specs.Good.{good}
use Rattle.book.specs.declared.Back.{Back}
use Rattle.book.specs.Sheets.{last_start, last_sheet, sheets_of}
use Rattle.book.specs.Good.{numbers_in, every_sheet, good_book}
use Rattle.book.specs.Stepping.{step_back, place_after}
use Rattle.book.specs.Lookup.{LastSet, blank, entry, entries_in, entry_on, or_older, newest, cells_of, lookup_rules, lookup_of}
use Rattle.book.specs.Adding.{becomes, added_of, room_of}
use Rattle.booked.specs.OneList.{GoodExactly, NoBytesAreGood, AnyFirstNumber, CountsThem}
use Rattle.booked.specs.Stepping.{StepGives, StepNone, NoneAtTheFront, AfterAStep, StepsThrough}
use Rattle.booked.specs.Lookups.{LastSheetWith, LookupRefuses, NoBytesHave64Cells}
use Rattle.booked.specs.Laid.{FoundIsLaid, NoEntryIsBlank}
use Rattle.booked.specs.Adding.{Adding, adding02, AddedTo, AddedLookup, AddRefused, AddsIf, NoneAfterTheLast}
use Rattle.booked.specs.OfARun.{RunsBookIsGood, EachIsAdded, LastSent}

-- ---- small sheets, of two desks and two cells

-- 01, example 1: day 0 in cell 1, number 0
abbrev pub day_sheet : List ℕ
day_sheet =
    0x01 ∷ 0x02 ∷ 0x00 ∷ 0x00 ∷ 0x00 ∷ 0x00 ∷ 0x06 ∷ 0x00 ∷ 0x01 ∷ 0x00 ∷ 0x02 ∷ 0x02 ∷ 0x00 ∷ 0x00 ∷ 0x00 ∷ 0x00 ∷ 0x00 ∷ 0x00 ∷ []

-- open in cell 1, number 1
abbrev pub open_sheet : List ℕ
open_sheet =
    0x01 ∷ 0x01 ∷ 0x00 ∷ 0x00 ∷ 0x00 ∷ 0x00 ∷ 0x06 ∷ 0x00 ∷ 0x01 ∷ 0x01 ∷ 0x02 ∷ 0x02 ∷ 0x00 ∷ 0x00 ∷ 0x01 ∷ 0x00 ∷ 0x00 ∷ 0x00 ∷ []

-- empty, of this sender and with this low byte of the number; the other three bytes are all the
-- same
abbrev pub empty_sheet : (sender low high : ℕ) → List ℕ
empty_sheet sender low high = 0x00 ∷ 0x00 ∷ 0x00 ∷ sender ∷ 0x02 ∷ 0x02 ∷ 0x00 ∷ 0x00 ∷ low ∷ high ∷ high ∷ high ∷ []

-- numbers 1 and 2; and the last, 4,294,967,294, with the number that would wrap
abbrev pub empty1 : List ℕ
empty1 = empty_sheet 1 0x01 0x00

abbrev pub empty2 : List ℕ
empty2 = empty_sheet 0 0x02 0x00

abbrev pub empty_last : List ℕ
empty_last = empty_sheet 0 0xFE 0xFF

abbrev pub empty0 : List ℕ
empty0 = empty_sheet 0 0x00 0x00

-- ---- wrong tests of a book

-- every sheet is good: shelves and numbers are not looked at
unfoldable pub sheets_alone : List ℕ → Bool
sheets_alone b = every_sheet good (sheets_of b)

-- a book has at least one byte
unfoldable pub some_bytes : List ℕ → Bool
some_bytes b = good_book b && not (eqb (length b) 0)

-- the first number is 0
abbrev pub first_is0 : List (List ℕ) → Bool
first_is0 [] = true
first_is0 (s ∷ []) = eqb (numbers_in s).turn 0
first_is0 (s ∷ o ∷ older) = first_is0 (o ∷ older)

unfoldable pub from_number0 : List ℕ → Bool
from_number0 b = good_book b && first_is0 (sheets_of b)

-- and a wrong count: the book is not tested
unfoldable pub count_untested : List ℕ → Answer ℕ
count_untested b = answered (length (sheets_of b))

-- ---- wrong steps

-- it does not look whether the place is in the book
unfoldable pub step_beyond : List ℕ → ℕ → Option Back
step_beyond b place =
    let up_to = take place b in
    cond (good (last_sheet up_to)) (Some (record { start = last_start up_to; end = place; numbers = numbers_in (last_sheet up_to) })) None

-- at the front it gives a part of no bytes
unfoldable pub step_at_front : List ℕ → ℕ → Option Back
step_at_front b place = cond (eqb place 0) (Some (record { start = 0; end = 0; numbers = numbers_in [] })) (step_back b place)

-- after a sheet the reader stays where it was
unfoldable pub stays : Option Back → ℕ → ℕ
stays step place = place

-- where none comes the reader goes to the front
unfoldable pub to_front : Option Back → ℕ → ℕ
to_front step place = place_after step 0

-- ---- wrong lookups

-- the oldest entry for a cell: what the older sheets have, or else this one's
abbrev pub or_newer : LastSet → LastSet → LastSet
or_newer blank newer = newer
or_newer (entry c turn) newer = entry c turn

unfoldable pub oldest : ℕ → List (List ℕ) → LastSet
oldest cell [] = blank
oldest cell (s ∷ older) = or_newer (oldest cell older) (or_older (entry_on cell (entries_in s)) (numbers_in s).turn blank)

unfoldable pub look_oldest : List ℕ → ℕ → Answer LastSet
look_oldest b cell = answer (lookup_rules b cell) (oldest cell (sheets_of b))

-- 02's answer, with something else found
abbrev pub otherwise : (LastSet → LastSet) → Answer LastSet → Answer LastSet
otherwise f (refused k) = refused k
otherwise f (answered found) = answered (f found)

-- day 0 of turn 0 where there is no entry
abbrev pub day0 : LastSet → LastSet
day0 blank = entry (Day (pos 0)) 0
day0 (entry c turn) = entry c turn

unfoldable pub look_day0 : List ℕ → ℕ → Answer LastSet
look_day0 b cell = otherwise day0 (lookup_of b cell)

-- the newest sheet's number, whichever sheet has the entry
abbrev pub newest_number : List (List ℕ) → LastSet → LastSet
newest_number ss blank = blank
newest_number [] (entry c turn) = entry c turn
newest_number (s ∷ ss) (entry c turn) = entry c (numbers_in s).turn

unfoldable pub look_newest_number : List ℕ → ℕ → Answer LastSet
look_newest_number b cell = otherwise (newest_number (sheets_of b)) (lookup_of b cell)

-- the book is not tested
unfoldable pub look_untested : List ℕ → ℕ → Answer LastSet
look_untested b cell = answer (6 if not (ltb cell (cells_of (sheets_of b))) ∷ []) (newest cell (sheets_of b))

-- 6 before 23
unfoldable pub look6_first : List ℕ → ℕ → Answer LastSet
look6_first b cell = answer (6 if not (ltb cell (cells_of (sheets_of b))) ∷ 23 if not (good_book b) ∷ []) (newest cell (sheets_of b))

-- a book of no bytes has this many cells
unfoldable pub look_no_bytes : (cells : ℕ) → List ℕ → ℕ → Answer LastSet
look_no_bytes cells [] cell = answer (6 if not (ltb cell cells) ∷ []) blank
look_no_bytes cells (byte ∷ b) cell = lookup_of (byte ∷ b) cell

-- ---- wrong ways of adding

-- the sheet is laid down before the tests
unfoldable pub laid_first : List ℕ → ℕ → List ℕ → List ℕ
laid_first room len s = becomes room len s ++ drop (len + length s) room

abbrev pub lays_first : Adding
lays_first = record { answers = added_of; leaves = laid_first }

-- where a sheet is added, the bytes past it become zeros
unfoldable pub zeros_past : List ℕ → ℕ → List ℕ → List ℕ
zeros_past room len s =
    cond (accepted (added_of room len s)) (becomes room len s ++ replicate (length room - (len + length s)) 0) room

abbrev pub clears_the_rest : Adding
clears_the_rest = record { answers = added_of; leaves = zeros_past }

-- 11 before 23
unfoldable pub room_first : List ℕ → ℕ → List ℕ → Answer ℕ
room_first room len s =
    answer
    (13 if not (good s) ∷ 11 if ltb (length room - len) (length s) ∷ 23 if (ltb (length room) len || not (good_book (becomes room len s))) ∷ [])
    (len + length s)

abbrev pub tests_room_first : Adding
tests_room_first = record { answers = room_first; leaves = room_of }

-- 11 where the sheet just fits, too
unfoldable pub one_byte_more : List ℕ → ℕ → List ℕ → Answer ℕ
one_byte_more room len s =
    answer
    (13 if not (good s) ∷ 23 if (ltb (length room) len || not (good_book (becomes room len s))) ∷ 11 if leb (length room - len) (length s) ∷ [])
    (len + length s)

abbrev pub wants_one_byte_more : Adding
wants_one_byte_more = record { answers = one_byte_more; leaves = room_of }

-- after the last number comes 0
abbrev pub last_then0 : List (List ℕ) → List ℕ → Bool
last_then0 [] s = false
last_then0 (o ∷ older) s = eqb (numbers_in o).turn 4294967294 && eqb (numbers_in s).turn 0

abbrev pub wraps_here : List ℕ → ℕ → List ℕ → Bool
wraps_here room len s = good s && last_then0 (sheets_of (take len room)) s

unfoldable pub wrapped : List ℕ → ℕ → List ℕ → Answer ℕ
wrapped room len s = cond (wraps_here room len s) (answered (len + length s)) (added_of room len s)

unfoldable pub wrapped_room : List ℕ → ℕ → List ℕ → List ℕ
wrapped_room room len s = cond (wraps_here room len s) (laid_first room len s) (room_of room len s)

abbrev pub wraps : Adding
wraps = record { answers = wrapped; leaves = wrapped_room }

-- ---- of which the statements are false

pub record EachBites : Type 0 where
  pub sheets_alone_is_out : GoodExactly sheets_alone → ⊥
  pub some_bytes_is_out : NoBytesAreGood some_bytes → ⊥
  pub from_number_0 : AnyFirstNumber from_number0 → ⊥
  pub untested_count : CountsThem count_untested → ⊥
  pub beyond_gives : StepGives step_beyond → ⊥
  pub beyond_none : StepNone step_beyond → ⊥
  pub at_front : NoneAtTheFront step_at_front → ⊥
  pub stays_after : AfterAStep stays → ⊥
  pub to_front_is_out : AfterAStep to_front → ⊥
  pub stays_there : StepsThrough step_back stays → ⊥
  pub oldest_content : FoundIsLaid look_oldest → ⊥
  pub oldest_entry : LastSheetWith look_oldest → ⊥
  pub day0_content : FoundIsLaid look_day0 → ⊥
  pub day0_blank : NoEntryIsBlank look_day0 → ⊥
  pub day0_entry : LastSheetWith look_day0 → ⊥
  pub newest_number_is_out : LastSheetWith look_newest_number → ⊥
  pub untested : LookupRefuses look_untested → ⊥
  pub six_first : LookupRefuses look6_first → ⊥
  pub cells_63 : NoBytesHave64Cells (look_no_bytes 63) → ⊥
  pub cells_65 : NoBytesHave64Cells (look_no_bytes 65) → ⊥
  pub oldest_added : AddedLookup adding02 look_oldest → ⊥
  pub lays_first_is_out : AddRefused lays_first → ⊥
  pub clears_the_rest_is_out : AddedTo clears_the_rest → ⊥
  pub room_first_is_out : AddsIf tests_room_first → ⊥
  pub wraps_around : NoneAfterTheLast wraps → ⊥
  pub run_some_bytes : RunsBookIsGood some_bytes → ⊥
  pub run_one_byte_more : EachIsAdded wants_one_byte_more → ⊥
  pub run_day0 : LastSent look_day0 → ⊥
