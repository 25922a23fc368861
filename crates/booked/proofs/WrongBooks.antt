-- The books of specs/WrongBooks.antt by computing, and of each wrong call the statement that is
-- false of it.
--   each_bites : EachBites
-- Assumes nothing.
use mathlib.Core.Path.{◌≡◌, refl, sym, ap, ◌∙◌}
use mathlib.Core.Logic.{inr}
use mathlib.Core.Bool.{false≢true}
use mathlib.Core.List.{List, [], ◌∷◌, ◌++◌}
use Prim.Native.Nat.{ℕ}
use native.Mathlib.Omega.{arith}
use lib.IntN.{pos}
use lib.ListN.{length, get_or, replicate}
use Rattle.std.proofs.lemmas.Option.{none-some}
use Rattle.answer.specs.Answer.{Answer, refused, answered}
use Rattle.answer.proofs.Laws.{refused_is_not_answered}
use Rattle.content.specs.declared.Content.{Content}
use Rattle.content.specs.declared.Content.TheVariants.{Open, Day}
use Rattle.content.proofs.Laws.Content.{never_meet}
use Rattle.layout.specs.Layout.{entry_of}
use Rattle.cells.specs.Cells.{each, anywhere}
use Rattle.sound.specs.Sound.{sound_of}
use Rattle.pending.specs.Pending.{pending_below, sheet_of}
use Rattle.runs.specs.Call.{Call, sends}
use Rattle.runs.specs.Run.{Shelf, start, after, Run, RunOn, after_all}
use Rattle.desk.specs.Calls.{document01, open_of, send_of}
use Rattle.book.specs.Good.{numbers_in}
use Rattle.book.specs.Stepping.{step_back}
use Rattle.book.specs.Lookup.{LastSet, blank, entry}
use Rattle.booked.specs.OneList.{GoodExactly, NoBytesAreGood, AnyFirstNumber, CountsThem}
use Rattle.booked.specs.Stepping.{StepGives, StepNone, NoneAtTheFront, AfterAStep, StepsThrough, GivesBack, none_comes, one_back}
use Rattle.booked.specs.Lookups.{here, LastSheetWith, LookupRefuses, NoBytesHave64Cells}
use Rattle.booked.specs.Laid.{FoundIsLaid, NoEntryIsBlank}
use Rattle.booked.specs.Adding.{adding02, AddedTo, AddedLookup, AddRefused, AddsIf, NoneAfterTheLast}
use Rattle.booked.specs.OfARun.{RunsBookIsGood, EachIsAdded, LastSent}
use Rattle.booked.specs.WrongBooks.{day_sheet, open_sheet, empty1, empty2, empty_last, empty0, sheets_alone, some_bytes, from_number0, count_untested, step_beyond, step_at_front, stays, to_front, oldest, look_oldest, look_day0, look_newest_number, look_untested, look6_first, look_no_bytes, laid_first, lays_first, zeros_past, clears_the_rest, room_first, tests_room_first, one_byte_more, wants_one_byte_more, wrapped, wraps, EachBites}
use Rattle.booked.proofs.Laws.Newest.{entry_is_not_blank}
use Rattle.booked.proofs.Laws.Computing.{computing}
use Rattle.booked.proofs.OneList.{good_exactly}
use Rattle.booked.proofs.Settled.{found_newest}

-- ---- a test of a book

sheets_alone_is_out : GoodExactly sheets_alone → ⊥
unfolding computing sheets_alone
sheets_alone_is_out part = false≢true ((good_exactly (day_sheet ++ empty2)).1 ((part (day_sheet ++ empty2)).0 refl))

some_bytes_is_out : NoBytesAreGood some_bytes → ⊥
unfolding computing some_bytes
some_bytes_is_out part = false≢true part

from_number_0 : AnyFirstNumber from_number0 → ⊥
unfolding computing from_number0
from_number_0 part = false≢true (part empty1 refl)

untested_count : CountsThem count_untested → ⊥
unfolding computing count_untested
untested_count part = refused_is_not_answered 23 2 (sym ((part.not_good (day_sheet ++ empty2)).1 refl))

-- ---- a step

beyond_gives : StepGives step_beyond → ⊥
unfolding computing step_beyond
beyond_gives part = let ends = (part day_sheet 19 (record { start = 0; end = 19; numbers = numbers_in day_sheet })).0 refl in omega (arith, ends.0.in_book)

beyond_none : StepNone step_beyond → ⊥
unfolding computing step_beyond
beyond_none part =
    none-some _ (sym ((part day_sheet 19).1 (λ start ends. omega (arith, ends.in_book))))

at_front : NoneAtTheFront step_at_front → ⊥
unfolding step_at_front
at_front part = none-some _ (sym (part []))

stays_after : AfterAStep stays → ⊥
unfolding stays
stays_after part = omega (arith, part.at_its_start (record { start = 0; end = 18; numbers = numbers_in day_sheet }) 18)

to_front_is_out : AfterAStep to_front → ⊥
unfolding to_front
to_front_is_out part = omega (arith, part.where_it_was 18)

-- it gives the sheet again and again
no_end : {place : ℕ} {ss : List (List ℕ)} → GivesBack step_back stays day_sheet place ss → place ≡ 18 → ⊥
unfolding computing stays
no_end (none_comes e) at = none-some _ (sym (ap (step_back day_sheet) (sym at) ∙ e))
no_end (one_back e further) at = no_end further at

stays_there : StepsThrough step_back stays → ⊥
unfolding computing
stays_there part = no_end (part (day_sheet ∷ []) refl) refl

-- ---- a lookup

same_number : (c d : Content) (j k : ℕ) → entry c j ≡ entry d k → j ≡ k
same_number c d j k e = cc

oldest_content : FoundIsLaid look_oldest → ⊥
unfolding computing oldest look_oldest
oldest_content part = never_meet.open_is_no_day (pos 0) (sym (part [] (day_sheet ++ open_sheet) 1 (entry (Day (pos 0)) 0) refl))

oldest_entry : LastSheetWith look_oldest → ⊥
unfolding computing oldest look_oldest
oldest_entry part =
    let e = same_number (Day (pos 0)) Open 0 1 (found_newest look_oldest part (day_sheet ++ open_sheet) 1 refl (entry (Day (pos 0)) 0) refl) in
    omega arith

day0_content : FoundIsLaid look_day0 → ⊥
unfolding computing look_day0
day0_content part = never_meet.blank_is_no_day (pos 0) (sym (part [] [] 0 (entry (Day (pos 0)) 0) refl))

day0_blank : NoEntryIsBlank look_day0 → ⊥
unfolding computing look_day0
day0_blank part = entry_is_not_blank (Day (pos 0)) 0 ((part.blank_exactly [] [] 0 (entry (Day (pos 0)) 0) refl).1 refl)

day0_entry : LastSheetWith look_day0 → ⊥
unfolding computing look_day0
day0_entry part = entry_is_not_blank (Day (pos 0)) 0 (found_newest look_day0 part [] 0 refl (entry (Day (pos 0)) 0) refl)

newest_number_is_out : LastSheetWith look_newest_number → ⊥
unfolding computing look_newest_number
newest_number_is_out part =
    let e = same_number (Day (pos 0)) (Day (pos 0)) 1 0 (found_newest look_newest_number part (day_sheet ++ empty1) 1 refl (entry (Day (pos 0)) 1) refl) in
    omega arith

untested : LookupRefuses look_untested → ⊥
unfolding computing look_untested
untested part = refused_is_not_answered 23 blank (sym ((part.exactly_23 (day_sheet ++ empty2) 0).1 refl))

six_first : LookupRefuses look6_first → ⊥
unfolding computing look6_first
six_first part =
    let six : ◌≡◌ {A = Answer LastSet} (refused 6) (refused 23) = (part.exactly_23 (0 ∷ []) 64).1 refl in
    let e : ◌≡◌ {A = ℕ} 6 23 = cc in
    omega arith

cells_63 : NoBytesHave64Cells (look_no_bytes 63) → ⊥
unfolding look_no_bytes
cells_63 part = refused_is_not_answered 6 blank (part.blank_below 63 (omega arith))

cells_65 : NoBytesHave64Cells (look_no_bytes 65) → ⊥
unfolding look_no_bytes
cells_65 part = refused_is_not_answered 6 blank (sym (part.refused_above 64 (omega arith)))

-- ---- adding

oldest_added : AddedLookup adding02 look_oldest → ⊥
unfolding computing oldest look_oldest
oldest_added part =
    let found : ◌≡◌ {A = Answer LastSet} (answered (entry (Day (pos 0)) 0)) (answered (entry Open 1)) =
    part.from_sheet (day_sheet ++ replicate 18 0) 18 open_sheet 36 refl 1 (omega arith) (entry_of open_sheet) (record { in_sheet = here; its_cell = refl })
    in
    let e : ◌≡◌ {A = ℕ} 0 1 = cc in
    omega arith

lays_first_is_out : AddRefused lays_first → ⊥
unfolding computing laid_first
lays_first_is_out part = let e = ap length (part day_sheet 18 empty1 11 refl) in omega arith

clears_the_rest_is_out : AddedTo clears_the_rest → ⊥
unfolding computing zeros_past
clears_the_rest_is_out part =
    let e = ap (λ (l : List ℕ). get_or l 0 0) (part (day_sheet ++ replicate 13 0xAA) 18 empty1 30 refl).stay in
    omega arith

room_first_is_out : AddsIf tests_room_first → ⊥
unfolding computing room_first
room_first_is_out part =
    let eleven : ◌≡◌ {A = Answer ℕ} (refused 11) (refused 23) =
    (part.exactly_23 (day_sheet ++ replicate 11 0xAA) 18 empty2).1 (refl, inr refl)
    in
    let e : ◌≡◌ {A = ℕ} 11 23 = cc in
    omega arith

wraps_around : NoneAfterTheLast wraps → ⊥
unfolding computing wrapped
wraps_around part = refused_is_not_answered 23 24 (sym (part empty_last 12 empty_last [] refl refl empty0 refl))

-- ---- the book of a run

-- no calls on a shelf of one desk and one cell
shelf : Shelf
shelf = record { n = 1; m = 1; mode = λ p. 2 }

no_calls : RunOn document01 shelf []
unfolding Run shelf
no_calls =
    record {
      within =
          record { desks_least = omega arith; desks_most = omega arith; cells_least = omega arith; cells_most = omega arith; modes_most = λ p h. omega arith };
      run = tt;
    }

run_some_bytes : RunsBookIsGood some_bytes → ⊥
unfolding computing some_bytes start after_all
run_some_bytes part = false≢true (part shelf [] no_calls).is_good

-- its one desk sends a sheet without entries
one_send : List Call
one_send = sends 0 (replicate 12 0) ∷ []

sends_one : RunOn document01 shelf one_send
unfolding Run shelf one_send
sends_one = record { within = no_calls.within; run = (omega arith, tt) }

run_one_byte_more : EachIsAdded wants_one_byte_more → ⊥
unfolding computing one_byte_more start after after_all open_of send_of sound_of each anywhere sheet_of pending_below shelf one_send
run_one_byte_more part = refused_is_not_answered 11 12 (part shelf one_send sends_one 0 (omega arith) (replicate 12 0) refl (omega arith)).answers

run_day0 : LastSent look_day0 → ⊥
unfolding computing look_day0 start after_all shelf
run_day0 part =
    let looked = part shelf [] no_calls 0 (omega arith) in
    let found : ◌≡◌ {A = Answer LastSet} (answered (entry (Day (pos 0)) 0)) (answered looked.found) = looked.answers in
    let is : looked.found ≡ entry (Day (pos 0)) 0 = cc in
    omega (arith, (looked.set_by (Day (pos 0)) 0 is).sent)

pub each_bites : EachBites
each_bites =
    record {
      sheets_alone_is_out = sheets_alone_is_out;
      some_bytes_is_out = some_bytes_is_out;
      from_number_0 = from_number_0;
      untested_count = untested_count;
      beyond_gives = beyond_gives;
      beyond_none = beyond_none;
      at_front = at_front;
      stays_after = stays_after;
      to_front_is_out = to_front_is_out;
      stays_there = stays_there;
      oldest_content = oldest_content;
      oldest_entry = oldest_entry;
      day0_content = day0_content;
      day0_blank = day0_blank;
      day0_entry = day0_entry;
      newest_number_is_out = newest_number_is_out;
      untested = untested;
      six_first = six_first;
      cells_63 = cells_63;
      cells_65 = cells_65;
      oldest_added = oldest_added;
      lays_first_is_out = lays_first_is_out;
      clears_the_rest_is_out = clears_the_rest_is_out;
      room_first_is_out = room_first_is_out;
      wraps_around = wraps_around;
      run_some_bytes = run_some_bytes;
      run_one_byte_more = run_one_byte_more;
      run_day0 = run_day0;
    }
