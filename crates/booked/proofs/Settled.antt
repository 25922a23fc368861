-- That the statements of this crate settle the calls, as specs/Settled.antt states it.
--   settled : Settled
--   found_newest                   what a lookup that meets `LastSheetWith` finds in a good book
-- Assumes nothing.
use mathlib.Core.Path.{◌≡◌, refl, sym, ap, ◌∙◌}
use mathlib.Core.Logic.{inl, inr}
use mathlib.Core.Bool.{Bool, true, false}
use mathlib.Core.List.{List, ◌++◌}
use Prim.Native.Nat.{ℕ, ◌+◌}
use lib.Dec.{ltb}
use lib.ListN.{length, drop, take-append-drop}
use borrow.Author.Tests.{ltb-true, ltb-false}
use Rattle.std.specs.Prelude.{Option, Some, None}
use Rattle.answer.specs.Answer.{Answer, refused, answered}
use Rattle.sheet.specs.Good.{good}
use Rattle.book.specs.declared.Back.{Back}
use Rattle.book.specs.Sheets.{sheets_of}
use Rattle.book.specs.Good.{good_book}
use Rattle.book.specs.Counting.{count_of}
use Rattle.book.specs.Stepping.{step_back, place_after}
use Rattle.book.specs.Lookup.{LastSet, blank, entry, newest, cells_of, lookup_of}
use Rattle.book.specs.Adding.{becomes, added_of, room_of}
use Rattle.booked.specs.OneList.{GoodExactly, CountsThem}
use Rattle.booked.specs.Stepping.{StepGives, StepNone, AfterAStep}
use Rattle.booked.specs.Lookups.{LastSheetWith, LookupRefuses}
use Rattle.booked.specs.Adding.{Adding, SheetAdded, AddedTo, AddRefused, AddsIf}
use Rattle.booked.specs.Settled.{Settled}
use Rattle.booked.proofs.Laws.Sheets.{are_good}
use Rattle.booked.proofs.Laws.Newest.{newest_is, blank_newest, looked_up}
use Rattle.booked.proofs.OneList.{good_exactly, counts_them}
use Rattle.booked.proofs.Stepping.{step_gives, step_none}
use Rattle.booked.proofs.Lookups.{lookup_refuses}
use Rattle.booked.proofs.Adding.{added_to, add_refused, adds_if}

-- ---- a test of books, and a count

both_ways : (a b : Bool) → (a ≡ true → b ≡ true) → (b ≡ true → a ≡ true) → a ≡ b
both_ways true b f g = sym (f refl)
both_ways false true f g = g refl
both_ways false false f g = refl

test_is : (test : List ℕ → Bool) → GoodExactly test → (b : List ℕ) → test b ≡ good_book b
test_is test exactly b =
    both_ways (test b) (good_book b) (λ t. (good_exactly b).1 ((exactly b).0 t)) (λ g. (exactly b).1 ((good_exactly b).0 g))

count_is : (count : List ℕ → Answer ℕ) → CountsThem count → (b : List ℕ) → count b ≡ count_of b
count_is count counts b = by_test (good_book b) refl
  where
    by_test : (g : Bool) → good_book b ≡ g → count b ≡ count_of b
    by_test true g = let made = (good_exactly b).0 g in counts.counted b made.0 made.1 ∙ sym (counts_them.counted b made.0 made.1)
    by_test false g = (counts.not_good b).1 g ∙ sym ((counts_them.not_good b).1 g)

-- ---- a step

step_is : (step : List ℕ → ℕ → Option Back) → StepGives step → StepNone step → (b : List ℕ) (place : ℕ) → step b place ≡ step_back b place
step_is step gives Gives-none b place = by_step (step_back b place) refl
  where
    by_step : (r : Option Back) → step_back b place ≡ r → step b place ≡ step_back b place
    by_step None e = (Gives-none b place).1 ((step_none b place).0 e) ∙ sym e
    by_step (Some s) e = (gives b place s).1 ((step_gives b place s).0 e) ∙ sym e

next_is : (next : Option Back → ℕ → ℕ) → AfterAStep next → (r : Option Back) (place : ℕ) → next r place ≡ place_after r place
next_is next after (Some s) place = after.at_its_start s place
next_is next after None place = after.where_it_was place

-- ---- a lookup

module _ (look : List ℕ → ℕ → Answer LastSet) (last : LastSheetWith look) (b : List ℕ) (cell : ℕ) where
  pub found_newest : good_book b ≡ true → (found : LastSet) → look b cell ≡ answered found → found ≡ newest cell (sheets_of b)
  found_newest g blank e = sym (blank_newest cell (sheets_of b) ((last.blank_exactly b cell blank e).0 refl))
  found_newest g (entry c turn) e = sym (newest_is cell (sheets_of b) (are_good (sheets_of b) g) c turn (last.its_entry b cell c turn e))

  look_is : LookupRefuses look → look b cell ≡ lookup_of b cell
  look_is refuses = by_test (good_book b) refl (ltb cell (cells_of (sheets_of b))) refl
    where
      by_test : (g : Bool) → good_book b ≡ g → (t : Bool) → ltb cell (cells_of (sheets_of b)) ≡ t → look b cell ≡ lookup_of b cell
      by_test false g t q = (refuses.exactly_23 b cell).1 g ∙ sym ((lookup_refuses.exactly_23 b cell).1 g)
      by_test true g false q =
          let past = ltb-false cell (cells_of (sheets_of b)) q in
          (refuses.exactly_6 b cell).1 (g, past) ∙ sym ((lookup_refuses.exactly_6 b cell).1 (g, past))
      by_test true g true q =
          let below = ltb-true cell (cells_of (sheets_of b)) q in
          let answers = refuses.else_answers b cell g below in
          answers.1 ∙ ap answered (found_newest g answers.0 answers.1) ∙ sym (looked_up b cell g below)

-- ---- adding

module _ (add : Adding) (if_so : AddsIf add) (room : List ℕ) (len : ℕ) (s : List ℕ) where
  add_is : add.answers room len s ≡ added_of room len s
  add_is = by_test (good s) refl (ltb (length room) len) refl (good_book (becomes room len s)) refl (ltb (length room) (len + length s)) refl
    where
      by_test : (g : Bool) → good s ≡ g → (t : Bool) → ltb (length room) len ≡ t → (b : Bool) → good_book (becomes room len s) ≡ b
          → (r : Bool) → ltb (length room) (len + length s) ≡ r → add.answers room len s ≡ added_of room len s
      by_test false g t p b q r h = (if_so.exactly_13 room len s).1 g ∙ sym ((adds_if.exactly_13 room len s).1 g)
      by_test true g true p b q r h =
          let beyond = ltb-true (length room) len p in
          (if_so.exactly_23 room len s).1 (g, inl beyond) ∙ sym ((adds_if.exactly_23 room len s).1 (g, inl beyond))
      by_test true g false p false q r h = (if_so.exactly_23 room len s).1 (g, inr q) ∙ sym ((adds_if.exactly_23 room len s).1 (g, inr q))
      by_test true g false p true q true h =
          let within = ltb-false (length room) len p in
          let short = ltb-true (length room) (len + length s) h in
          (if_so.exactly_11 room len s).1 (g, within, q, short) ∙ sym ((adds_if.exactly_11 room len s).1 (g, within, q, short))
      by_test true g false p true q false h =
          let fits = ltb-false (length room) (len + length s) h in
          (if_so.exactly_added room len s).1 (g, q, fits) ∙ sym ((adds_if.exactly_added room len s).1 (g, q, fits))

  module _ (to : AddedTo add) (keeps : AddRefused add) where
    -- a room with a sheet added is the book as it became, and the rest
    whole : (new : ℕ) (after : List ℕ) → SheetAdded room len s new after → after ≡ becomes room len s ++ drop new room
    whole new after a =
        sym (take-append-drop new after)
        ∙ ap (λ (l : List ℕ). l ++ drop new after) a.at_the_end
        ∙ ap (λ (l : List ℕ). becomes room len s ++ l) a.stay

    room_is : add.leaves room len s ≡ room_of room len s
    room_is = by_answer (added_of room len s) refl
      where
        by_answer : (r : Answer ℕ) → added_of room len s ≡ r → add.leaves room len s ≡ room_of room len s
        by_answer (refused k) e = keeps room len s k (add_is ∙ e) ∙ sym (add_refused room len s k e)
        by_answer (answered new) e =
            whole new (add.leaves room len s) (to room len s new (add_is ∙ e)) ∙ sym (whole new (room_of room len s) (added_to room len s new e))

pub settled : Settled
settled =
    record {
      test = test_is;
      count = count_is;
      step = step_is;
      next = next_is;
      look = λ look refuses last b cell. look_is look last b cell refuses;
      add = add_is;
      room = λ add if_so to keeps room len s. room_is add if_so room len s to keeps;
    }
