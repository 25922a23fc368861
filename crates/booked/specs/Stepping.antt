-- 02, K1: "A reader keeps the book and the place it has got to, and gives back each sheet as the
-- very part of the book that holds it." "A step back gives none at the front or where no good sheet
-- ends". What a step gives is said here without a trailer's distance: by the good sheet that ends
-- at the place. proofs/Stepping.antt proves it of `step_back` and `place_after`.
-- Assumes nothing.
use Rattle.std.specs.Prelude.{◌≡◌, ◌↔◌, true, List, [], ◌∷◌, ℕ, ◌≤◌, length, Option, Some, None}
use Rattle.sheet.specs.Good.{good}
use Rattle.book.specs.declared.Back.{Back}
use Rattle.book.specs.Sheets.{end_to_end}
use Rattle.book.specs.Good.{numbers_in, every_sheet}
use Rattle.book.specs.Stepping.{part_of}

-- ---- one step

-- the part of a book from `start` to a place in it is a good sheet
pub record SheetEndsAt (b : List ℕ) (place start : ℕ) : Type 0 where
  pub starts_before : start ≤ place
  pub in_book : place ≤ length b
  pub is_good : good (part_of b start place) ≡ true

-- what a step gives is that sheet, from its start to the place, with its numbers: so there is one
-- at most
abbrev pub StepGives : (List ℕ → ℕ → Option Back) → Type 0
StepGives step =
    (b : List ℕ) (place : ℕ) (s : Back)
    → (step b place ≡ Some s) ↔ (SheetEndsAt b place s.start × (s.end ≡ place) × (s.numbers ≡ numbers_in (part_of b s.start place)))

-- none "where no good sheet ends", and only there
abbrev pub StepNone : (List ℕ → ℕ → Option Back) → Type 0
StepNone step = (b : List ℕ) (place : ℕ) → (step b place ≡ None) ↔ ((start : ℕ) → SheetEndsAt b place start → ⊥)

-- none "at the front"
abbrev pub NoneAtTheFront : (List ℕ → ℕ → Option Back) → Type 0
NoneAtTheFront step = (b : List ℕ) → step b 0 ≡ None

-- where a reader stands after a step. "the trailer gives the last sheet's start, and the sheet
-- before ends there": at the start of the sheet that it gave. "keeps .. the place it has got to":
-- where none comes it has got no further
pub record AfterAStep (next : Option Back → ℕ → ℕ) : Type 0 where
  pub at_its_start : (s : Back) (place : ℕ) → next (Some s) place ≡ s.start
  pub where_it_was : (place : ℕ) → next None place ≡ place

-- ---- from a place on

-- a reader at this place that steps back until none comes is given these parts of the book. `next`
-- is where it stands after a step
pub data GivesBack (step : List ℕ → ℕ → Option Back) (next : Option Back → ℕ → ℕ) (b : List ℕ) : ℕ → List (List ℕ) → Type 0 where
  none_comes : {place : ℕ} → step b place ≡ None → GivesBack step next b place []
  one_back : {place : ℕ} {s : Back} {older : List (List ℕ)}
      → step b place ≡ Some s
      → GivesBack step next b (next (Some s) place) older
      → GivesBack step next b place (part_of b s.start s.end ∷ older)

-- from the end of good sheets end to end: all of them, each once, the newest first. So it is of
-- every good book (specs/OneList.antt)
abbrev pub StepsThrough : (List ℕ → ℕ → Option Back) → (Option Back → ℕ → ℕ) → Type 0
StepsThrough step next =
    (ss : List (List ℕ)) → every_sheet good ss ≡ true → GivesBack step next (end_to_end ss) (length (end_to_end ss)) ss

-- and no other list, from any place: that is so whatever a step gives, and says nothing of a call
abbrev pub StepsOnce : Type 0
StepsOnce =
    (step : List ℕ → ℕ → Option Back) (next : Option Back → ℕ → ℕ) (b : List ℕ) (place : ℕ) (ss ts : List (List ℕ))
    → GivesBack step next b place ss → GivesBack step next b place ts → ss ≡ ts
