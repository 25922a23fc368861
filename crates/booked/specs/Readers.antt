-- 02, K1: "A reader keeps the book and the place it has got to, and gives back each sheet as the
-- very part of the book that holds it." `at_end` and `StepsBack` (crates/reader/specs/Reading.antt)
-- are what the contracts of `Reader::opened` and `Reader::back` say. What a reader gives that was
-- opened so and steps back so is said here. proofs/Readers.antt proves it.
-- Assumes nothing.
use Rattle.std.specs.Prelude.{◌≡◌, true, List, [], ◌∷◌, ℕ, Some, None}
use Rattle.std.specs.Borrow.{Bor}
use Rattle.sheet.specs.Good.{good}
use Rattle.book.specs.declared.Back.{Back}
use Rattle.book.specs.Sheets.{end_to_end}
use Rattle.book.specs.Good.{every_sheet}
use Rattle.book.specs.Stepping.{part_of}
use Rattle.reader.specs.declared.Reader.{Reader}
use Rattle.reader.specs.Reading.{at_end, StepsBack}

-- this reader steps back until none comes, and is given these parts of its book
pub data ReadsBack : Reader → List (List ℕ) → Type 0 where
  none_comes : {before after : Reader} → StepsBack before None after → ReadsBack before []
  one_back : {before after : Reader} {s : Back} {older : List (List ℕ)}
      → StepsBack before (Some s) after
      → ReadsBack after older
      → ReadsBack before (part_of before.book.now s.start s.end ∷ older)

-- "A book opens at its end": a reader opened on a slice that holds good sheets end to end can step
-- back so, and is given all of them, each once, the newest first; and whatever it is given by such
-- steps is that list. So it is of every good book (specs/OneList.antt)
pub record ReadsThrough : Type 0 where
  pub all_of_them : (ss : List (List ℕ)) → every_sheet good ss ≡ true → (book : Bor (List ℕ)) → book.now ≡ end_to_end ss → ReadsBack (at_end book) ss
  pub nothing_else : (ss : List (List ℕ)) → every_sheet good ss ≡ true → (book : Bor (List ℕ)) → book.now ≡ end_to_end ss
      → (given : List (List ℕ)) → ReadsBack (at_end book) given → given ≡ ss
