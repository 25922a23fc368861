-- 02, K1: "Keep sent sheets end to end in one lent book in turn order. A book opens at its end: the
-- trailer gives the last sheet's start, and the sheet before ends there." So a book is cut in one
-- way only: the bytes of an entry may look like a trailer, and make no second list.
-- proofs/OneList.antt proves it. What is about a call is stated of any such call, so that it can be
-- shown false of wrong ones (specs/WrongBooks.antt), and proved of document 02's.
-- Assumes nothing.
use Rattle.std.specs.Prelude.{◌≡◌, ◌↔◌, Bool, true, false, List, [], ℕ, length}
use Rattle.answer.specs.Answer.{Answer, refused, answered}
use Rattle.sheet.specs.Good.{good}
use Rattle.book.specs.Sheets.{sheets_of, end_to_end}
use Rattle.book.specs.Good.{every_sheet, good_sheets, good_book}

-- any bytes are their sheets, end to end
abbrev pub SheetsAreTheBook : Type 0
SheetsAreTheBook = (b : List ℕ) → end_to_end (sheets_of b) ≡ b

-- good sheets, end to end, are the sheets of those bytes; so two lists of good sheets that are end
-- to end the same bytes are one
pub record OneList : Type 0 where
  pub its_sheets : (ss : List (List ℕ)) → every_sheet good ss ≡ true → sheets_of (end_to_end ss) ≡ ss
  pub no_second : (ss ts : List (List ℕ)) → every_sheet good ss ≡ true → every_sheet good ts ≡ true → end_to_end ss ≡ end_to_end ts → ss ≡ ts

-- a book, and a list of sheets, the newest first, that makes it good
pub record GoodAs (b : List ℕ) (ss : List (List ℕ)) : Type 0 where
  pub end_to_end_lem : end_to_end ss ≡ b
  pub good_ones : good_sheets ss ≡ true

-- "A book is good if every sheet is, all have the same desks and cells, and turn numbers rise by
-- 1": exactly if there are such sheets
abbrev pub GoodExactly : (List ℕ → Bool) → Type 0
GoodExactly test = (b : List ℕ) → (test b ≡ true) ↔ ((ss : List (List ℕ)) × GoodAs b ss)

-- "a book of no bytes is good"
abbrev pub NoBytesAreGood : (List ℕ → Bool) → Type 0
NoBytesAreGood test = test [] ≡ true

-- "the first number may be any": a good sheet alone is a good book
abbrev pub AnyFirstNumber : (List ℕ → Bool) → Type 0
AnyFirstNumber test = (s : List ℕ) → good s ≡ true → test s ≡ true

-- counting gives the number of those sheets, and 23 exactly if the book is not good
pub record CountsThem (count : List ℕ → Answer ℕ) : Type 0 where
  pub counted : (b : List ℕ) (ss : List (List ℕ)) → GoodAs b ss → count b ≡ answered (length ss)
  pub not_good : (b : List ℕ) → (count b ≡ refused 23) ↔ (good_book b ≡ false)
