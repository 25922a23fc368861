-- 02, K1: "A reader keeps the book and the place it has got to, and gives back each sheet as the
-- very part of the book that holds it."
-- Assumes nothing.
use Rattle.std.specs.Prelude.{◌≡◌, ℕ, List, length, Option}
use Rattle.std.specs.Borrow.{Bor}
use Rattle.book.specs.declared.Back.{Back}
use Rattle.book.specs.Stepping.{step_back, place_after}
use Rattle.reader.specs.declared.Reader.{Reader}

-- "A book opens at its end": a reader of this very slice, whose place is the book's length
abbrev pub at_end : Bor (List ℕ) → Reader
at_end book = record { book = book; place = length book.now }

-- a step that found the reader as `before`, gave r and left it as `after`
pub record StepsBack (before : Reader) (r : Option Back) (after : Reader) : Type 0 where
  pub gives : r ≡ step_back before.book.now before.place
  pub book : after.book ≡ before.book
  pub place : after.place ≡ place_after r before.place
