-- 02, K1: "A book opens at its end". It is not to be read from any other place: a sheet's bytes may
-- hold those of another good one, as these do, and the book has one list of sheets all the same
-- (specs/OneList.antt). proofs/Inside.antt proves it by computing.
-- Assumes nothing.
use Rattle.std.specs.Prelude.{◌≡◌, true, false, List, [], ◌∷◌, ℕ, take}
use Rattle.book.specs.Sheets.{sheets_of}
use Rattle.book.specs.Good.{good_book}
use Rattle.booked.specs.Stepping.{SheetEndsAt}

-- open in cells 0, 1 and 2, from desk 0 of 2: a sheet of 30 bytes. From byte 2 on, twelve of them
-- are an empty sheet of one desk and one cell
unfoldable pub three_opens : List ℕ
three_opens =
    0x00 ∷ 0x01 ∷ 0x00 ∷ 0x00 ∷ 0x00 ∷ 0x00 ∷ 0x01 ∷ 0x01 ∷ 0x00 ∷ 0x00 ∷ 0x00 ∷ 0x00 ∷ 0x02 ∷ 0x01 ∷ 0x00 ∷ 0x00 ∷ 0x00 ∷ 0x00
    ∷ 0x12 ∷ 0x00 ∷ 0x03 ∷ 0x00 ∷ 0x02 ∷ 0x03 ∷ 0x00 ∷ 0x00 ∷ 0x00 ∷ 0x00 ∷ 0x00 ∷ 0x00 ∷ []

pub record ASheetInside : Type 0 where
  -- a good sheet ends at place 14, and so does not begin at the front
  pub inside : SheetEndsAt three_opens 14 2
  -- the whole is a good book of one sheet
  pub one_sheet : sheets_of three_opens ≡ three_opens ∷ []
  pub is_good : good_book three_opens ≡ true
  -- its first 14 bytes end in a good sheet, and are no good book
  pub cut_there : good_book (take 14 three_opens) ≡ false
