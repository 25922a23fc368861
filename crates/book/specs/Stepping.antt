-- 02, K1: "A reader keeps the book and the place it has got to, and gives back each sheet as the
-- very part of the book that holds it." "A step back gives none at the front or where no good sheet
-- ends".
-- Assumes nothing.
use Rattle.std.specs.Prelude.{ℕ, ◌-◌, cond, ◌&&◌, List, leb, length, take, drop, Option, Some, None}
use Rattle.sheet.specs.Good.{good}
use Rattle.book.specs.declared.Back.{Back}
use Rattle.book.specs.Sheets.{last_start, last_sheet}
use Rattle.book.specs.Good.{numbers_in}

-- the part of a book from one place to another
abbrev pub part_of : List ℕ → ℕ → ℕ → List ℕ
part_of b start end = take (end - start) (drop start b)

-- one step back from a place: the good sheet that ends just there, by where it starts and ends in
-- the book, with its trailer's numbers; or none: at the front, where no good sheet ends, and beyond
-- the book
unfoldable pub step_back : List ℕ → ℕ → Option Back
step_back b place =
    let up_to = take place b in
    cond (leb place (length b) && good (last_sheet up_to))
    (Some (record { start = last_start up_to; end = place; numbers = numbers_in (last_sheet up_to) }))
    None

-- where a reader at this place stands after a step: at the start of the sheet that it gave, or
-- where it was
abbrev pub place_after : Option Back → ℕ → ℕ
place_after (Some sheet) place = sheet.start
place_after None place = place
