-- What the crate's own functions find. Nobody need believe it: the public promises are in the files
-- beside it.
-- Assumes nothing.
use Rattle.std.specs.Prelude.{ℕ, ◌+◌, Bool, true, cond, ◌&&◌, List, [], ◌∷◌, eqb, length, Option, Some, None, Result, Ok, Err}
use Rattle.answer.specs.declared.Refusal.{Refusal}
use Rattle.answer.specs.declared.Refusal.TheVariants as refusal
use Rattle.layout.specs.declared.Numbers.{Numbers}
use Rattle.sheet.specs.Good.{good}
use Rattle.book.specs.declared.examined.Seen.{Seen}
use Rattle.book.specs.declared.Found.{Found}
use Rattle.book.specs.Sheets.{sheets_of}
use Rattle.book.specs.Good.{numbers_in, same_shelf, good_book}
use Rattle.book.specs.Lookup.{LastSet, blank, entry}

-- a sheet with the numbers o may stand before one of the newest's shelf with this turn number
abbrev pub fits_before : Numbers → Numbers → ℕ → Bool
fits_before o n turn = same_shelf o n && eqb (o.turn + 1) turn

-- good sheets of the shelf of n, in turn, before a sheet with this turn number
unfoldable pub good_before : Numbers → ℕ → List (List ℕ) → Bool
good_before n turn [] = true
good_before n turn (o ∷ os) = good o && fits_before (numbers_in o) n turn && good_before n (numbers_in o).turn os

-- how many those are, if they are so
abbrev pub older_of : Numbers → ℕ → List (List ℕ) → Option ℕ
older_of n turn os = cond (good_before n turn os) (Some (length os)) None

-- what one pass through a book finds
abbrev pub sheets_found : List (List ℕ) → Option Seen
sheets_found [] = None
sheets_found (s ∷ older) = Some (record { sheets = length (s ∷ older); newest = numbers_in s })

abbrev pub examined_of : List ℕ → Result (Option Seen) Refusal
examined_of b = cond (good_book b) (Ok (sheets_found (sheets_of b))) (Err refusal.BookNotGood)

-- whether a good sheet with these numbers can be added to such a book
abbrev pub takes_next : Option Seen → Numbers → Bool
takes_next None n = true
takes_next (Some seen) n = fits_before seen.newest n n.turn

-- what a lookup in a good book finds
abbrev pub found_of : LastSet → Option Found
found_of blank = None
found_of (entry c turn) = Some (record { content = c; turn = turn })
