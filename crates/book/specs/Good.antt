-- 02, K1: "A book is good if every sheet is, all have the same desks and cells, and turn numbers
-- rise by 1; the first number may be any, and a book of no bytes is good."
-- Assumes nothing.
use Rattle.std.specs.Prelude.{ℕ, ◌+◌, Bool, true, ◌&&◌, List, [], ◌∷◌, eqb}
use Rattle.layout.specs.declared.Numbers.{Numbers}
use Rattle.layout.specs.Layout.{trailer_in, numbers_of}
use Rattle.sheet.specs.Good.{good}
use Rattle.book.specs.Sheets.{sheets_of}

-- the numbers that a sheet's trailer carries
abbrev pub numbers_in : List ℕ → Numbers
numbers_in s = numbers_of (trailer_in s)

-- a test holds of every sheet
abbrev pub every_sheet : (List ℕ → Bool) → List (List ℕ) → Bool
every_sheet p [] = true
every_sheet p (s ∷ ss) = p s && every_sheet p ss

-- two sheets "have the same desks and cells"
abbrev pub same_shelf : Numbers → Numbers → Bool
same_shelf a b = eqb a.desks b.desks && eqb a.cells b.cells

-- "all have the same desks and cells": each those of the newest
abbrev pub one_shelf : List (List ℕ) → Bool
one_shelf [] = true
one_shelf (s ∷ older) = every_sheet (λ o. same_shelf (numbers_in o) (numbers_in s)) older

-- "turn numbers rise by 1": a sheet's is one above that of the sheet before it
abbrev pub next_after : List ℕ → List (List ℕ) → Bool
next_after s [] = true
next_after s (o ∷ older) = eqb ((numbers_in o).turn + 1) (numbers_in s).turn

abbrev pub in_turn : List (List ℕ) → Bool
in_turn [] = true
in_turn (s ∷ older) = next_after s older && in_turn older

-- of sheets, the newest first
unfoldable pub good_sheets : List (List ℕ) → Bool
good_sheets ss = every_sheet good ss && one_shelf ss && in_turn ss

abbrev pub good_book : List ℕ → Bool
good_book b = good_sheets (sheets_of b)
