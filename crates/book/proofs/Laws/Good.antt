-- Laws of `good_sheets` (specs/Good.antt).
--   good_is_before                 sheets are good exactly if the newest is, and those before it fit it, one after the other, as the code goes back
--   good_behind                    a good sheet behind bytes: what makes the whole good
-- Assumes nothing.
use mathlib.Core.Path.{◌≡◌, refl, ap, ◌∙◌}
use mathlib.Core.Bool.{Bool, true, ◌&&◌}
use mathlib.Core.List.{List, [], ◌∷◌, ◌++◌}
use Prim.Native.Nat.{ℕ, ◌+◌}
use lib.Dec.{eqb}
use Rattle.layout.specs.declared.Numbers.{Numbers}
use Rattle.sheet.specs.Good.{good}
use Rattle.sheet.proofs.Laws.Bools.{in_any_order}
use Rattle.book.specs.Sheets.{sheets_of}
use Rattle.book.specs.Good.{numbers_in, every_sheet, same_shelf, next_after, in_turn, good_sheets, good_book}
use Rattle.book.specs.Parts.{good_before}
use Rattle.book.proofs.Laws.Sheets.{sheets_behind}

-- the first of these sheets, if there is one, has the number below this one
abbrev next_below : ℕ → List (List ℕ) → Bool
next_below turn [] = true
next_below turn (o ∷ os) = eqb ((numbers_in o).turn + 1) turn

next_is : (s : List ℕ) (os : List (List ℕ)) → next_after s os ≡ next_below (numbers_in s).turn os
next_is s [] = refl
next_is s (o ∷ os) = refl

-- tests sheet by sheet are the same as tests kind by kind
by_kind_of_test : (ok shelf turn goods shelves next rest : Bool)
    → ok && (shelf && turn) && (goods && shelves && (next && rest)) ≡ ok && goods && (shelf && shelves) && (turn && (next && rest))
by_kind_of_test ok shelf turn goods shelves next rest = simp in_any_order

before_is : (n : Numbers) (turn : ℕ) (os : List (List ℕ))
    → good_before n turn os ≡ every_sheet good os && every_sheet (λ o. same_shelf (numbers_in o) n) os && (next_below turn os && in_turn os)
unfolding good_before
before_is n turn [] = refl
before_is n turn (o ∷ os) =
    rw (before_is n (numbers_in o).turn os, next_is o os)
    (by_kind_of_test (good o) (same_shelf (numbers_in o) n) (eqb ((numbers_in o).turn + 1) turn) (every_sheet good os) (every_sheet (λ o. same_shelf (numbers_in o) n) os) (next_below (numbers_in o).turn os) (in_turn os))

newest_first : (ok goods shelves next rest : Bool) → ok && goods && shelves && (next && rest) ≡ ok && (goods && shelves && (next && rest))
newest_first ok goods shelves next rest = simp in_any_order

pub good_is_before : (s : List ℕ) (os : List (List ℕ)) → good_sheets (s ∷ os) ≡ good s && good_before (numbers_in s) (numbers_in s).turn os
unfolding good_sheets
good_is_before s os =
    rw (before_is (numbers_in s) (numbers_in s).turn os, next_is s os)
    (newest_first (good s) (every_sheet good os) (every_sheet (λ o. same_shelf (numbers_in o) (numbers_in s)) os) (next_below (numbers_in s).turn os) (in_turn os))

pub good_behind : (b s : List ℕ) → good s ≡ true → good_book (b ++ s) ≡ good_before (numbers_in s) (numbers_in s).turn (sheets_of b)
good_behind b s g = ap good_sheets (sheets_behind b s g) ∙ good_is_before s (sheets_of b) ∙ rw g
