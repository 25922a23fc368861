-- Laws of `sheets_of` and `end_to_end` (crates/book/specs/Sheets.antt), beside those of
-- crates/book/proofs/Laws/Sheets.antt.
--   whole_again                any bytes are their sheets, end to end
--   sheets_of_lem                  good sheets, end to end, are the sheets of those bytes
--   are_good                   the sheets of a good book are good
-- Assumes nothing.
use mathlib.Core.Path.{◌≡◌, ap, ◌∙◌}
use mathlib.Core.Bool.{true}
use mathlib.Core.List.{List, [], ◌∷◌, ◌++◌}
use Prim.Native.Nat.{ℕ, zero, suc, ◌<◌, ◌≤◌}
use native.Mathlib.Omega.{arith}
use lib.ListN.{length, take-append-drop}
use Rattle.numbers.proofs.Tests.{tested}
use Rattle.sheet.specs.Good.{good}
use Rattle.book.specs.Sheets.{last_start, last_sheet, before, sheets_of, end_to_end}
use Rattle.book.specs.Good.{every_sheet, good_sheets}
use Rattle.book.proofs.Laws.Sheets.{before_long, sheets_none, sheets_cut, sheets_behind}

whole_if : (b : List ℕ) → (0 < length b → end_to_end (sheets_of (before b)) ≡ before b) → end_to_end (sheets_of b) ≡ b
unfolding end_to_end
whole_if [] older = ap end_to_end (sheets_none [] (omega arith))
whole_if (x ∷ l) older =
    let b : List ℕ = x ∷ l in
    ap end_to_end (sheets_cut b (omega arith))
    ∙ ap (λ (o : List ℕ). o ++ last_sheet b) (older (omega arith))
    ∙ take-append-drop (last_start b) b

whole_by : (k : ℕ) (b : List ℕ) → length b ≤ k → end_to_end (sheets_of b) ≡ b
whole_by zero b h = whole_if b (λ some. absurd (omega arith))
whole_by (suc k) b h = whole_if b (λ some. whole_by k (before b) (omega (arith, before_long b)))

pub whole_again : (b : List ℕ) → end_to_end (sheets_of b) ≡ b
whole_again b = whole_by (length b) b (omega arith)

pub sheets_of_lem : (ss : List (List ℕ)) → every_sheet good ss ≡ true → sheets_of (end_to_end ss) ≡ ss
unfolding end_to_end
sheets_of_lem [] g = sheets_none [] (omega arith)
sheets_of_lem (s ∷ older) g =
    sheets_behind (end_to_end older) s (search tested) ∙ ap (λ (ss : List (List ℕ)). s ∷ ss) (sheets_of_lem older (search tested))

pub are_good : (ss : List (List ℕ)) → good_sheets ss ≡ true → every_sheet good ss ≡ true
unfolding good_sheets
are_good ss g = search tested
