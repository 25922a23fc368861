-- What specs/Lookups.antt states of a lookup.
--   last_sheet_with : LastSheetWith lookup_of
--   lookup_refuses : LookupRefuses lookup_of
--   no_bytes_have_64_cells : NoBytesHave64Cells lookup_of
-- Assumes nothing.
use mathlib.Core.Path.{◌≡◌, refl, sym, ◌∙◌}
use mathlib.Core.Bool.{true, false}
use mathlib.Core.List.{List, []}
use Prim.Native.Nat.{ℕ, ◌≤◌}
use native.Mathlib.Omega.{arith}
use borrow.Author.Tests.{not-true, not-false, ltb-false, le-ltb}
use Rattle.answer.specs.Promises.{First, this, later}
use Rattle.answer.proofs.Laws.{refused_only_if, refused_if}
use Rattle.book.specs.Sheets.{sheets_of}
use Rattle.book.specs.Good.{good_book}
use Rattle.book.specs.Lookup.{newest, cells_of, lookup_rules, lookup_of}
use Rattle.booked.specs.Lookups.{LastSheetWith, LookupRefuses, NoBytesHave64Cells}
use Rattle.booked.proofs.Laws.Computing.{computing}
use Rattle.booked.proofs.Laws.Newest.{newest_entry, newest_blank, blank_newest, looked, looked_up}

pub last_sheet_with : LastSheetWith lookup_of
last_sheet_with =
    record {
      its_entry = λ b cell c turn e. newest_entry cell (sheets_of b) c turn (looked b cell _ e).found_is;
      blank_exactly =
          λ b cell found e.
          let is = (looked b cell found e).found_is in
          (λ p. newest_blank cell (sheets_of b) (is ∙ p), λ none_has. sym is ∙ blank_newest cell (sheets_of b) none_has);
    }

module _ (b : List ℕ) (cell : ℕ) where
  by_23 : First 23 (lookup_rules b cell) → good_book b ≡ false
  by_23 (this p n) = not-true (good_book b) p
  by_23 (later p (this q n)) = absurd (omega arith)
  by_23 (later p (later _ x)) = elim x [ ]

  by_6 : First 6 (lookup_rules b cell) → (good_book b ≡ true) × (cells_of (sheets_of b) ≤ cell)
  by_6 (this p n) = absurd (omega arith)
  by_6 (later p (this q n)) = (not-false (good_book b) p, ltb-false cell (cells_of (sheets_of b)) (not-true _ q))
  by_6 (later p (later _ x)) = elim x [ ]

pub lookup_refuses : LookupRefuses lookup_of
unfolding lookup_of
lookup_refuses =
    record {
      exactly_23 =
          λ b cell. (
            λ e. by_23 b cell (refused_only_if (lookup_rules b cell) (newest cell (sheets_of b)) 23 e),
            λ g. refused_if {rs = lookup_rules b cell} (newest cell (sheets_of b)) (this (rw g) refl),
          );
      exactly_6 =
          λ b cell. (
            λ e. by_6 b cell (refused_only_if (lookup_rules b cell) (newest cell (sheets_of b)) 6 e),
            λ given.
                refused_if {rs = lookup_rules b cell} (newest cell (sheets_of b)) (later (rw given.0) (this (rw (le-ltb cell (cells_of (sheets_of b)) given.1)) refl)),
          );
      else_answers = λ b cell g h. (newest cell (sheets_of b), looked_up b cell g h);
    }

pub no_bytes_have_64_cells : NoBytesHave64Cells lookup_of
unfolding computing
no_bytes_have_64_cells =
    record { blank_below = λ cell h. looked_up [] cell refl h; refused_above = λ cell h. (lookup_refuses.exactly_6 [] cell).1 (refl, h) }
