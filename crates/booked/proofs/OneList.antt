-- What specs/OneList.antt states.
--   sheets_are_the_book : SheetsAreTheBook, one_list : OneList
--   good_exactly : GoodExactly good_book
--   no_bytes_are_good : NoBytesAreGood good_book, any_first_number : AnyFirstNumber good_book
--   counts_them : CountsThem count_of
-- Assumes nothing.
use mathlib.Core.Path.{◌≡◌, refl, sym, ap, ◌∙◌}
use mathlib.Core.Bool.{Bool, true, false}
use mathlib.Core.List.{List, []}
use Prim.Native.Nat.{ℕ}
use lib.ListN.{length}
use Rattle.answer.specs.Answer.{refused}
use Rattle.answer.proofs.Laws.{refused_is_not_answered}
use Rattle.book.specs.Sheets.{sheets_of}
use Rattle.book.specs.Good.{good_sheets, good_book}
use Rattle.book.specs.Counting.{count_of}
use Rattle.book.proofs.Laws.Sheets.{sheets_none, sheets_behind}
use Rattle.booked.specs.OneList.{SheetsAreTheBook, OneList, GoodAs, GoodExactly, NoBytesAreGood, AnyFirstNumber, CountsThem}
use Rattle.booked.proofs.Laws.Sheets.{whole_again, sheets_of_lem, are_good}

pub sheets_are_the_book : SheetsAreTheBook
sheets_are_the_book = whole_again

pub one_list : OneList
one_list =
    record {
      its_sheets = sheets_of_lem;
      no_second = λ ss ts g h e. sym (sheets_of_lem ss g) ∙ ap sheets_of e ∙ sheets_of_lem ts h;
    }

-- sheets that make a book good are its sheets
its_sheets : (b : List ℕ) (ss : List (List ℕ)) → GoodAs b ss → sheets_of b ≡ ss
its_sheets b ss a = ap sheets_of (sym a.end_to_end_lem) ∙ sheets_of_lem ss (are_good ss a.good_ones)

pub good_exactly : GoodExactly good_book
good_exactly b = (
  λ g. (sheets_of b, record { end_to_end_lem = whole_again b; good_ones = g }),
  λ made. ap good_sheets (its_sheets b made.0 made.1) ∙ made.1.good_ones,
)

pub no_bytes_are_good : NoBytesAreGood good_book
unfolding good_sheets
no_bytes_are_good = rw (sheets_none [] refl)

pub any_first_number : AnyFirstNumber good_book
unfolding good_sheets
any_first_number s g = ap good_sheets (sheets_behind [] s g) ∙ rw (sheets_none [] refl, g)

pub counts_them : CountsThem count_of
unfolding count_of
counts_them =
    record {
      counted = λ b ss a. rw (its_sheets b ss a, a.good_ones);
      not_good = λ b. (λ e. refused_only b (good_book b) refl e, λ g. rw g);
    }
  where
    refused_only : (b : List ℕ) (t : Bool) → good_book b ≡ t → count_of b ≡ refused 23 → good_book b ≡ false
    refused_only b false g e = g
    refused_only b true g e = absurd (refused_is_not_answered 23 (length (sheets_of b)) (sym e ∙ rw g))
