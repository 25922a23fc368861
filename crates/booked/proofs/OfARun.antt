-- What specs/OfARun.antt states of the book of a run.
--   runs_book_is_good : RunsBookIsGood good_book
--   each_is_added : EachIsAdded adding02
--   last_sent : LastSent lookup_of
-- Assumes nothing.
use mathlib.Core.Path.{◌≡◌, sym, ap, ◌∙◌}
use mathlib.Core.Bool.{true}
use mathlib.Core.List.{List, ◌++◌}
use Prim.Native.Nat.{ℕ, ◌+◌, ◌<◌, ◌≤◌}
use native.Mathlib.Omega.{arith}
use native.Mathlib.Numerals.{add-one}
use lib.ListN.{length, take, length-append}
use lib.Seq.{take-length}
use Rattle.answer.specs.Answer.{answered}
use Rattle.content.specs.declared.Content.{Content}
use Rattle.desk.specs.Calls.{document01}
use Rattle.runs.specs.Run.{Shelf, SentSheet, State, sheet_on, reached}
use Rattle.runs.specs.EveryRun.{SheetInOrder}
use Rattle.runs.proofs.EveryRun.{sheets_in_order}
use Rattle.book.specs.Sheets.{sheets_of}
use Rattle.book.specs.Good.{good_sheets, good_book}
use Rattle.book.specs.Lookup.{entry, newest, cells_of, lookup_of}
use Rattle.book.specs.Adding.{becomes, added_of}
use Rattle.booked.specs.Adding.{adding02}
use Rattle.booked.specs.OfARun.{book_of, newest_first, RunsBookIsGood, NextAdded, EachIsAdded, LastSetBy, LooksUp, LastSent}
use Rattle.booked.proofs.Laws.Newest.{looked_up}
use Rattle.booked.proofs.Adding.{added_to, adds_if}
use Rattle.booked.proofs.Laws.Lines.{book_suc, line_good, line_sheets, line_cells, set_by, none_set, if_none_set}

module _ (line : List SentSheet) (shelf : Shelf) (ordered : (k : ℕ) → k < length line → SheetInOrder shelf k (sheet_on line k)) where
  whole : newest_first (take (length line) line) ≡ newest_first line
  whole = ap newest_first (take-length line)

  all_good : good_sheets (newest_first line) ≡ true
  all_good = ap good_sheets (sym whole) ∙ line_good line shelf ordered (length line) (omega arith)

  its_sheets : sheets_of (book_of line) ≡ newest_first line
  its_sheets = ap (λ (l : List SentSheet). sheets_of (book_of l)) (sym (take-length line)) ∙ line_sheets line shelf ordered (length line) (omega arith) ∙ whole

  is_good : good_book (book_of line) ≡ true
  is_good = ap good_sheets its_sheets ∙ all_good

  below : shelf.m ≤ 64 → (cell : ℕ) → cell < shelf.m → cell < cells_of (sheets_of (book_of line))
  below most cell h =
      let cells = line_cells line shelf ordered most (length line) (omega arith) in
      let same = ap cells_of (whole ∙ sym its_sheets) in
      omega arith

  looks : shelf.m ≤ 64 → (cell : ℕ) → cell < shelf.m → lookup_of (book_of line) cell ≡ answered (newest cell (newest_first line))
  looks most cell h = looked_up (book_of line) cell is_good (below most cell h) ∙ ap (λ (ss : List (List ℕ)). answered (newest cell ss)) its_sheets

pub runs_book_is_good : RunsBookIsGood good_book
runs_book_is_good shelf cs r =
    let line = (reached document01 shelf cs).line in
    let ordered = sheets_in_order shelf cs r in
    record { is_good = is_good line shelf ordered; its_sheets = its_sheets line shelf ordered }

module _ (line : List SentSheet) (shelf : Shelf) (ordered : (k : ℕ) → k < length line → SheetInOrder shelf k (sheet_on line k)) (k : ℕ) (h : k < length line) where
  abbrev b : List ℕ
  b = book_of (take k line)

  abbrev next : List ℕ
  next = book_of (take (k + 1) line)

  abbrev sheet : List ℕ
  sheet = (sheet_on line k).bytes

  next_is : next ≡ b ++ sheet
  next_is = ap (λ (i : ℕ). book_of (take i line)) (add-one k) ∙ book_suc line k h

  long : length next ≡ length b + length sheet
  long = ap length next_is ∙ length-append b sheet

  next_good : good_book next ≡ true
  next_good =
      ap good_sheets (line_sheets line shelf ordered (k + 1) (omega arith)) ∙ line_good line shelf ordered (k + 1) (omega arith)

  next_added : (room : List ℕ) → take (length b) room ≡ b → length next ≤ length room → NextAdded adding02 line k room
  next_added room stands fits =
      let becomes_is : becomes room (length b) sheet ≡ next = ap (λ (l : List ℕ). l ++ sheet) stands ∙ sym next_is in
      let added : added_of room (length b) sheet ≡ answered (length next) =
      (adds_if.exactly_added room (length b) sheet).1 ((ordered k h).is_good, ap good_book becomes_is ∙ next_good, omega (arith, long)) ∙ ap answered (sym long)
      in
      record { answers = added; book = (added_to room (length b) sheet (length next) added).at_the_end ∙ becomes_is }

pub each_is_added : EachIsAdded adding02
each_is_added shelf cs r = next_added (reached document01 shelf cs).line shelf (sheets_in_order shelf cs r)

module _ (s : State) (shelf : Shelf) (ordered : (k : ℕ) → k < length s.line → SheetInOrder shelf k (sheet_on s.line k)) (most : shelf.m ≤ 64) (cell : ℕ) (h : cell < shelf.m) where
  abbrev line : List SentSheet
  line = s.line

  all : newest cell (newest_first (take (length line) line)) ≡ newest cell (newest_first line)
  all = ap (newest cell) (whole line shelf ordered)

  last_set : (c : Content) (turn : ℕ) → newest cell (newest_first line) ≡ entry c turn → LastSetBy s cell c turn
  last_set c turn p =
      let found = set_by line cell (λ k l. (ordered k l).turn) (length line) (omega arith) c turn (all ∙ p) in
      record { sent = found.below; e = found.e; has_it = found.has_it; content_is = found.content_is; none_later = found.none_later }

  looks_up : LooksUp lookup_of s cell
  looks_up =
      record {
        found = newest cell (newest_first line);
        answers = looks line shelf ordered most cell h;
        set_by = last_set;
        blank_exactly = (
          λ p. none_set line cell (length line) (omega arith) (all ∙ p),
          λ none_has. sym all ∙ if_none_set line cell (length line) (omega arith) none_has,
        );
      }

pub last_sent : LastSent lookup_of
last_sent shelf cs r cell h = looks_up (reached document01 shelf cs) shelf (sheets_in_order shelf cs r) r.within.cells_most cell h
