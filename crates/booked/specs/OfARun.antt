-- 02, K1: "Branch managers want to see which sheet last set a cell. Keep sent sheets end to end in
-- one lent book in turn order." The book of a run: all sheets that were sent, in the order in which
-- they were. proofs/OfARun.antt proves what is said of it, for every run
-- (crates/runs/specs/Run.antt).
-- Assumes nothing.
use Rattle.std.specs.Prelude.{◌≡◌, ◌↔◌, Bool, true, List, [], ◌∷◌, ◌++◌, ℕ, ◌+◌, ◌≤◌, ◌<◌, length, take}
use Rattle.answer.specs.Answer.{Answer, answered}
use Rattle.content.specs.declared.Content.{Content}
use Rattle.layout.specs.declared.Entry.{Entry}
use Rattle.layout.specs.Layout.{content_in}
use Rattle.desk.specs.Calls.{document01}
use Rattle.runs.specs.Call.{Call}
use Rattle.runs.specs.Run.{Shelf, SentSheet, State, sheet_on, sheet_no, RunOn, reached}
use Rattle.book.specs.Sheets.{sheets_of}
use Rattle.book.specs.Lookup.{LastSet, blank, entry}
use Rattle.booked.specs.Lookups.{HasEntry, HasNone}
use Rattle.booked.specs.Adding.{Adding}

-- "Keep sent sheets end to end in one lent book in turn order."
unfoldable pub book_of : List SentSheet → List ℕ
book_of [] = []
book_of (sheet ∷ line) = sheet.bytes ++ book_of line

-- the sheets of a line, the newest first
unfoldable pub newest_first : List SentSheet → List (List ℕ)
newest_first [] = []
newest_first (sheet ∷ line) = newest_first line ++ sheet.bytes ∷ []

-- it is a good book, and its sheets are those of the line
pub record LineIsABook (test : List ℕ → Bool) (line : List SentSheet) : Type 0 where
  pub is_good : test (book_of line) ≡ true
  pub its_sheets : sheets_of (book_of line) ≡ newest_first line

abbrev pub RunsBookIsGood : (List ℕ → Bool) → Type 0
RunsBookIsGood test =
    (shelf : Shelf) (cs : List Call) → RunOn document01 shelf cs → LineIsABook test (reached document01 shelf cs).line

-- "A sheet is added at the end": sheet k of a line, added to the book of the k before it, which
-- stands at the front of a room for one more
pub record NextAdded (add : Adding) (line : List SentSheet) (k : ℕ) (room : List ℕ) : Type 0 where
  pub answers : add.answers room (length (book_of (take k line))) (sheet_on line k).bytes ≡ answered (length (book_of (take (k + 1) line)))
  pub book : take (length (book_of (take (k + 1) line))) (add.leaves room (length (book_of (take k line))) (sheet_on line k).bytes) ≡ book_of (take (k + 1) line)

-- no sheet of a run is refused where there is room, and so all of them, added one after the other,
-- are the book of the run
abbrev pub EachIsAdded : Adding → Type 0
EachIsAdded add =
    (shelf : Shelf) (cs : List Call) → RunOn document01 shelf cs
    → (let line = (reached document01 shelf cs).line in
    (k : ℕ) → k < length line → (room : List ℕ) → take (length (book_of (take k line))) room ≡ book_of (take k line)
    → length (book_of (take (k + 1) line)) ≤ length room → NextAdded add line k room)

-- sheet `turn` of those sent has an entry with this content for the cell, and no later one has an
-- entry for it
pub record LastSetBy (s : State) (cell : ℕ) (c : Content) (turn : ℕ) : Type 0 where
  pub sent : turn < length s.line
  pub e : Entry
  pub has_it : HasEntry cell (sheet_no s turn).bytes e
  pub content_is : content_in e ≡ c
  pub none_later : (k : ℕ) → turn < k → k < length s.line → HasNone cell (sheet_no s k).bytes

-- "which sheet last set a cell": a lookup in the book of a run answers it for every cell of the
-- shelf, and blank exactly if no sheet sent has one
pub record LooksUp (look : List ℕ → ℕ → Answer LastSet) (s : State) (cell : ℕ) : Type 0 where
  pub found : LastSet
  pub answers : look (book_of s.line) cell ≡ answered found
  pub set_by : (c : Content) (turn : ℕ) → found ≡ entry c turn → LastSetBy s cell c turn
  pub blank_exactly : (found ≡ blank) ↔ ((k : ℕ) → k < length s.line → HasNone cell (sheet_no s k).bytes)

abbrev pub LastSent : (List ℕ → ℕ → Answer LastSet) → Type 0
LastSent look =
    (shelf : Shelf) (cs : List Call) → RunOn document01 shelf cs → (cell : ℕ) → cell < shelf.m → LooksUp look (reached document01 shelf cs) cell
