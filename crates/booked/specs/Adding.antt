-- 02, K1: "A sheet is added at the end; other bytes stay." "when adding, 13, then 23 for the book
-- as it would become or a length beyond its room, then 11 for room." proofs/Adding.antt proves it
-- of `added_of` and `room_of`.
-- Assumes nothing.
use Rattle.std.specs.Prelude.{◌≡◌, ◌↔◌, ◌⊎◌, true, false, List, [], ◌∷◌, ◌++◌, ℕ, ◌+◌, ◌<◌, ◌≤◌, length, take, drop}
use Rattle.answer.specs.Answer.{Answer, refused, answered}
use Rattle.layout.specs.declared.Entry.{Entry}
use Rattle.layout.specs.Layout.{content_in}
use Rattle.sheet.specs.Good.{good}
use Rattle.book.specs.Sheets.{sheets_of}
use Rattle.book.specs.Good.{numbers_in, good_book}
use Rattle.book.specs.Lookup.{LastSet, entry}
use Rattle.book.specs.Adding.{becomes, added_of, room_of}
use Rattle.booked.specs.Lookups.{HasEntry, HasNone}

-- adding: its answer, and the room afterwards, from the room, the length of the book at its front,
-- and the sheet
pub record Adding : Type 0 where
  pub answers : (room : List ℕ) (len : ℕ) (s : List ℕ) → Answer ℕ
  pub leaves : (room : List ℕ) (len : ℕ) (s : List ℕ) → List ℕ

-- document 02's, which the code's contract cites
abbrev pub adding02 : Adding
adding02 = record { answers = added_of; leaves = room_of }

-- ---- a sheet is added

-- a room before and after a sheet was added to the book of this length, which then has the new
-- length
pub record SheetAdded (room : List ℕ) (len : ℕ) (s : List ℕ) (new : ℕ) (after : List ℕ) : Type 0 where
  pub new_length : new ≡ len + length s
  pub has_room : new ≤ length room
  -- "at the end"
  pub at_the_end : take new after ≡ take len room ++ s
  -- "other bytes stay"
  pub stay : drop new after ≡ drop new room
  pub as_long : length after ≡ length room
  -- the sheets are the new one and the old ones, and both books are good
  pub one_more : sheets_of (take new after) ≡ s ∷ sheets_of (take len room)
  pub is_good : good_book (take new after) ≡ true
  pub was_good : good_book (take len room) ≡ true

abbrev pub AddedTo : Adding → Type 0
AddedTo add =
    (room : List ℕ) (len : ℕ) (s : List ℕ) (new : ℕ) → add.answers room len s ≡ answered new → SheetAdded room len s new (add.leaves room len s)

-- a lookup in the book as it became, of a cell of the sheet's shelf: the sheet's entry, where it
-- has one, else what a lookup gave before
pub record AddedLookup (add : Adding) (look : List ℕ → ℕ → Answer LastSet) : Type 0 where
  pub from_sheet : (room : List ℕ) (len : ℕ) (s : List ℕ) (new : ℕ) → add.answers room len s ≡ answered new
      → (cell : ℕ) → cell < (numbers_in s).cells → (e : Entry) → HasEntry cell s e
      → look (take new (add.leaves room len s)) cell ≡ answered (entry (content_in e) (numbers_in s).turn)
  pub as_before : (room : List ℕ) (len : ℕ) (s : List ℕ) (new : ℕ) → add.answers room len s ≡ answered new
      → (cell : ℕ) → cell < (numbers_in s).cells → HasNone cell s
      → look (take new (add.leaves room len s)) cell ≡ look (take len room) cell

-- ---- a sheet is refused

-- "all lent bytes are as before"
abbrev pub AddRefused : Adding → Type 0
AddRefused add = (room : List ℕ) (len : ℕ) (s : List ℕ) (k : ℕ) → add.answers room len s ≡ refused k → add.leaves room len s ≡ room

-- a sheet may follow these, the newest first: where there is one, it is of the newest's shelf and
-- has the next number
abbrev pub Follows : List ℕ → List (List ℕ) → Type 0
Follows s [] = Unit {0}
Follows s (o ∷ older) =
    ((numbers_in s).desks ≡ (numbers_in o).desks) × ((numbers_in s).cells ≡ (numbers_in o).cells) × ((numbers_in s).turn ≡ (numbers_in o).turn + 1)

-- "the book as it would become" is good exactly if the book is and the sheet, a good one, may
-- follow
abbrev pub GoodWithOneMore : Type 0
GoodWithOneMore = (b s : List ℕ) → good s ≡ true → (good_book (b ++ s) ≡ true) ↔ ((good_book b ≡ true) × Follows s (sheets_of b))

-- "13, then 23 for the book as it would become or a length beyond its room, then 11 for room":
-- which comes when, and when none
pub record AddsIf (add : Adding) : Type 0 where
  pub exactly_13 : (room : List ℕ) (len : ℕ) (s : List ℕ) → (add.answers room len s ≡ refused 13) ↔ (good s ≡ false)
  pub exactly_23 : (room : List ℕ) (len : ℕ) (s : List ℕ)
      → (add.answers room len s ≡ refused 23) ↔ ((good s ≡ true) × ((length room < len) ⊎ (good_book (becomes room len s) ≡ false)))
  pub exactly_11 : (room : List ℕ) (len : ℕ) (s : List ℕ)
      → (add.answers room len s ≡ refused 11) ↔ ((good s ≡ true) × (len ≤ length room) × (good_book (becomes room len s) ≡ true) × (length room < len + length s))
  pub exactly_added : (room : List ℕ) (len : ℕ) (s : List ℕ)
      → (add.answers room len s ≡ answered (len + length s)) ↔ ((good s ≡ true) × (good_book (becomes room len s) ≡ true) × (len + length s ≤ length room))

-- 01: "the turn number is at most 4,294,967,294": to a book whose newest sheet has that number none
-- can be added
abbrev pub NoneAfterTheLast : Adding → Type 0
NoneAfterTheLast add =
    (room : List ℕ) (len : ℕ) (o : List ℕ) (older : List (List ℕ)) → sheets_of (take len room) ≡ o ∷ older → (numbers_in o).turn ≡ 4294967294
    → (s : List ℕ) → good s ≡ true → add.answers room len s ≡ refused 23
