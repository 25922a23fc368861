-- 02, K1: "A lookup gives the newest entry for a cell with its sheet's turn number, or blank if no
-- sheet has one; a book of no bytes counts as having 64 cells." "Refusals: 23, book not good,
-- before 6". proofs/Lookups.antt proves it of `lookup_of`.
-- Assumes nothing.
use Rattle.std.specs.Prelude.{◌≡◌, ◌↔◌, true, false, List, [], ◌∷◌, ◌++◌, ℕ, ◌<◌, ◌≤◌}
use Rattle.answer.specs.Answer.{Answer, refused, answered}
use Rattle.content.specs.declared.Content.{Content}
use Rattle.layout.specs.declared.Entry.{Entry}
use Rattle.layout.specs.Layout.{content_in}
use Rattle.book.specs.Sheets.{sheets_of}
use Rattle.book.specs.Good.{numbers_in, good_book}
use Rattle.book.specs.Lookup.{LastSet, blank, entry, entries_in, cells_of}

-- x is one of these
pub data In {A : Type 0} (x : A) : List A → Type 0 where
  here : {l : List A} → In x (x ∷ l)
  further : {y : A} {l : List A} → In x l → In x (y ∷ l)

-- a sheet has an entry e for a cell
pub record HasEntry (cell : ℕ) (s : List ℕ) (e : Entry) : Type 0 where
  pub in_sheet : In e (entries_in s)
  pub its_cell : e.cell ≡ cell

-- it has none
abbrev pub HasNone : ℕ → List ℕ → Type 0
HasNone cell s = (e : Entry) → HasEntry cell s e → ⊥

-- no sheet of these has one
abbrev pub NoneHas : ℕ → List (List ℕ) → Type 0
NoneHas cell ss = (s : List ℕ) → In s ss → HasNone cell s

-- "the newest entry for a cell with its sheet's turn number": a sheet of these, the newest first,
-- has an entry with this content for the cell and this turn number, and no newer one has an entry
-- for it
pub record NewestEntry (cell : ℕ) (ss : List (List ℕ)) (c : Content) (turn : ℕ) : Type 0 where
  pub newer : List (List ℕ)
  pub sheet : List ℕ
  pub older : List (List ℕ)
  pub stands : ss ≡ newer ++ sheet ∷ older
  pub none_newer : NoneHas cell newer
  pub e : Entry
  pub has_it : HasEntry cell sheet e
  pub content_is : content_in e ≡ c
  pub turn_is : (numbers_in sheet).turn ≡ turn

-- what a lookup finds is that entry, and blank exactly "if no sheet has one"
pub record LastSheetWith (look : List ℕ → ℕ → Answer LastSet) : Type 0 where
  pub its_entry : (b : List ℕ) (cell : ℕ) (c : Content) (turn : ℕ) → look b cell ≡ answered (entry c turn) → NewestEntry cell (sheets_of b) c turn
  pub blank_exactly : (b : List ℕ) (cell : ℕ) (found : LastSet) → look b cell ≡ answered found → (found ≡ blank) ↔ NoneHas cell (sheets_of b)

-- "23, book not good, before 6", cell not below the book's; and no other refusal
pub record LookupRefuses (look : List ℕ → ℕ → Answer LastSet) : Type 0 where
  pub exactly_23 : (b : List ℕ) (cell : ℕ) → (look b cell ≡ refused 23) ↔ (good_book b ≡ false)
  pub exactly_6 : (b : List ℕ) (cell : ℕ) → (look b cell ≡ refused 6) ↔ ((good_book b ≡ true) × (cells_of (sheets_of b) ≤ cell))
  pub else_answers : (b : List ℕ) (cell : ℕ) → good_book b ≡ true → cell < cells_of (sheets_of b) → (found : LastSet) × (look b cell ≡ answered found)

-- "a book of no bytes counts as having 64 cells"
pub record NoBytesHave64Cells (look : List ℕ → ℕ → Answer LastSet) : Type 0 where
  pub blank_below : (cell : ℕ) → cell < 64 → look [] cell ≡ answered blank
  pub refused_above : (cell : ℕ) → 64 ≤ cell → look [] cell ≡ refused 6
