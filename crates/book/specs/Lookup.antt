-- 02, K1: "A lookup gives the newest entry for a cell with its sheet's turn number, or blank if no
-- sheet has one; a book of no bytes counts as having 64 cells." "Refusals: 23, book not good,
-- before 6".
-- Assumes nothing.
use Rattle.std.specs.Prelude.{ℕ, cond, not, List, [], ◌∷◌, eqb, ltb, Option, Some, None, Result}
use Rattle.answer.specs.Answer.{Answer, Rule, ◌if◌, answer}
use Rattle.answer.specs.declared.Refusal.{Refusal}
use Rattle.answer.specs.Refusals.{said}
use Rattle.content.specs.declared.Content.{Content}
use Rattle.layout.specs.declared.Entry.{Entry}
use Rattle.layout.specs.Layout.{entries_of, content_in}
use Rattle.book.specs.declared.Found.{Found}
use Rattle.book.specs.Sheets.{sheets_of}
use Rattle.book.specs.Good.{numbers_in, good_book}

-- what a lookup finds: blank, an answer of its own without a number; or the content of an entry,
-- and the turn number of its sheet
pub data LastSet : Type 0 where
  blank : LastSet
  entry : Content → ℕ → LastSet

-- the entries of a sheet
abbrev pub entries_in : List ℕ → List Entry
entries_in s = entries_of (numbers_in s).entries s

-- the entry for a cell (of which a good sheet has one at most, since its cells rise)
unfoldable pub entry_on : ℕ → List Entry → Option Entry
entry_on cell [] = None
entry_on cell (e ∷ es) = cond (eqb e.cell cell) (Some e) (entry_on cell es)

-- that entry with its sheet's turn number, or what the older sheets have
abbrev pub or_older : Option Entry → ℕ → LastSet → LastSet
or_older None turn older = older
or_older (Some e) turn older = entry (content_in e) turn

-- "the newest entry for a cell with its sheet's turn number, or blank if no sheet has one": of
-- sheets, the newest first
unfoldable pub newest : ℕ → List (List ℕ) → LastSet
newest cell [] = blank
newest cell (s ∷ older) = or_older (entry_on cell (entries_in s)) (numbers_in s).turn (newest cell older)

-- the cells of a book: "a book of no bytes counts as having 64 cells"
abbrev pub cells_of : List (List ℕ) → ℕ
cells_of [] = 64
cells_of (s ∷ older) = (numbers_in s).cells

-- "23, book not good, before 6"
abbrev pub lookup_rules : List ℕ → ℕ → List Rule
lookup_rules b cell = 23 if not (good_book b) ∷ 6 if not (ltb cell (cells_of (sheets_of b))) ∷ []

unfoldable pub lookup_of : List ℕ → ℕ → Answer LastSet
lookup_of b cell = answer (lookup_rules b cell) (newest cell (sheets_of b))

-- what the code found, where it found something
abbrev pub last_set : Option Found → LastSet
last_set None = blank
last_set (Some found) = entry found.content found.turn

-- what the code's answer says
abbrev pub said_found : Result (Option Found) Refusal → Answer LastSet
said_found = said last_set
