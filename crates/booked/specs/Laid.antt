-- 02, K1: "The content found must equal laying all sheets on a blank shelf from the front." The
-- laying is a causal take's, `laid` (crates/applying/specs/Applying.antt). proofs/Laid.antt proves
-- it of `lookup_of`.
-- Assumes nothing.
use Rattle.std.specs.Prelude.{◌≡◌, ◌≢◌, ◌↔◌, true, List, [], ◌∷◌, ℕ, pos, replicate}
use Rattle.answer.specs.Answer.{Answer, answered}
use Rattle.content.specs.declared.Content.{Content}
use Rattle.content.specs.declared.Content.TheVariants.{Blank}
use Rattle.layout.specs.declared.Entry.{Entry}
use Rattle.cells.specs.Cells.{content_at}
use Rattle.applying.specs.Applying.{goes, laid, kind_on, day_on}
use Rattle.sound.specs.Head.{causal}
use Rattle.desk.specs.declared.Desk.{Desk}
use Rattle.desk.specs.Calls.{shown_at, taken_desk}
use Rattle.book.specs.Sheets.{sheets_of}
use Rattle.book.specs.Lookup.{LastSet, blank, entry, entries_in}

-- an array of the shelf after all these sheets, the newest first: the older ones are laid before
-- it, and the first of them on `none` in all places, as in "All cells blank". A causal take lays
-- each entry, whatever is pending
unfoldable pub laid_all : {A : Type 0} → List ℕ → (Entry → A) → A → List (List ℕ) → List A
laid_all pkind value none [] = replicate 64 none
laid_all pkind value none (s ∷ older) = laid (goes true pkind) value (laid_all pkind value none older) (entries_in s)

-- the content that is then in a cell
abbrev pub content_laid : List ℕ → List (List ℕ) → ℕ → Content
content_laid pkind ss cell = content_at (laid_all pkind kind_on 0 ss) (laid_all pkind day_on (pos 0) ss) cell

-- it is what a causal desk shows that had a blank shelf and has taken them all, each one after the
-- older ones
unfoldable pub taken_all : Desk → List (List ℕ) → Desk
taken_all d [] = d
taken_all d (s ∷ older) = taken_desk (taken_all d older) (entries_in s)

abbrev pub LaidIsTaken : Type 0
LaidIsTaken =
    (d : Desk) → causal d.head ≡ true → d.kind ≡ replicate 64 0 → d.day ≡ replicate 64 (pos 0)
    → (ss : List (List ℕ)) (cell : ℕ) → content_laid d.pkind ss cell ≡ shown_at (taken_all d ss) cell

-- the content that a lookup found: where it found no entry, blank
abbrev pub content_found : LastSet → Content
content_found blank = Blank
content_found (entry c turn) = c

-- "The content found must equal laying all sheets on a blank shelf from the front."
abbrev pub FoundIsLaid : (List ℕ → ℕ → Answer LastSet) → Type 0
FoundIsLaid look =
    (pkind : List ℕ) (b : List ℕ) (cell : ℕ) (found : LastSet) → look b cell ≡ answered found → content_found found ≡ content_laid pkind (sheets_of b) cell

-- no entry that a lookup finds is blank: so it answers blank exactly if laying leaves the cell
-- blank
pub record NoEntryIsBlank (look : List ℕ → ℕ → Answer LastSet) : Type 0 where
  pub no_blank : (b : List ℕ) (cell : ℕ) (c : Content) (turn : ℕ) → look b cell ≡ answered (entry c turn) → c ≢ Blank
  pub blank_exactly : (pkind : List ℕ) (b : List ℕ) (cell : ℕ) (found : LastSet) → look b cell ≡ answered found
      → (found ≡ blank) ↔ (content_laid pkind (sheets_of b) cell ≡ Blank)
