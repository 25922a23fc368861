-- 01, "Numbers given back": "Reading a sheet: 13", "sheet not good". A good sheet gives its entries and its trailer's numbers.
-- Assumes nothing.
use Rattle.std.specs.Prelude.{ℕ, ◌+◌, ◌*◌, not, cond, Result, List, [], ◌∷◌, leb, length, drop}
use Rattle.answer.specs.Answer.{Answer, ◌if◌, answer}
use Rattle.answer.specs.declared.Refusal.{Refusal}
use Rattle.answer.specs.Refusals.{said}
use Rattle.layout.specs.declared.Entry.{Entry}
use Rattle.layout.specs.declared.Numbers.{Numbers}
use Rattle.layout.specs.declared.Trailer.{Trailer}
use Rattle.layout.specs.Layout.{entry_of, entries_of, trailer_in, numbers_of}
use Rattle.sheet.specs.Good.{good}

-- what a good sheet gives
pub record Sheet : Type 0 where
  pub numbers : Numbers
  pub entries : List Entry

-- the sheet with these numbers whose entries bytes begin with
abbrev pub sheet_in : List ℕ → Numbers → Sheet
sheet_in s n = record { numbers = n; entries = entries_of n.entries s }

-- what reading bytes gives
unfoldable pub reading_of : List ℕ → Answer Sheet
reading_of s = answer (13 if not (good s) ∷ []) (sheet_in s (numbers_of (trailer_in s)))

-- what the answer to reading the bytes s says: the entries stay in the bytes, and are read where they stand
abbrev pub said_read : List ℕ → Result Numbers Refusal → Answer Sheet
said_read s r = said (sheet_in s) r

-- the trailer at the end of bytes; one of zeros, which is of no good sheet, where they are fewer than 12
abbrev pub no_trailer : Trailer
no_trailer = record { distance = 0; entries = 0; sender = 0; desks = 0; cells = 0; zero6 = 0; zero7 = 0; turn = 0 }

unfoldable pub trailer_at_end : List ℕ → Trailer
trailer_at_end s = cond (leb 12 (length s)) (trailer_in s) no_trailer

-- entry k where it stands, before a trailer of 12 bytes; an entry of zeros, which is of no kind, where there is none: so a sheet has
-- nothing behind its entries, and its trailer is never read as one
abbrev pub no_entry : Entry
no_entry = record { cell = 0; kind = 0; day = 0 }

abbrev pub entry_at : List ℕ → ℕ → Entry
entry_at s k = cond (leb (6 * k + 18) (length s)) (entry_of (drop (6 * k) s)) no_entry
