-- 01, "A sheet and its trailer": "All numbers low byte first. First the entries, 6 bytes each, cells strictly rising: cell (1), kind (1: 1
-- open, 2 day), day (4, two's complement; zero for open). Then the trailer of 12 bytes: distance back to the first entry (2), number of
-- entries (1), sender (1), desks (1), cells (1), two zero bytes, turn number (4)."
-- The bytes of entries and a trailer, and what bytes hold. `Entry`, `Trailer` and `Numbers` are the structs of the code; an entry keeps
-- its day as the number of its four bytes.
-- Assumes nothing.
use Rattle.std.specs.Prelude.{ℕ, zero, suc, ◌*◌, ◌-◌, List, [], ◌∷◌, ◌++◌, length, take, drop}
use Rattle.std.specs.Int.{w32}
use Rattle.std.proofs.Common.{to_z, of_z}
use Rattle.numbers.specs.Numbers.{bytes, at1, at2, at4}
use Rattle.content.specs.declared.Content.{Content}
use Rattle.content.specs.Content.{kind_of, day_of, content_of}
use Rattle.layout.specs.declared.Entry.{Entry}
use Rattle.layout.specs.declared.Trailer.{Trailer}
use Rattle.layout.specs.declared.Numbers.{Numbers}

-- ---- to bytes

-- "cell (1), kind (1: ..), day (4, ..)"
abbrev pub entry_bytes : Entry → List ℕ
entry_bytes e = e.cell ∷ e.kind ∷ bytes 4 e.day

abbrev pub entries_bytes : List Entry → List ℕ
entries_bytes [] = []
entries_bytes (e ∷ es) = entry_bytes e ++ entries_bytes es

-- "distance back to the first entry (2), number of entries (1), sender (1), desks (1), cells (1), two zero bytes, turn number (4)"
abbrev pub trailer_bytes : Trailer → List ℕ
trailer_bytes t =
    bytes 2 t.distance ++ (t.entries ∷ t.sender ∷ t.desks ∷ t.cells ∷ t.zero6 ∷ t.zero7 ∷ []) ++ bytes 4 t.turn

-- "First the entries", "Then the trailer"
abbrev pub sheet_bytes : List Entry → Trailer → List ℕ
sheet_bytes es t = entries_bytes es ++ trailer_bytes t

-- ---- from bytes

-- the entry that bytes begin with
abbrev pub entry_of : List ℕ → Entry
entry_of l = record { cell = at1 l 0; kind = at1 l 1; day = at4 l 2 }

-- the n entries that bytes begin with
abbrev pub entries_of : ℕ → List ℕ → List Entry
entries_of zero l = []
entries_of (suc n) l = entry_of l ∷ entries_of n (drop 6 l)

abbrev pub trailer_of : List ℕ → Trailer
trailer_of l =
    record {
      distance = at2 l 0;
      entries = at1 l 2;
      sender = at1 l 3;
      desks = at1 l 4;
      cells = at1 l 5;
      zero6 = at1 l 6;
      zero7 = at1 l 7;
      turn = at4 l 8;
    }

-- the trailer is the last 12 bytes
abbrev pub trailer_in : List ℕ → Trailer
trailer_in s = trailer_of (drop (length s - 12) s)

-- ---- contents and numbers

-- the entry of a content in a cell, and the content of an entry
abbrev pub entry_for : ℕ → Content → Entry
entry_for cell c = record { cell = cell; kind = kind_of c; day = of_z w32 (day_of c) }

abbrev pub content_in : Entry → Content
content_in e = content_of e.kind (to_z w32 e.day)

-- the numbers that a trailer carries, and the trailer that carries them: the distance is 6 × entries, and the two zero bytes are zero
abbrev pub numbers_of : Trailer → Numbers
numbers_of t =
    record { entries = t.entries; sender = t.sender; desks = t.desks; cells = t.cells; turn = t.turn }

abbrev pub trailer_for : Numbers → Trailer
trailer_for n =
    record {
      distance = 6 * n.entries;
      entries = n.entries;
      sender = n.sender;
      desks = n.desks;
      cells = n.cells;
      zero6 = 0;
      zero7 = 0;
      turn = n.turn;
    }

-- the sheet of these numbers and of as many of these entries as they say
unfoldable pub sheet_for : Numbers → List Entry → List ℕ
sheet_for n es = sheet_bytes (take n.entries es) (trailer_for n)
