-- The clauses of `good` by what they look at: what `good_trailer`, `good_entry` and `good_entries` test, for whoever reads or writes a sheet part by part.
-- `good` is all of them together (`good_is` in proofs/Laws/Good.antt): who reads or writes whole sheets need not believe this file.
-- Assumes nothing.
use Rattle.std.specs.Prelude.{ℕ, ◌*◌, ◌%◌, Bool, ◌&&◌, List, eqb, leb, ltb, length}
use Rattle.layout.specs.declared.Entry.{Entry}
use Rattle.layout.specs.declared.Trailer.{Trailer}
use Rattle.layout.specs.Layout.{entries_of}
use Rattle.numbers.specs.Limits.{desks_within, cells_within}
use Rattle.sheet.specs.Good.{every, rising, below, kind_and_day}

-- of a trailer that has so many bytes before it
abbrev pub good_trailer : Trailer → ℕ → Bool
good_trailer t back =
    (eqb t.distance (6 * t.entries) && eqb t.distance back)
    && (desks_within t.desks && cells_within t.cells)
    && ltb t.sender t.desks
    && (eqb t.zero6 0 && eqb t.zero7 0)
    && (leb t.turn 4294967294 && eqb (t.turn % t.desks) t.sender)

-- of an entry in a sheet of so many cells, whose cell is to be `least` or above: 0 for the first entry, else one more than the cell before
abbrev pub good_entry : ℕ → ℕ → Entry → Bool
good_entry cells least e = leb least e.cell && below cells e && kind_and_day e

-- of entries in a sheet of so many cells
abbrev pub good_entries : ℕ → List Entry → Bool
good_entries cells es = rising es && every (below cells) es && every kind_and_day es

-- of the first n entries that bytes begin with; not so where the bytes end before them
abbrev pub good_entries_in : List ℕ → ℕ → ℕ → Bool
good_entries_in s n cells = leb (6 * n) (length s) && good_entries cells (entries_of n s)

-- 01, "A sheet and its trailer": "6 bytes each .. cell (1), kind (1: 1 open, 2 day), day (4, .."
-- an entry as it is on the line, where a day has 32 bits: the entry itself, if its day has no more, as in every value of the code
abbrev pub in_32_bits : Entry → Entry
in_32_bits e = record { cell = e.cell; kind = e.kind; day = e.day % 4294967296 }
