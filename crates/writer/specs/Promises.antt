-- Demand 2: "a written sheet reads back as the entries sent, and a good sheet's entries and trailer numbers write the same bytes again."
-- Both as statements over the definitions of reading and writing, proved in proofs/RoundTrip.antt; and that a refused writing changes nothing,
-- and no two answers say the same, proved in proofs/Laws/Writing.antt.
-- Assumes nothing.
use Rattle.std.specs.Prelude.{◌≡◌, Result, List, ◌++◌, ℕ, ◌≤◌, length, take, drop}
use Rattle.answer.specs.Answer.{refused, answered}
use Rattle.layout.specs.declared.Entry.{Entry}
use Rattle.layout.specs.declared.Numbers.{Numbers}
use Rattle.sheet.specs.Reading.{Sheet, reading_of}
use Rattle.layout.specs.Values.{AreBytes, DaysFit, NumbersFit}
use Rattle.answer.specs.declared.Refusal.{Refusal}
use Rattle.writer.specs.Writing.{written_of, buffer_of, said_written}

-- "a written sheet reads back as the entries sent": whatever was written, the part of the buffer that the answer names reads as the
-- numbers given and as many of the entries given as they say
unfoldable pub WrittenReadsBack : Type 0
WrittenReadsBack =
    (n : Numbers) (es : List Entry) (buf : List ℕ) (len : ℕ) → NumbersFit n → DaysFit (take n.entries es) → written_of n es buf ≡ answered len
    → reading_of (take len (buffer_of n es buf)) ≡ answered (record { numbers = n; entries = take n.entries es })

-- "a good sheet's entries and trailer numbers write the same bytes again": into any buffer with room, from entries that begin with
-- those read
unfoldable pub ReadWritesBack : Type 0
ReadWritesBack =
    (s : List ℕ) (sheet : Sheet) (more : List Entry) (buf : List ℕ) → AreBytes s → reading_of s ≡ answered sheet → length s ≤ length buf
    → (written_of sheet.numbers (sheet.entries ++ more) buf ≡ answered (length s))
    × (buffer_of sheet.numbers (sheet.entries ++ more) buf ≡ s ++ drop (length s) buf)

-- demand 1: "a refused call changes no record and no lent byte"
unfoldable pub RefusedWritesNothing : Type 0
RefusedWritesNothing = (n : Numbers) (es : List Entry) (buf : List ℕ) (k : ℕ) → written_of n es buf ≡ refused k → buffer_of n es buf ≡ buf

-- two different answers never say the same
abbrev pub WritingsApart : Type 0
WritingsApart = (a b : Result ℕ Refusal) → said_written a ≡ said_written b → a ≡ b
