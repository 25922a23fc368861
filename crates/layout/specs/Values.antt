-- What is so of every value of the code, and is a premise where a statement speaks of any natural numbers: a byte is below 256, the
-- number of four bytes below 4,294,967,296.
-- Assumes nothing.
use Rattle.std.specs.Prelude.{List, [], ◌∷◌, ℕ, ◌<◌, get_or}
use Rattle.layout.specs.declared.Entry.{Entry}
use Rattle.layout.specs.declared.Numbers.{Numbers}

-- the elements of a lent slice of bytes
abbrev pub AreBytes : List ℕ → Type 0
AreBytes s = (i : ℕ) → get_or s i 0 < 256

-- the days of entries
pub data DaysFit : List Entry → Type 0 where
  no_days : DaysFit []
  a_day : {e : Entry} {es : List Entry} → e.day < 4294967296 → DaysFit es → DaysFit (e ∷ es)

-- the numbers of a trailer
pub record NumbersFit (n : Numbers) : Type 0 where
  pub entries : n.entries < 256
  pub turn : n.turn < 4294967296
