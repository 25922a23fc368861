-- What `read` (src/lib.rt) promises. What the system gave, no contract can say.
-- Assumes nothing.
use Rattle.std.specs.Prelude.{ℕ, ◌≤◌, Bool, true, false, List, length, Option, Some, None, Result, Ok, Err}
use Rattle.std.specs.declared.env.FillError.{FillError}
use Rattle.std.specs.declared.env.FillError.TheVariants.{NotPresent, TooLong}

-- the bytes that were read are within the buffer; where that failed there are none
abbrev pub Within : List ℕ → Option ℕ → Type 0
Within buf (Some len) = len ≤ length buf
Within buf None = Unit {0}

-- what was found of an argument says that there is one: its length, or that it is longer than the buffer
abbrev pub is_there : Result ℕ FillError → Bool
is_there (Ok len) = true
is_there (Err TooLong) = true
is_there (Err NotPresent) = false
