-- The bytes of a text that stands in quotes: what `rounds` reads and prints is ASCII, a byte for each character.
-- Assumes nothing.
use Rattle.std.specs.Prelude.{ℕ, zero, suc, ◌+◌, List, [], ◌∷◌}
use Prim.Native.Char.{code}
use Prim.Native.String.{String, len, char_at}

-- k of its bytes, from i on
abbrev pub codes_from : String → ℕ → ℕ → List ℕ
codes_from s i zero = []
codes_from s i (suc k) = code (char_at s i) ∷ codes_from s (i + 1) k

abbrev pub text : String → List ℕ
text s = codes_from s 0 (len s)
