-- 01, "A sheet and its trailer": "All numbers low byte first." A day has four bytes, "two's complement".
-- Of the logic's own: `to_z w32` is the signed number of a 32-bit pattern, `of_z w32` the pattern of a signed number.
-- Assumes nothing.
use Rattle.std.specs.Prelude.{ℕ, zero, suc, ◌+◌, ◌*◌, ◌/◌, ◌%◌, List, [], ◌∷◌, get_or}

-- the number that bytes make, low byte first
abbrev pub num : List ℕ → ℕ
num [] = 0
num (b ∷ bs) = b + 256 * num bs

-- the low k bytes of a number, low byte first
abbrev pub bytes : ℕ → ℕ → List ℕ
bytes zero n = []
bytes (suc k) n = n % 256 ∷ bytes k (n / 256)

-- the byte at i, and the numbers of two and of four bytes from i on; past the end the bytes are zeros
abbrev pub at1 : List ℕ → ℕ → ℕ
at1 l i = get_or l i 0

abbrev pub at2 : List ℕ → ℕ → ℕ
at2 l i = num (at1 l i ∷ at1 l (i + 1) ∷ [])

abbrev pub at4 : List ℕ → ℕ → ℕ
at4 l i = num (at1 l i ∷ at1 l (i + 1) ∷ at1 l (i + 2) ∷ at1 l (i + 3) ∷ [])
