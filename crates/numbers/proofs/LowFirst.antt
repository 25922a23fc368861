-- What std's methods make of bytes, low byte first, is what specs/Numbers.antt says.
--   num_of_2, num_of_4             `from_le_bytes` of two and of four bytes is their `num`
--   bytes_of_2, bytes_of_4         `to_le_bytes` of a number of 16 and of 32 bits is its `bytes`
-- Assumes nothing.
use mathlib.Core.Path.{◌≡◌}
use mathlib.Core.List.{[], ◌∷◌}
use Prim.Native.Nat.{ℕ}
use native.Mathlib.Omega.{arith}
use Rattle.std.specs.Int.{w16, w32, from_le_bytes, to_le_bytes}
use Rattle.numbers.specs.Numbers.{num, bytes}

pub num_of_2 : (a b : ℕ) → from_le_bytes w16 (a ∷ b ∷ []) ≡ num (a ∷ b ∷ [])
num_of_2 a b = omega arith

pub num_of_4 : (a b c d : ℕ) → from_le_bytes w32 (a ∷ b ∷ c ∷ d ∷ []) ≡ num (a ∷ b ∷ c ∷ d ∷ [])
num_of_4 a b c d = omega arith

pub bytes_of_2 : (n : ℕ) → to_le_bytes w16 n ≡ bytes 2 n
bytes_of_2 n = search arith

pub bytes_of_4 : (n : ℕ) → to_le_bytes w32 n ≡ bytes 4 n
bytes_of_4 n = search arith
