-- Laws of `num` and `bytes`: numbers to bytes and back, once for every count of bytes.
--   bytes_are                    that they are bytes
--   num_bytes, bytes_num         a number's bytes make the number; the bytes of what bytes make are those bytes
-- Assumes nothing.
use mathlib.Core.Path.{◌≡◌, refl}
use mathlib.Core.List.{List, [], ◌∷◌}
use Prim.Native.Nat.{ℕ, zero, suc, ◌+◌, ◌*◌, ◌/◌, ◌%◌, ◌<◌, ◌^◌}
use native.Mathlib.Omega.{arith}
use lib.ListN.{length}
use Rattle.numbers.specs.Numbers.{num, bytes}

-- every element is a byte
pub data Bytes : List ℕ → Type 0 where
  none : Bytes []
  more : {b : ℕ} {bs : List ℕ} → b < 256 → Bytes bs → Bytes (b ∷ bs)

pub bytes_are : (k n : ℕ) → Bytes (bytes k n)
bytes_are zero n = none
bytes_are (suc k) n = more {b = n % 256} (omega arith) (bytes_are k (n / 256))

pub num_bytes : (k n : ℕ) → n < 256 ^ k → num (bytes k n) ≡ n
num_bytes zero n h = omega arith
num_bytes (suc k) n h =
    let low : n / 256 < 256 ^ k = omega arith in
    omega (arith, num_bytes k (n / 256) low)

pub bytes_num : {l : List ℕ} → Bytes l → bytes (length l) (num l) ≡ l
bytes_num none = refl
bytes_num {l = b ∷ bs} (more h r) =
    let lo : (b + 256 * num bs) % 256 ≡ b = omega arith in
    let hi : (b + 256 * num bs) / 256 ≡ num bs = omega arith in
    rw (lo, hi, bytes_num r)
