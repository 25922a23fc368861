-- Lists that are bytes (`AreBytes`, specs/Values.antt), for whoever makes them of others.
--   are_bytes                      a list of which every element is a byte
--   number_bytes, zeros_bytes      the bytes of a number, and zeros
--   append_bytes                   bytes behind bytes
--   front_bytes, back_bytes        what bytes begin with, and what is left of them
-- Assumes nothing.
use mathlib.Core.List.{List, [], ◌∷◌, ◌++◌}
use Prim.Native.Nat.{ℕ, zero, suc, ◌+◌}
use native.Mathlib.Omega.{arith}
use lib.ListN.{take, drop, replicate}
use lib.Seq.{get_or-drop}
use Rattle.numbers.specs.Numbers.{bytes}
use Rattle.numbers.proofs.Laws.{Bytes, none, more, bytes_are}
use Rattle.layout.specs.Values.{AreBytes}

pub are_bytes : {l : List ℕ} → Bytes l → AreBytes l
are_bytes none i = omega arith
are_bytes (more h r) zero = h
are_bytes (more h r) (suc i) = are_bytes r i

pub number_bytes : (k n : ℕ) → AreBytes (bytes k n)
number_bytes k n = are_bytes (bytes_are k n)

pub zeros_bytes : (n : ℕ) → AreBytes (replicate n 0)
zeros_bytes zero i = omega arith
zeros_bytes (suc n) zero = omega arith
zeros_bytes (suc n) (suc i) = zeros_bytes n i

pub append_bytes : (a b : List ℕ) → AreBytes a → AreBytes b → AreBytes (a ++ b)
append_bytes [] b p q i = q i
append_bytes (x ∷ a) b p q zero = p 0
append_bytes (x ∷ a) b p q (suc i) = append_bytes a b (λ j. p (suc j)) q i

pub front_bytes : (n : ℕ) (l : List ℕ) → AreBytes l → AreBytes (take n l)
front_bytes zero l b i = omega arith
front_bytes (suc n) [] b i = omega arith
front_bytes (suc n) (x ∷ l) b zero = b 0
front_bytes (suc n) (x ∷ l) b (suc i) = front_bytes n l (λ j. b (suc j)) i

pub back_bytes : (n : ℕ) (l : List ℕ) → AreBytes l → AreBytes (drop n l)
back_bytes n l b i = rw get_or-drop (b (n + i))
