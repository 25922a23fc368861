-- A tray's bytes stay bytes.
--   laid_bytes                     bytes laid over bytes
--   held_bytes, cleared_bytes      a tray with a sheet put into a place, and one with a place cleared
-- Assumes nothing.
use mathlib.Core.List.{List, ◌++◌}
use Prim.Native.Nat.{ℕ, ◌+◌, ◌-◌}
use lib.ListN.{length, take, drop, replicate}
use Rattle.numbers.specs.Numbers.{bytes}
use Rattle.laying.specs.Laying.{laid_over}
use Rattle.layout.specs.Values.{AreBytes}
use Rattle.layout.proofs.Bytes.{number_bytes, zeros_bytes, append_bytes, front_bytes, back_bytes}
use Rattle.tray.specs.Tray.{place_start, place_bytes, held_in, cleared_in}
use Rattle.tray.proofs.Laws.Parts.{by_room}
use Rattle.tray.proofs.Laws.Places.{by_size}

pub laid_bytes : (b : List ℕ) (at : ℕ) (x : List ℕ) → AreBytes b → AreBytes x → AreBytes (laid_over b at x)
laid_bytes b at x p q =
    let behind : ℕ = at + length x in
    by_room b at x AreBytes
    (λ room. append_bytes (take at b ++ x) (drop behind b) (append_bytes (take at b) x (front_bytes at b p) q) (back_bytes behind b p))
    p

-- "sheet length (2), sheet, zeros to the end"
place_bytes_lem : (s : List ℕ) → AreBytes s → AreBytes (place_bytes s)
place_bytes_lem s b =
    let two : List ℕ = bytes 2 (length s) in
    append_bytes (two ++ s) (replicate (396 - length s) 0) (append_bytes two s (number_bytes 2 (length s)) b) (zeros_bytes (396 - length s))

module _ (tray : List ℕ) (q : ℕ) where
  pub held_bytes : (s : List ℕ) → AreBytes tray → AreBytes s → AreBytes (held_in tray q s)
  held_bytes s t b = by_size tray q s AreBytes (λ few. laid_bytes tray (place_start q) (place_bytes s) t (place_bytes_lem s b)) t

  pub cleared_bytes : AreBytes tray → AreBytes (cleared_in tray q)
  unfolding cleared_in
  cleared_bytes t = laid_bytes tray (place_start q) (replicate 398 0) t (zeros_bytes 398)
