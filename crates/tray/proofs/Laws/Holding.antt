-- Laws of `held_in` and `cleared_in` (specs/Tray.antt), as the code goes.
--   place_long            a place has 398 bytes
--   held_is, held_not     a sheet of up to 396 bytes is laid over its place, and a longer one is not
--   hold_too_long, hold_no_room       where `hold` leaves the tray alone
--   hold_whole            what it laid, part by part, is the whole place
--   zeros_laid            what `fill` leaves is zeros laid over the tray
--   clear_no_room, clear_whole        what `clear` leaves
-- Assumes nothing.
use mathlib.Core.Path.{◌≡◌, sym, ap, ◌∙◌}
use mathlib.Core.List.{List, ◌++◌}
use Prim.Native.Nat.{ℕ, ◌+◌, ◌*◌, ◌-◌, ◌<◌, ◌≤◌}
use native.Mathlib.Omega.{arith}
use lib.ListN.{length, take, drop, replicate, length-append, length-drop, length-replicate}
use lib.Seq.{length-take-le}
use borrow.Rule.Slice.PartMut.{put_mid}
use borrow.Author.Tests.{le-leb, lt-leb}
use Rattle.numbers.specs.Numbers.{bytes}
use Rattle.laying.specs.Laying.{laid_over}
use Rattle.laying.proofs.Laws.{copied, no_room, laid_behind}
use Rattle.tray.specs.Tray.{place_start, place_bytes, held_in, cleared_in}

-- ---- a sheet

pub place_long : (s : List ℕ) → length s ≤ 396 → length (place_bytes s) ≡ 398
place_long s few = omega (arith, length-append s (replicate (396 - length s) 0), length-replicate {A = ℕ} (396 - length s) 0)

module _ (tray : List ℕ) (q : ℕ) (s : List ℕ) where
  pub held_not : 396 < length s → held_in tray q s ≡ tray
  unfolding held_in
  held_not h = rw (lt-leb (length s) 396 h)

  pub held_is : length s ≤ 396 → held_in tray q s ≡ laid_over tray (place_start q) (place_bytes s)
  unfolding held_in
  held_is few = rw (le-leb (length s) 396 few)

  pub hold_too_long : 396 < length s → tray ≡ held_in tray q s
  hold_too_long h = sym (held_not h)

  module _ (few : length s ≤ 396) where
    pub hold_no_room : length tray < 398 * q + 398 → tray ≡ held_in tray q s
    hold_no_room h = sym (held_is few ∙ no_room tray (place_start q) (place_bytes s) (omega (arith, place_long s few)))

    pub hold_whole : 398 * q + 398 ≤ length tray
        → (two : List ℕ) → two ≡ bytes 2 (length s)
        → (t₁ : List ℕ) → t₁ ≡ laid_over tray (398 * q) two
        → (t₂ : List ℕ) → t₂ ≡ laid_over t₁ (398 * q + 2) s
        → (t₃ : List ℕ) → t₃ ≡ laid_over t₂ (398 * q + 2 + length s) (replicate (398 * q + 398 - (398 * q + 2 + length s)) 0)
        → t₃ ≡ held_in tray q s
    hold_whole room two e t₁ e₁ t₂ e₂ t₃ e₃ =
        let at : ℕ = 398 * q in
        let head : List ℕ = bytes 2 (length s) in
        let tail : List ℕ = replicate (396 - length s) 0 in
        let left : 398 * q + 398 - (398 * q + 2 + length s) ≡ 396 - length s = omega arith in
        let many : length tail ≡ 396 - length s = length-replicate (396 - length s) 0 in
        let further : length (head ++ s) ≡ 2 + length s = length-append head s in
        let on : at + 2 + length s ≡ at + length (head ++ s) = omega arith in
        let two_laid : t₂ ≡ laid_over tray at (head ++ s) =
        e₂ ∙ ap (λ (l : List ℕ). laid_over l (at + 2) s) (e₁ ∙ ap (laid_over tray at) e) ∙ laid_behind tray at head s (omega arith)
        in
        e₃
        ∙ ap (λ (n : ℕ). laid_over t₂ (at + 2 + length s) (replicate n 0)) left
        ∙ ap (λ (l : List ℕ). laid_over l (at + 2 + length s) tail) two_laid
        ∙ ap (λ (k : ℕ). laid_over (laid_over tray at (head ++ s)) k tail) on
        ∙ laid_behind tray at (head ++ s) tail (omega arith)
        ∙ sym (held_is few)

-- ---- zeros

-- a part of the tray that is filled with zeros
pub zeros_laid : (b : List ℕ) (from k : ℕ) (zs : List ℕ) → from + k ≤ length b → (((y : ℕ) → y ≡ 0 → y ≡ 0) → zs ≡ replicate (length (take k (drop from b))) 0)
    → put_mid from k b zs ≡ laid_over b from (replicate k 0)
zeros_laid b from k zs room filled =
    let all : length (take k (drop from b)) ≡ k = length-take-le k (drop from b) (omega (arith, length-drop from b)) in
    ap (put_mid from k b) (filled (λ y e. e) ∙ ap (λ (n : ℕ). replicate n 0) all)
    ∙ copied b from (replicate k 0) k (omega (arith, length-replicate {A = ℕ} k 0)) (sym (length-replicate k 0))

module _ (tray : List ℕ) (q : ℕ) where
  pub clear_no_room : length tray < 398 * q + 398 → tray ≡ cleared_in tray q
  unfolding cleared_in
  clear_no_room h = sym (no_room tray (place_start q) (replicate 398 0) (omega (arith, length-replicate {A = ℕ} 398 0)))

  pub clear_whole : (t : List ℕ) → t ≡ laid_over tray (398 * q) (replicate (398 * q + 398 - 398 * q) 0) → t ≡ cleared_in tray q
  unfolding cleared_in
  clear_whole t e = let all : 398 * q + 398 - 398 * q ≡ 398 = omega arith in e ∙ ap (λ (n : ℕ). laid_over tray (398 * q) (replicate n 0)) all
