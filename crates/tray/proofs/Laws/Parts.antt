-- Laws of parts of a list: what laying bytes over a buffer leaves of it, and parts of parts.
--   by_room                                     a fact about what laying leaves, from the two cases
--   laid_long                                   a buffer is as long as before
--   laid_inside, laid_before, laid_after        what stands where bytes were laid, before them and after them
--   part_of, byte_of                            a part of a part, and a byte of one, where they stand in the whole
-- Assumes nothing.
use mathlib.Core.Path.{◌≡◌, refl, sym, ap, ◌∙◌}
use mathlib.Core.List.{List, ◌++◌, append_assoc}
use mathlib.Core.Bool.{Bool, true, false}
use Prim.Native.Nat.{ℕ, ◌+◌, ◌-◌, ◌<◌, ◌≤◌}
use native.Mathlib.Omega.{arith}
use lib.Dec.{leb}
use lib.ListN.{length, get_or, take, drop, length-append, length-drop, take-append-drop}
use lib.Seq.{length-take-le, take-append-le, take_at, drop-append-le, drop-append-add, drop_at, drop-drop, take-take, get_or-take, get_or-drop}
use borrow.Author.Tests.{leb-true, leb-false}
use Rattle.laying.specs.Laying.{laid_over}
use Rattle.std.proofs.lemmas.List.{drop-take}
use Rattle.laying.proofs.Laws.{laid, no_room}

-- ---- parts of parts

module _ (l : List ℕ) (size from i : ℕ) where
  pub part_of : (m : ℕ) → i + m ≤ size → take m (drop i (take size (drop from l))) ≡ take m (drop (from + i) l)
  part_of m h =
      let whole : i + (size - i) ≡ size = omega arith in
      ap (λ (n : ℕ). take m (drop i (take n (drop from l)))) (sym whole)
      ∙ ap (take m) (drop-take i (size - i) (drop from l))
      ∙ take-take m (size - i) (drop i (drop from l)) (omega arith)
      ∙ ap (take m) (drop-drop i from l)

  pub byte_of : i < size → get_or (take size (drop from l)) i 0 ≡ get_or l (from + i) 0
  byte_of h = get_or-take size (drop from l) i 0 h ∙ get_or-drop from l i 0

-- ---- bytes laid over others

module _ (b : List ℕ) (at : ℕ) (x : List ℕ) where
  front : at + length x ≤ length b → length (take at b) ≡ at
  front room = length-take-le at b (omega arith)

  whole_front : at + length x ≤ length b → length (take at b ++ x) ≡ at + length x
  whole_front room = length-append (take at b) x ∙ ap (λ (n : ℕ). n + length x) (front room)

  -- a fact about what laying leaves, from the two cases
  pub by_room : (P : List ℕ → Type 0) → (at + length x ≤ length b → P (take at b ++ x ++ drop (at + length x) b)) → P b → P (laid_over b at x)
  by_room P with_room without = by_test (leb (at + length x) (length b)) refl
    where
      by_test : (t : Bool) → leb (at + length x) (length b) ≡ t → P (laid_over b at x)
      by_test true e = let room = leb-true (at + length x) (length b) e in rw (laid b at x room) (with_room room)
      by_test false e = rw (no_room b at x (leb-false (at + length x) (length b) e)) without

  pub laid_long : length (laid_over b at x) ≡ length b
  laid_long =
      by_room (λ (l : List ℕ). length l ≡ length b)
      (λ room. length-append (take at b ++ x) (drop (at + length x) b) ∙ omega (arith, whole_front room, length-drop (at + length x) b))
      refl

  pub laid_inside : at + length x ≤ length b → take (length x) (drop at (laid_over b at x)) ≡ x
  laid_inside room =
      ap (λ (l : List ℕ). take (length x) (drop at l)) (laid b at x room ∙ append_assoc (take at b) x (drop (at + length x) b))
      ∙ ap (take (length x)) (drop_at (take at b) (x ++ drop (at + length x) b) at (front room))
      ∙ take_at x (drop (at + length x) b) (length x) refl

  pub laid_before : (k n : ℕ) → k + n ≤ at → take n (drop k (laid_over b at x)) ≡ take n (drop k b)
  laid_before k n h =
      by_room (λ (l : List ℕ). take n (drop k l) ≡ take n (drop k b))
      (λ room.
      ap (λ (l : List ℕ). take n (drop k l)) (append_assoc (take at b) x (drop (at + length x) b))
      ∙ in_front (front room) (x ++ drop (at + length x) b)
      ∙ sym (in_front (front room) (drop at b))
      ∙ ap (λ (l : List ℕ). take n (drop k l)) (take-append-drop at b))
      refl
    where
      in_front : length (take at b) ≡ at → (y : List ℕ) → take n (drop k (take at b ++ y)) ≡ take n (drop k (take at b))
      in_front e y =
          ap (take n) (drop-append-le k (take at b) y (omega arith))
          ∙ take-append-le n (drop k (take at b)) y (omega (arith, length-drop k (take at b)))

  pub laid_after : (k : ℕ) → at + length x ≤ k → drop k (laid_over b at x) ≡ drop k b
  laid_after k h =
      by_room (λ (l : List ℕ). drop k l ≡ drop k b)
      (λ room.
      let there : k ≡ length (take at b ++ x) + (k - (at + length x)) = omega (arith, whole_front room) in
      let again : at + length x + (k - (at + length x)) ≡ k = omega arith in
      ap (λ (i : ℕ). drop i (take at b ++ x ++ drop (at + length x) b)) there
      ∙ drop-append-add (take at b ++ x) (drop (at + length x) b) (k - (at + length x))
      ∙ drop-drop (k - (at + length x)) (at + length x) b
      ∙ ap (λ (i : ℕ). drop i b) again)
      refl
