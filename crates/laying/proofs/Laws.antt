-- Laws of `laid_over` (specs/Laying.antt).
--   laid, no_room                  with room the bytes are laid; without it nothing is
--   laid_next                      what is laid right behind what was laid at the front is laid at the front too: two puts are one
--   laid_behind                    the same anywhere in a buffer: what is laid right behind what was laid is laid with it
--   copied                         a copy into a part of a buffer is the bytes laid over it
--   puts                           a set: what `put` leaves, with room and without
-- Assumes nothing.
use mathlib.Core.Path.{◌≡◌, sym, ap, ◌∙◌}
use mathlib.Core.List.{List, ◌++◌, append_assoc}
use Prim.Native.Nat.{ℕ, ◌+◌, ◌<◌, ◌≤◌}
use native.Mathlib.Omega.{arith}
use lib.ListN.{length, take, drop, length-append, length-drop}
use borrow.Rule.Slice.PartMut.{put_mid}
use lib.Seq.{length-take-le, take-append_seam, drop-append-add, drop-drop}
use borrow.Author.Tests.{le-leb, lt-leb}
use Rattle.laying.specs.Laying.{laid_over}

module _ (b : List ℕ) (at : ℕ) (x : List ℕ) where
  pub laid : at + length x ≤ length b → laid_over b at x ≡ take at b ++ x ++ drop (at + length x) b
  unfolding laid_over
  laid h = rw (le-leb (at + length x) (length b) h)

  pub no_room : length b < at + length x → laid_over b at x ≡ b
  unfolding laid_over
  no_room h = rw (lt-leb (at + length x) (length b) h)

-- ---- behind what stands at the front

module _ (front x b : List ℕ) (room : length front + length x ≤ length b) where
  pub laid_next : laid_over (front ++ drop (length front) b) (length front) x ≡ (front ++ x) ++ drop (length (front ++ x)) b
  laid_next =
      let long : length (front ++ drop (length front) b) ≡ length b = length-append front (drop (length front) b) ∙ rw length-drop (omega arith) in
      laid (front ++ drop (length front) b) (length front) x (omega arith)
      ∙ rw (take-append_seam, drop-append-add, drop-drop, length-append)

-- ---- behind what was laid anywhere

pub laid_behind : (b : List ℕ) (at : ℕ) (x y : List ℕ) → at + length x + length y ≤ length b → laid_over (laid_over b at x) (at + length x) y ≡ laid_over b at (x ++ y)
laid_behind b at x y room =
    let head : length (take at b) ≡ at = length-take-le at b (omega arith) in
    let front : List ℕ = take at b ++ x in
    let long : length front ≡ at + length x = length-append (take at b) x ∙ rw head in
    let all : length (take at b ++ (x ++ y)) ≡ at + length (x ++ y) = length-append (take at b) (x ++ y) ∙ rw head in
    ap (λ (l : List ℕ). laid_over l (at + length x) y) (laid b at x (omega arith))
    ∙ ap (λ (k : ℕ). laid_over (front ++ drop k b) k y) (sym long)
    ∙ laid_next front y b (omega arith)
    ∙ ap (λ (l : List ℕ). l ++ drop (length l) b) (append_assoc (take at b) x y)
    ∙ ap (λ (k : ℕ). take at b ++ (x ++ y) ++ drop k b) all
    ∙ sym (laid b at (x ++ y) (omega (arith, length-append x y)))

-- ---- a copy into a part of a buffer

-- what is left of b when its k bytes from `at` on become x, as `copy_from_slice` and `fill` leave them
pub copied : (b : List ℕ) (at : ℕ) (x : List ℕ) (k : ℕ) → at + length x ≤ length b → k ≡ length x → put_mid at k b x ≡ laid_over b at x
copied b at x k room long =
    ap (λ (n : ℕ). take at b ++ (x ++ drop n (drop at b))) long
    ∙ ap (λ (l : List ℕ). take at b ++ (x ++ l)) (drop-drop (length x) at b)
    ∙ sym (append_assoc (take at b) x (drop (at + length x) b))
    ∙ sym (laid b at x room)

pub ruleset puts = (copied, no_room)
