-- The trays of a run, one behind the other in the bytes that the code keeps them in: each has 398 × n bytes.
--   tray_in                      the tray of desk p
--   tray_room                   it is there
--   spliced                     a part that was lent and came back is laid over what was there
--   tray_same, tray_other       a tray that was laid there is there, and the others are as they were
--   tray_zeros                  in zeros all trays are clear
-- Assumes nothing.
use Prim.Native.Nat.{ℕ, suc, ◌+◌, ◌*◌, ◌-◌, ◌<◌, ◌≤◌}
use mathlib.Core.Path.{◌≡◌, refl, sym, ap, ◌∙◌}
use mathlib.Core.Bool.{Bool, true, false}
use mathlib.Core.List.{List, ◌++◌, append_assoc}
use native.Mathlib.Omega.{arith}
use native.Mathlib.Nat.{mul-le-mul, mul-le-mul_right}
use lib.Dec.{ltb}
use lib.ListN.{length, take, drop, replicate}
use lib.Seq.{drop-drop}
use borrow.Author.Tests.{ltb-true, ltb-false}
use Rattle.std.proofs.lemmas.List.{take-replicate, drop-replicate}
use Rattle.laying.specs.Laying.{laid_over}
use Rattle.laying.proofs.Laws.{laid}
use Rattle.tray.proofs.Laws.Parts.{laid_inside, laid_before, laid_after}

-- the part of this size from p × size on
abbrev pub tray_in : ℕ → List ℕ → ℕ → List ℕ
tray_in size trays p = take size (drop (p * size) trays)

-- the tray of each of up to 16 desks is among 101,888 bytes
pub tray_room : (n p : ℕ) → n ≤ 16 → p < n → p * (398 * n) + 398 * n ≤ 101888
tray_room n p few l =
    let most : suc p ≤ 16 = omega arith in
    let long : 398 * n ≤ 6368 = omega arith in
    let up : suc p * (398 * n) ≤ 16 * 6368 = mul-le-mul most long in
    let out : suc p * (398 * n) ≡ p * (398 * n) + 398 * n = omega arith in
    omega arith

module _ (xs ys : List ℕ) (at k : ℕ) (many : k ≡ length ys) (room : at + length ys ≤ length xs) where
  pub spliced : take at xs ++ (ys ++ drop k (drop at xs)) ≡ laid_over xs at ys
  spliced =
      sym (append_assoc (take at xs) ys (drop k (drop at xs)))
      ∙ ap (λ (l : List ℕ). (take at xs ++ ys) ++ l) (drop-drop k at xs ∙ ap (λ (i : ℕ). drop (at + i) xs) many)
      ∙ sym (laid xs at ys room)

module _ (size : ℕ) (trays : List ℕ) (p : ℕ) (t : List ℕ) (long : length t ≡ size) where
  pub tray_same : p * size + size ≤ length trays → tray_in size (laid_over trays (p * size) t) p ≡ t
  tray_same room = ap (λ (i : ℕ). take i (drop (p * size) (laid_over trays (p * size) t))) (sym long) ∙ laid_inside trays (p * size) t (omega arith)

  pub tray_other : (q : ℕ) → (q ≡ p → ⊥) → tray_in size (laid_over trays (p * size) t) q ≡ tray_in size trays q
  tray_other q apart = by_test (ltb q p) refl
    where
      by_test : (b : Bool) → ltb q p ≡ b → tray_in size (laid_over trays (p * size) t) q ≡ tray_in size trays q
      by_test true e =
          let l = ltb-true q p e in
          let up : suc q * size ≤ p * size = mul-le-mul_right size (omega arith) in
          laid_before trays (p * size) t (q * size) size (omega arith)
      by_test false e =
          let l = ltb-false q p e in
          let up : suc p * size ≤ q * size = mul-le-mul_right size (omega arith) in
          ap (take size) (laid_after trays (p * size) t (q * size) (omega arith))

pub tray_zeros : (size p k : ℕ) → p * size + size ≤ k → tray_in size (replicate k 0) p ≡ replicate size 0
tray_zeros size p k room = ap (take size) (drop-replicate (p * size) k 0) ∙ take-replicate size (k - p * size) 0 (omega arith)
