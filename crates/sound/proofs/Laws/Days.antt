-- Laws of `same_day` (specs/Sound.antt).
--   same_day_lem, same_day_if          the test says that two days are equal, and equal days pass it
--   same_bits                      two days of 32 bits are the same exactly if their patterns are
-- Assumes nothing.
use Prim.Native.Nat.{ℕ, suc, ◌^◌, ◌-◌}
use mathlib.Core.Path.{◌≡◌, refl, sym, ap, ◌∙◌}
use mathlib.Core.Bool.{Bool, true, false, false≢true}
use native.Mathlib.Omega.{arith}
use lib.Dec.{eqb}
use borrow.Author.Tests.{eqb-true, eqb-false, eq-eqb, ne_eqb}
use lib.IntN.{ℤ, pos, negsuc}
use mir.Syntax.{w32}
use mir.Val.{SFits, of_z}
use Rattle.sound.specs.Sound.{same_day}

pub same_day_lem : (a b : ℤ) → same_day a b ≡ true → a ≡ b
same_day_lem (pos a) (pos b) e = ap pos (eqb-true a b e)
same_day_lem (pos a) (negsuc b) e = absurd (false≢true e)
same_day_lem (negsuc a) (pos b) e = absurd (false≢true e)
same_day_lem (negsuc a) (negsuc b) e = ap negsuc (eqb-true a b e)

same_day_self : (a : ℤ) → same_day a a ≡ true
same_day_self (pos a) = eq-eqb a a refl
same_day_self (negsuc a) = eq-eqb a a refl

pub same_day_if : (a b : ℤ) → a ≡ b → same_day a b ≡ true
same_day_if a b e = ap (λ (z : ℤ). same_day a z) (sym e) ∙ same_day_self a

-- two tests of numbers agree where each equation gives the other
eqb_same : (a b x y : ℕ) → (a ≡ b → x ≡ y) → (x ≡ y → a ≡ b) → eqb a b ≡ eqb x y
eqb_same a b x y f g = by_tests (eqb a b) (eqb x y) refl refl
  where
    by_tests : (t u : Bool) → eqb a b ≡ t → eqb x y ≡ u → t ≡ u
    by_tests true true p q = refl
    by_tests true false p q = absurd (eqb-false x y q (f (eqb-true a b p)))
    by_tests false true p q = absurd (eqb-false a b p (g (eqb-true x y q)))
    by_tests false false p q = refl

pub same_bits : (a b : ℤ) → SFits w32 a → SFits w32 b → eqb (of_z w32 a) (of_z w32 b) ≡ same_day a b
same_bits (pos a) (pos b) f g = refl
same_bits (pos a) (negsuc b) f g = ne_eqb a (2 ^ 32 - suc b) (λ h. omega (arith, f.sfits, g.sfits))
same_bits (negsuc a) (pos b) f g = ne_eqb (2 ^ 32 - suc a) b (λ h. omega (arith, f.sfits, g.sfits))
same_bits (negsuc a) (negsuc b) f g =
    eqb_same (2 ^ 32 - suc a) (2 ^ 32 - suc b) a b (λ h. omega (arith, f.sfits, g.sfits)) (λ h. omega arith)
