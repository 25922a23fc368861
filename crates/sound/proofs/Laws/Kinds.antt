-- The clauses on the two kinds of a cell (`kinds_fit`), as the code tests them in causal mode and in the others.
--   kinds_causal, kinds_agreeing
-- Assumes nothing.
use Prim.Native.Nat.{ℕ}
use mathlib.Core.Path.{◌≡◌, refl, sym}
use mathlib.Core.Bool.{Bool, true, false, not, ◌&&◌, ◌||◌, and-true, and-false, and_self}
use lib.Dec.{eqb, leb}
use borrow.Author.Tests.{eqb-true}
use Rattle.sound.specs.Parts.{kinds_fit}

module _ (kind pkind : ℕ) {causal : Bool} where
  pub kinds_causal : causal ≡ true → ((leb kind 2 && leb pkind 2) && (eqb pkind 0 || not (eqb kind 0))) ≡ kinds_fit causal kind pkind
  kinds_causal e = rw (e, and-true (not (eqb kind 0)))

  -- where the kinds agree, what is so of the shelf's is so of the pending one
  pub kinds_agreeing : causal ≡ false → (leb kind 2 && (eqb pkind 0 || eqb pkind kind)) ≡ kinds_fit causal kind pkind
  kinds_agreeing e = rw e (by_tests (eqb pkind 0) (eqb pkind kind) refl refl)
    where
      by_tests : (z s : Bool) → eqb pkind 0 ≡ z → eqb pkind kind ≡ s
          → (leb kind 2 && (eqb pkind 0 || eqb pkind kind)) ≡ kinds_fit false kind pkind
      by_tests true s p q = rw (p, eqb-true pkind 0 p, and-true (leb kind 2)) (sym (and-true (leb kind 2)))
      by_tests false true p q = rw (p, q, ← eqb-true pkind kind q, p, and-true (leb pkind 2), and_self (leb pkind 2), and-true (leb pkind 2))
      by_tests false false p q = rw (p, q, and-false (leb kind 2), and-false (not (eqb kind 0)), and-false (leb kind 2 && leb pkind 2))
