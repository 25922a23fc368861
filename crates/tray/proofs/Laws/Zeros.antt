-- Laws of `zeros` (specs/Tray.antt).
--   ZerosSoFar, zeros_begun, zeros_turned, zeros_ended              the loop that looks for a byte that is none
--   zeros_found                                                     the loop's laws as a set for `search`
--   zeros_are                                                       zeros are zeros
-- Assumes nothing.
use mathlib.Core.Path.{◌≡◌, refl, sym, ap, ◌∙◌}
use mathlib.Core.List.{List}
use mathlib.Core.Bool.{Bool, true, ◌&&◌, and-true, and_assoc}
use Prim.Native.Nat.{ℕ, zero, suc, ◌+◌, ◌<◌, ◌≤◌}
use native.Mathlib.Omega.{arith}
use native.Mathlib.Numerals.{add-one}
use lib.Dec.{eqb}
use lib.ListN.{length, get_or, drop, drop_of_length-le, replicate}
use lib.Seq.{drop-cons}
use Rattle.tray.specs.Tray.{zeros}

pub zeros_are : (n : ℕ) → zeros (replicate n 0) ≡ true
zeros_are zero = refl
zeros_are (suc n) = zeros_are n

-- ---- looked for

pub record ZerosSoFar (s : List ℕ) (ok : Bool) (i : ℕ) : Type 0 where
  pub within_s : i ≤ length s
  pub whole : zeros s ≡ ok && zeros (drop i s)

module _ (s : List ℕ) where
  pub zeros_begun : ZerosSoFar s true 0
  zeros_begun = record { within_s = omega arith; whole = refl }

  module _ (ok : Bool) (i : ℕ) (so : ZerosSoFar s ok i) where
    pub zeros_turned : i < length s → ZerosSoFar s (ok && eqb (get_or s i 0) 0) (i + 1)
    zeros_turned h =
        record {
          within_s = omega arith;
          whole =
              so.whole
              ∙ ap (λ (l : List ℕ). ok && zeros l) (drop-cons s i 0 h)
              ∙ rw add-one (sym (and_assoc ok (eqb (get_or s i 0) 0) (zeros (drop (suc i) s))));
        }

    pub zeros_ended : length s ≤ i → ok ≡ zeros s
    zeros_ended h = sym (so.whole ∙ rw (drop_of_length-le s h) (and-true ok))

pub ruleset zeros_found = (zeros_begun, zeros_turned, zeros_ended)
