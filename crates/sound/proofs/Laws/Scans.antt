-- The loops over the places: each makes one test of every place and never stops early.
--   EachSoFar, each_begun, each_turned, each_ended    what a loop has after some turns, for any test of a place
--   blank_begun                                       the loop that starts at place m: its test holds of each place below
--   blank_here, kinds_here, fit_here, agree_here      one place's test, as the code makes it of the two or three numbers that it reads there
--   scans                                             all of these, for `search`
-- Assumes nothing.
use Prim.Native.Nat.{ℕ, zero, suc, ◌+◌, ◌-◌, ◌≤◌, ◌<◌, min}
use mathlib.Core.Path.{◌≡◌, refl, sym, ap, ◌∙◌}
use mathlib.Core.Bool.{Bool, true, ◌&&◌}
use mathlib.Core.List.{List, [], ◌∷◌, ◌++◌}
use native.Mathlib.Omega.{arith}
use lib.Dec.{eqb}
use lib.ListN.{get_or, take, drop, length-drop}
use lib.Seq.{get_or-drop}
use lib.IntN.{ℤ, pos}
use mir.Syntax.{w32}
use mir.Val.{SFits, of_z, to_z}
use mir.Facts.{to_z-of_z}
use borrow.Author.Tests.{le-leb, lt-leb}
use Rattle.std.proofs.Common.{Bor, Iter, Option, None, Some, length, length-append}
use Rattle.std.proofs.iter.Yields.{fronts}
use Rattle.std.proofs.lemmas.Iterator.{zips}
use Rattle.std.proofs.lemmas.List.{take_rest}
use Rattle.std.proofs.lemmas.Slice.Zip.{zip_turn, zip_end}
use Rattle.std.specs.declared.iter.Zip.{Zip}
use Rattle.std.specs.Iterator.{Yields}
use Rattle.std.specs.Iterator.Adapters.{zip_first, zip_second}
use Rattle.std.specs.Slice.Iter.{iter_rest}
use Rattle.cells.specs.Cells.{place_at, kind_at, day_at, each}
use Rattle.cells.proofs.Laws.{in_place}
use Rattle.sound.specs.Sound.{same_day, day_fits}
use Rattle.sound.specs.Parts.{blank_from, kinds_fit, wanted_day}
use Rattle.sound.proofs.Laws.Days.{same_bits}

-- ---- any test of a place

-- the test was made of each place below i; there are 64
pub record EachSoFar (p : ℕ → Bool) (ok : Bool) (i : ℕ) : Type 0 where
  pub found : ok ≡ each (min i 64) p

module _ {p : ℕ → Bool} where
  pub each_begun : EachSoFar p true 0
  unfolding each
  each_begun = record { found = refl }

  pub each_turned : {ok t : Bool} {i : ℕ} → EachSoFar p ok i → i < 64 → t ≡ p i → EachSoFar p (ok && t) (i + 1)
  unfolding each
  each_turned {ok = ok} {t = t} {i = i} so h e =
      let here : min i 64 ≡ i = omega arith in
      let next : suc i ≡ min (i + 1) 64 = omega arith in
      let one : ok && t ≡ each (suc i) p = rw (so.found, here, e) in
      record { found = one ∙ ap (λ (n : ℕ). each n p) next }

  pub each_ended : {ok : Bool} {i : ℕ} → EachSoFar p ok i → 64 ≤ i → ok ≡ each 64 p
  each_ended {i = i} so h = let all : min i 64 ≡ 64 = omega arith in so.found ∙ ap (λ (n : ℕ). each n p) all

-- ---- two arrays of 64 places, gone through side by side: the loop has passed `length xs` places

module _ {A B : Type 0} {p : ℕ → Bool} {ok : Bool} (l : List A) (r : List B) (s t u : Zip (Iter A) (Iter B)) (xs : List (Bor A × Bor B))
    (so : EachSoFar p ok (length xs)) (long : length l ≡ 64) (same : length r ≡ 64) (left : iter_rest (zip_first s) ≡ l) (right : iter_rest (zip_second s) ≡ r)
    (so_far : Yields (zips fronts fronts) s xs t) {o : Option (Bor A × Bor B)} (turn : zips fronts fronts t o u) where
  pub pairs_turned : (x : Bor A) (y : Bor B) → o ≡ Some (x, y) → (none : A) (none₂ : B) {test : Bool}
      → (x.now ≡ place_at none l (length xs) → y.now ≡ place_at none₂ r (length xs) → test ≡ p (length xs))
      → EachSoFar p (ok && test) (length (xs ++ (x, y) ∷ []))
  pairs_turned x y is none none₂ made =
      let here = zip_turn l r xs s t u o left right so_far (x, y) is turn in
      let within : length xs < 64 = omega (arith, long, here.0) in
      rw (length-append xs ((x, y) ∷ []))
      (each_turned so within (made (here.2 none ∙ in_place none l (length xs) within) (here.3 none₂ ∙ in_place none₂ r (length xs) within)))

  pub pairs_ended : o ≡ None → ok ≡ each 64 p
  pairs_ended is = each_ended so (omega (arith, long, same, zip_end l r xs s t u o left right so_far is turn))

-- ---- the test of one place

behind : (from : ℕ) (l : List ℕ) → length l ≡ 64 → take (64 - from) (drop from l) ≡ drop from l
behind from l long = rw long at (take_rest l from)

module _ (m : ℕ) (kind pkind : List ℕ) where
  below_m : (n : ℕ) → n ≤ m → true ≡ each n (blank_from m kind pkind)
  unfolding each
  below_m zero h = refl
  below_m (suc n) h = rw (← (below_m n (omega arith)), lt-leb m n (omega arith))

  pub blank_begun : {i : ℕ} → i ≡ m → EachSoFar (blank_from m kind pkind) true i
  blank_begun e = record { found = below_m (min m 64) (omega arith) ∙ ap (λ (n : ℕ). each (min n 64) (blank_from m kind pkind)) (sym e) }

  pub blank_here : (i : ℕ) {a b : ℕ} → m ≤ i → a ≡ kind_at kind i → b ≡ kind_at pkind i → (eqb a 0 && eqb b 0) ≡ blank_from m kind pkind i
  blank_here i h e f = rw (e, f, le-leb m i h)

  -- the loop from place m on, or from 64 on where m is above: it has passed `length xs` places from there
  module _ (s t u : Zip (Iter ℕ) (Iter ℕ)) (xs : List (Bor ℕ × Bor ℕ)) (from : ℕ) (is_from : from ≡ min m 64) {ok : Bool}
      (so : EachSoFar (blank_from m kind pkind) ok (m + length xs)) (long : length kind ≡ 64) (same : length pkind ≡ 64)
      (left : iter_rest (zip_first s) ≡ take (64 - from) (drop from kind)) (right : iter_rest (zip_second s) ≡ take (64 - from) (drop from pkind))
      (so_far : Yields (zips fronts fronts) s xs t) {o : Option (Bor ℕ × Bor ℕ)} (turn : zips fronts fronts t o u) where
    pub blank_turned : (x y : Bor ℕ) → o ≡ Some (x, y) → EachSoFar (blank_from m kind pkind) (ok && (eqb x.now 0 && eqb y.now 0)) (m + length (xs ++ (x, y) ∷ []))
    blank_turned x y is =
        let here = zip_turn (drop from kind) (drop from pkind) xs s t u o (left ∙ behind from kind long) (right ∙ behind from pkind same) so_far (x, y) is turn in
        let within : m + length xs < 64 = omega (arith, long, is_from, length-drop from kind, here.0) in
        let begins : from ≡ m = omega (arith, is_from, within) in
        let next : m + length xs + 1 ≡ m + length (xs ++ (x, y) ∷ []) = omega (arith, length-append xs ((x, y) ∷ [])) in
        let place : from + length xs ≡ m + length xs = rw begins in
        rw next at
        (each_turned so within
        (blank_here (m + length xs) (omega arith)
        (here.2 0 ∙ get_or-drop from kind (length xs) 0 ∙ ap (λ (n : ℕ). get_or kind n 0) place ∙ in_place 0 kind (m + length xs) within)
        (here.3 0 ∙ get_or-drop from pkind (length xs) 0 ∙ ap (λ (n : ℕ). get_or pkind n 0) place ∙ in_place 0 pkind (m + length xs) within)))

    pub blank_ended : o ≡ None → ok ≡ each 64 (blank_from m kind pkind)
    blank_ended is =
        each_ended so
        (omega (arith, long, same, is_from, length-drop from kind, length-drop from pkind, zip_end (drop from kind) (drop from pkind) xs s t u o (left ∙ behind from kind long) (right ∙ behind from pkind same) so_far is turn))

pub kinds_here : (causal : Bool) (kind pkind : List ℕ) (i : ℕ) {a b : ℕ} {t : Bool}
    → t ≡ kinds_fit causal a b → a ≡ kind_at kind i → b ≡ kind_at pkind i → t ≡ kinds_fit causal (kind_at kind i) (kind_at pkind i)
kinds_here causal kind pkind i t e f = rw (← e, ← f) t

-- (a day that is handed to a function shows there as `to_z w32 (of_z w32 z)`, the number of its own pattern)
pub fit_here : (kind : List ℕ) (day : List ℤ) (i : ℕ) {a : ℕ} {b : ℤ} {t : Bool}
    → SFits w32 b → t ≡ day_fits a (to_z w32 (of_z w32 b)) → a ≡ kind_at kind i → b ≡ day_at day i → t ≡ day_fits (kind_at kind i) (day_at day i)
fit_here kind day i fits t e f = rw (← e, ← f) (rw (to_z-of_z fits) at t)

pub agree_here : (day : List ℤ) (pkind : List ℕ) (pday : List ℤ) (i : ℕ) → i < 64 → {want : ℤ}
    → want ≡ wanted_day (get_or pkind i 0) (to_z w32 (of_z w32 (get_or day i (pos 0))))
    → SFits w32 (get_or day i (pos 0)) → SFits w32 (get_or pday i (pos 0)) → SFits w32 want
    → eqb (of_z w32 (get_or pday i (pos 0))) (of_z w32 want) ≡ same_day (day_at pday i) (wanted_day (kind_at pkind i) (day_at day i))
agree_here day pkind pday i h w fb fc fw =
    same_bits (get_or pday i (pos 0)) _ fc fw
    ∙ rw (to_z-of_z fb) at (ap (same_day (get_or pday i (pos 0))) w)
    ∙ rw (in_place (pos 0) pday i h, in_place 0 pkind i h, in_place (pos 0) day i h)

pub ruleset scans = (each_begun, each_turned, each_ended, blank_begun, agree_here)
