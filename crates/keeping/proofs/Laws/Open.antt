-- An open that is carried out gives a sound record: its numbers are within limits, and every place is blank. Every open's record fits.
--   open_sound, open_fits
-- Assumes nothing.
use Prim.Native.Nat.{ℕ, ◌≤◌}
use mathlib.Core.Path.{◌≡◌, refl, ap, ◌∙◌}
use mathlib.Core.Bool.{Bool, true, false, cond}
use native.Mathlib.Omega.{arith}
use lib.Dec.{eqb}
use lib.IntN.{pos}
use lib.ListN.{replicate, length-replicate}
use mir.Syntax.{w32}
use mir.Val.{SFits}
use borrow.Author.Tests.{eqb-false}
use Rattle.answer.specs.Answer.{answered}
use Rattle.answer.specs.Promises.{Silent}
use Rattle.answer.proofs.Laws.{answered_only_if, changed_if}
use Rattle.cells.specs.Cells.{kind_at, day_at}
use Rattle.sound.specs.declared.Head.{Head}
use Rattle.desk.specs.Answers.{opened}
use Rattle.desk.specs.Calls.{sound, open_rules, mode_for, blank_desk, fresh_head, open_of}
use Rattle.desk.specs.Values.{DeskFits}
use Rattle.desk.proofs.Laws.Allowed.{open_allows}
use Rattle.keeping.proofs.Laws.Rules.{kept}
use Rattle.keeping.proofs.Laws.Places.{FairPlace, sound_by_places, blank_place}

-- ---- every place is blank

no_content : (m mode i : ℕ) → FairPlace m mode i 0 (pos 0) 0 (pos 0)
no_content m mode i =
    record {
      kind_is = omega arith;
      pkind_is = omega arith;
      day_fits_lem = refl;
      pday_fits = refl;
      blank_past = λ l. (refl, refl);
      pending_shown = λ f e. f refl;
      agree = λ o f. (refl, refl);
    }

blank_everywhere : (m mode i : ℕ)
    → FairPlace m mode i (kind_at (replicate 64 0) i) (day_at (replicate 64 (pos 0)) i) (kind_at (replicate 64 0) i) (day_at (replicate 64 (pos 0)) i)
blank_everywhere m mode i = rw (blank_place {A = ℕ} 0 i, blank_place (pos 0) i) (no_content m mode i)

-- ---- the mode in force

mode_in_force : (mode : ℕ) → mode ≤ 3 → (1 ≤ mode_for mode) × (mode_for mode ≤ 3)
mode_in_force mode most = by_test (eqb mode 0) refl
  where
    by_test : (t : Bool) → eqb mode 0 ≡ t → (1 ≤ cond t 2 mode) × (cond t 2 mode ≤ 3)
    by_test true e = (omega arith, omega arith)
    by_test false e = let other = eqb-false mode 0 e in (omega arith, most)

-- ---- the record

pub open_sound : (n m own mode : ℕ) → (open_of n m own mode).answer ≡ answered opened → sound (open_of n m own mode).desk ≡ true
unfolding open_of
open_sound n m own mode e =
    let rules = open_rules n m own mode in
    let silent : Silent rules = (answered_only_if rules opened opened e).0 in
    let allowed = open_allows n m own mode silent in
    let modes = mode_in_force mode allowed.mode_most in
    let h = fresh_head n m own (mode_for mode) in
    ap sound (changed_if rules (blank_desk (fresh_head 0 0 0 0)) (blank_desk h) silent)
    ∙ sound_by_places h (replicate 64 0) (replicate 64 (pos 0)) (replicate 64 0) (replicate 64 (pos 0))
    (record {
      desks_least = allowed.desks_least;
      desks_most = allowed.desks_most;
      cells_least = allowed.cells_least;
      cells_most = allowed.cells_most;
      own_below = allowed.own_below;
      mode_least = modes.0;
      mode_most = modes.1;
    })
    (λ i b. blank_everywhere m (mode_for mode) i)
    (λ w. absurd (w refl))

pub blank_fits : (h : Head) → h.turn ≤ 4294967295 → DeskFits (blank_desk h)
blank_fits h low =
    let none : (i : ℕ) → SFits w32 (day_at (replicate 64 (pos 0)) i) = λ i. rw (blank_place (pos 0) i) (record { sfits = omega arith }) in
    record {
      kinds = length-replicate {A = ℕ} 64 0;
      days = length-replicate 64 (pos 0);
      pkinds = length-replicate {A = ℕ} 64 0;
      pdays = length-replicate 64 (pos 0);
      day = none;
      pday = none;
      turn = low;
    }

pub open_fits : (n m own mode : ℕ) → DeskFits (open_of n m own mode).desk
unfolding open_of
open_fits n m own mode =
    kept DeskFits (open_rules n m own mode) (blank_desk (fresh_head 0 0 0 0)) (blank_desk (fresh_head n m own (mode_for mode)))
    (blank_fits (fresh_head 0 0 0 0) (omega arith))
    (λ silent. blank_fits (fresh_head n m own (mode_for mode)) (omega arith))
