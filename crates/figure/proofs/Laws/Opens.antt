-- An open that is carried out is Figure 1's initialization.
-- Assumes nothing.
use Prim.Native.Nat.{ℕ, ◌+◌}
use mathlib.Core.Path.{◌≡◌, refl, sym, ◌∙◌, fun_ext}
use mathlib.Core.Bool.{Bool, true, false}
use mathlib.Core.List.{[]}
use mathlib.Core.Option.{none}
use native.Mathlib.Nat.{zero-mod}
use native.Mathlib.Omega.{arith}
use lib.Dec.{ltb}
use lib.ListN.{replicate, get_or-replicate}
use borrow.Author.Tests.{ltb-true, ltb-false, lt-leb}
use Rattle.answer.proofs.Laws.{answered_if}
use Rattle.cells.specs.Cells.{place_at}
use Rattle.cells.proofs.Laws.{in_place, no_place}
use Rattle.tray.specs.Tray.{place_start, holds_good}
use Rattle.desk.specs.Answers.{opened}
use Rattle.desk.specs.Calls.{open_rules, zero_desk, blank_desk, fresh_head, mode_for, open_of}
use Rattle.keeping.proofs.Laws.Open.{open_sound, open_fits}
use Rattle.figure.specs.Figure1.{initial}
use Rattle.figure.specs.Map.{never_written, process_of, received}
use Rattle.figure.specs.Demand2.{ByRules, Initialization}
use Rattle.figure.proofs.Laws.ByRules.{by_call, sound_next}
use Rattle.figure.proofs.Laws.Maps.{same_process}

-- every place of 64 that are alike is the same
pub alike : {A : Type 0} (a : A) (i : ℕ) → place_at a (replicate 64 a) i ≡ a
alike a i = by_test (ltb i 64) refl
  where
    by_test : (t : Bool) → ltb i 64 ≡ t → place_at a (replicate 64 a) i ≡ a
    by_test true p = sym (in_place a (replicate 64 a) i (ltb-true i 64 p)) ∙ get_or-replicate 64 i a a (ltb-true i 64 p)
    by_test false p = sym (no_place a (replicate 64 a) i (ltb-false i 64 p))

-- with nothing in its tray
pub nothing_received : received [] ≡ (λ q. none)
unfolding holds_good
nothing_received = fun_ext (λ q. rw (lt-leb (place_start q + 398) 0 (omega arith)))

fresh_process : (n m own mode : ℕ) → process_of (blank_desk (fresh_head n m own mode)) [] ≡ initial never_written
fresh_process n m own mode =
    same_process (fun_ext (λ x. rw (alike {A = ℕ} 0 x))) (fun_ext (λ x. rw (alike {A = ℕ} 0 x))) (zero-mod n) refl nothing_received

pub open_by_rules : (n m own mode : ℕ) → ByRules (open_rules n m own mode) zero_desk [] (Initialization n m own mode) (open_of n m own mode)
unfolding open_of
open_by_rules n m own mode =
    let rules = open_rules n m own mode in
    let fresh = blank_desk (fresh_head n m own (mode_for mode)) in
    by_call rules zero_desk [] opened fresh [] (Initialization n m own mode)
    (λ silent.
    record {
      answer = refl;
      process = fresh_process n m own (mode_for mode);
      next = sound_next rules zero_desk fresh silent (open_sound n m own mode (answered_if rules opened silent)) (open_fits n m own mode);
      none_lent = refl;
    })
