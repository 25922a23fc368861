-- A read that is carried out is Figure 1's r_p(x): it returns the copy, or blocks, by the same test.
--   waits_if, waits_only_if        01's test of a read that waits is Figure 1's
-- Assumes nothing.
use Prim.Native.Nat.{ℕ, ◌+◌, ◌-◌}
use mathlib.Core.Path.{◌≡◌, refl, sym, ap, ◌∙◌, subst}
use mathlib.Core.Bool.{Bool, true, false, cond, false≢true}
use mathlib.Core.List.{List, []}
use mathlib.Core.Option.{none, some, some-ne-none}
use native.Mathlib.Omega.{arith}
use lib.Dec.{eqb}
use borrow.Author.Tests.{ne_eqb}
use Rattle.answer.specs.Answer.{Rule}
use Rattle.answer.specs.Promises.{Silent}
use Rattle.content.specs.declared.Content.{Content}
use Rattle.cells.specs.Cells.{content_at, blank, filled, anywhere}
use Rattle.numbers.proofs.Tests.{tested}
use Rattle.sound.specs.Head.{turn_desk, read_waits}
use Rattle.desk.specs.declared.Desk.{Desk}
use Rattle.desk.specs.Answers.{Value, holds, waits}
use Rattle.desk.specs.Calls.{read_rules, must_wait, waiting_desk, read_of}
use Rattle.desk.specs.Values.{DeskFits}
use Rattle.desk.proofs.Laws.Allowed.{read_allows}
use Rattle.keeping.proofs.Laws.Read.{read_sound, read_fits}
use Rattle.figure.specs.Figure1.{Model, sequential, causal, cache, ∅, Waits, Event, reads, blocks, read, block}
use Rattle.figure.specs.Map.{model_of, process_of}
use Rattle.figure.specs.Demand2.{ByRules, StepOf, Rest, rest_at, SoundWith, ReadShows, returns, begins_to_wait, ReadStep}
use Rattle.figure.proofs.Laws.ByRules.{by_call, sound_next}
use Rattle.figure.proofs.Laws.Maps.{no_updates, some_updates, same_process}

-- ---- models

number : Model → ℕ
number sequential = 1
number causal = 2
number cache = 3

pub model_is_sequential : (d : Desk) → model_of d.head.mode ≡ sequential → eqb d.head.mode 1 ≡ true
unfolding number
model_is_sequential d e = by_tests (eqb d.head.mode 1) (eqb d.head.mode 2) refl refl
  where
    by_tests : (t u : Bool) → eqb d.head.mode 1 ≡ t → eqb d.head.mode 2 ≡ u → eqb d.head.mode 1 ≡ true
    by_tests true u p q = p
    by_tests false true p q = let z : ◌≡◌ {A = ℕ} 2 1 = sym (rw (p, q)) ∙ ap number e in absurd (omega (arith, z))
    by_tests false false p q = let z : ◌≡◌ {A = ℕ} 3 1 = sym (rw (p, q)) ∙ ap number e in absurd (omega (arith, z))

pub model_is_causal : (d : Desk) → model_of d.head.mode ≡ causal → eqb d.head.mode 2 ≡ true
unfolding number
model_is_causal d e = by_tests (eqb d.head.mode 1) (eqb d.head.mode 2) refl refl
  where
    by_tests : (t u : Bool) → eqb d.head.mode 1 ≡ t → eqb d.head.mode 2 ≡ u → eqb d.head.mode 2 ≡ true
    by_tests t true p q = q
    by_tests true false p q = let z : ◌≡◌ {A = ℕ} 1 2 = sym (rw p) ∙ ap number e in absurd (omega (arith, z))
    by_tests false false p q = let z : ◌≡◌ {A = ℕ} 3 2 = sym (rw (p, q)) ∙ ap number e in absurd (omega (arith, z))

-- ---- the test

module _ (d : Desk) (tray : List ℕ) (x : ℕ) where
  pub waits_only_if : must_wait d x ≡ true → Waits d.head.n d.head.own (model_of d.head.mode) (process_of d tray) x
  unfolding must_wait
  waits_only_if e =
      let one : eqb d.head.mode 1 ≡ true = search tested in
      let none_here : blank d.pkind x ≡ true = search tested in
      record {
        is_sequential = rw one;
        some_updates = some_updates d.pkind d.pday (search tested);
        none_of_x = rw none_here;
        elsewhere = search tested;
      }

  some_is : ((process_of d tray).updates ≡ ∅ → ⊥) → anywhere 64 (filled d.pkind) ≡ true
  some_is h = by_test (anywhere 64 (filled d.pkind)) refl
    where
      by_test : (t : Bool) → anywhere 64 (filled d.pkind) ≡ t → anywhere 64 (filled d.pkind) ≡ true
      by_test true p = p
      by_test false p = absurd (h (no_updates d.pkind d.pday p))

  blank_is : (process_of d tray).updates x ≡ none → blank d.pkind x ≡ true
  blank_is e = by_test (blank d.pkind x) refl
    where
      by_test : (t : Bool) → blank d.pkind x ≡ t → blank d.pkind x ≡ true
      by_test true p = p
      by_test false p = absurd (some-ne-none (content_at d.pkind d.pday x) (sym (rw p) ∙ e))

  pub waits_if : Waits d.head.n d.head.own (model_of d.head.mode) (process_of d tray) x → must_wait d x ≡ true
  unfolding must_wait
  waits_if w =
      rw (model_is_sequential d w.is_sequential, some_is w.some_updates, blank_is w.none_of_x, ne_eqb (turn_desk d.head) d.head.own w.elsewhere)

-- ---- the steps

not_blocked : (d : Desk) (tray : List ℕ) → read_waits d.head ≡ false → (process_of d tray).blocked ≡ none
not_blocked d tray e = rw e

blocked_at : (d : Desk) (tray : List ℕ) (cell : ℕ) → some cell ≡ (process_of (waiting_desk d cell) tray).blocked
blocked_at d tray cell = let other : cell + 1 ≡ 0 → ⊥ = λ z. omega (arith, z) in let back : cell + 1 - 1 ≡ cell = omega arith in rw (ne_eqb (cell + 1) 0 other, back)

module _ (d : Desk) (cell : ℕ) (fits : DeskFits d) where
  abbrev rules : List Rule
  rules = read_rules d cell

  abbrev shown : Content
  shown = content_at d.kind d.day cell

  abbrev value : Value
  value = cond (must_wait d cell) waits (holds shown)

  abbrev event : Event Content
  event = cond (must_wait d cell) (blocks cell) (reads cell shown)

  abbrev after : Desk
  after = cond (must_wait d cell) (waiting_desk d cell) d

  shows : ReadShows cell event value
  shows = by_test (must_wait d cell) refl
    where
      by_test : (t : Bool) → must_wait d cell ≡ t → ReadShows cell event value
      by_test true p = rw p begins_to_wait
      by_test false p = rw p (returns shown)

  read_step : Silent rules → (tray : List ℕ) → StepOf d (process_of d tray) event (process_of after tray)
  read_step silent tray = by_test (must_wait d cell) refl
    where
      quiet : (process_of d tray).blocked ≡ none
      quiet = not_blocked d tray (read_allows d cell silent).none_waits

      by_test : (t : Bool) → must_wait d cell ≡ t → StepOf d (process_of d tray) event (process_of after tray)
      by_test true p =
          rw p
          (subst (StepOf d (process_of d tray) (blocks cell)) (same_process refl refl refl (blocked_at d tray cell) refl)
          (block (process_of d tray) cell quiet (waits_only_if d tray cell p)))
      by_test false p = rw p (read (process_of d tray) cell quiet (λ w. false≢true (sym p ∙ waits_if d tray cell w)))

  -- a read that waits changes the waiting read alone, and any other nothing: the rest stays
  rest_stays : rest_at after after.head.turn ≡ rest_at d d.head.turn
  rest_stays = by_test (must_wait d cell) refl
    where
      by_test : (t : Bool) → must_wait d cell ≡ t → rest_at after after.head.turn ≡ rest_at d d.head.turn
      by_test true p = rw p
      by_test false p = rw p

  pub read_by_rules : ByRules rules d [] (ReadStep d cell) (read_of d cell)
  unfolding read_of
  read_by_rules =
      by_call rules d [] value after [] (ReadStep d cell)
      (λ silent.
      record {
        value = value;
        answer = refl;
        event = event;
        shows = shows;
        step = read_step silent;
        next = subst (λ (r : Rest). SoundWith r after) rest_stays
            (sound_next rules d after silent (read_sound d cell fits (read_allows d cell silent).is_sound) (read_fits d cell fits));
        none_lent = refl;
      })
