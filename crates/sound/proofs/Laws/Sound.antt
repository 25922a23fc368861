-- `sound_of` (specs/Sound.antt) as facts: a record of its clauses, in 01's order, which says as much as the test does.
--   Sound, Waiting                 the clauses, and those on a waiting read
--   sound_says, sound_if           a record that passes the test has them, and one that has them passes it
-- Assumes nothing.
use Prim.Native.Nat.{ℕ, ◌-◌, ◌%◌, ◌≤◌, ◌<◌}
use mathlib.Core.Path.{◌≡◌, refl, ap}
use mathlib.Core.Bool.{Bool, true, false, not, ◌&&◌, false≢true}
use mathlib.Core.List.{List}
use lib.Dec.{eqb, leb}
use lib.IntN.{ℤ}
use borrow.Author.Tests.{leb-true, eqb-false, le-leb, lt-ltb, eq-eqb, ne_eqb, not-true}
use Rattle.numbers.proofs.Tests.{tested}
use Rattle.cells.specs.Cells.{kind_at, day_at, filled, each, anywhere}
use Rattle.cells.proofs.Laws.{each_at, each_if}
use Rattle.sound.specs.declared.Head.{Head}
use Rattle.sound.specs.Head.{causal, read_waits}
use Rattle.sound.specs.Sound.{day_fits, ◌implies◌, sound_of}
use Rattle.sound.proofs.Laws.Days.{same_day_lem, same_day_if}

-- a waiting read "has mode 1, a cell below m that is not pending, something pending, and the turn elsewhere"
pub record Waiting (h : Head) (pkind : List ℕ) : Type 0 where
  pub mode_is : h.mode ≡ 1
  pub cell_below : h.wait - 1 < h.m
  pub cell_blank : kind_at pkind (h.wait - 1) ≡ 0
  pub something : anywhere 64 (filled pkind) ≡ true
  pub elsewhere : h.turn % h.n ≡ h.own → ⊥

pub record Sound (h : Head) (kind : List ℕ) (day : List ℤ) (pkind : List ℕ) (pday : List ℤ) : Type 0 where
  -- "n and m are within limits, own number below n, mode 1 to 3"
  pub desks_least : 1 ≤ h.n
  pub desks_most : h.n ≤ 16
  pub cells_least : 1 ≤ h.m
  pub cells_most : h.m ≤ 64
  pub own_below : h.own < h.n
  pub mode_least : 1 ≤ h.mode
  pub mode_most : h.mode ≤ 3
  -- every kind stands for a content; "day numbers are 0 unless the content is a day"
  pub kind_is : (i : ℕ) → i < 64 → kind_at kind i ≤ 2
  pub pkind_is : (i : ℕ) → i < 64 → kind_at pkind i ≤ 2
  pub day_fits_lem : (i : ℕ) → i < 64 → day_fits (kind_at kind i) (day_at day i) ≡ true
  pub pday_fits : (i : ℕ) → i < 64 → day_fits (kind_at pkind i) (day_at pday i) ≡ true
  -- "cells from m up are blank and not pending"
  pub blank_past : (i : ℕ) → i < 64 → h.m ≤ i → (kind_at kind i ≡ 0) × (kind_at pkind i ≡ 0)
  -- "a pending cell is not blank on the shelf"
  pub pending_shown : (i : ℕ) → i < 64 → (kind_at pkind i ≡ 0 → ⊥) → kind_at kind i ≡ 0 → ⊥
  -- "in modes 1 and 3 pending and shelf content agree"
  pub agree : (h.mode ≡ 2 → ⊥) → (i : ℕ) → i < 64 → (kind_at pkind i ≡ 0 → ⊥) → (kind_at pkind i ≡ kind_at kind i) × (day_at pday i ≡ day_at day i)
  pub waits : (h.wait ≡ 0 → ⊥) → Waiting h pkind

-- ---- tests and what they say

-- rules for `search`: a test of each place, at one; a test that is asked for where another holds, which it does
at_place : (i : ℕ) → i < 64 → (p : ℕ → Bool) → each 64 p ≡ true → p i ≡ true
at_place i b p e = each_at 64 p e i b

holds : {a : Bool} → a ≡ true → (b : Bool) → (a implies b) ≡ true → b ≡ true
holds {a = true} p b e = e
holds {a = false} p b e = absurd (false≢true p)

then_if : (a b : Bool) → (a ≡ true → b ≡ true) → (a implies b) ≡ true
then_if true b f = f refl
then_if false b f = refl

infixl 35 ◌and◌
◌and◌ : {a b : Bool} → a ≡ true → b ≡ true → a && b ≡ true
e and f = rw (e, f)

not_eqb : (a b : ℕ) → not (eqb a b) ≡ true → a ≡ b → ⊥
not_eqb a b e = eqb-false a b (not-true (eqb a b) e)

not_eqb_if : (a b : ℕ) → (a ≡ b → ⊥) → not (eqb a b) ≡ true
not_eqb_if a b f = ap not (ne_eqb a b f)

-- ---- the two ways

module _ {h : Head} {kind : List ℕ} {day : List ℤ} {pkind : List ℕ} {pday : List ℤ} where
  pub sound_says : sound_of h kind day pkind pday ≡ true → Sound h kind day pkind pday
  unfolding sound_of
  sound_says e =
      record {
        desks_least = search tested depth 12;
        desks_most = search tested depth 12;
        cells_least = search tested depth 12;
        cells_most = search tested depth 12;
        own_below = search tested depth 12;
        mode_least = search tested depth 12;
        mode_most = search tested depth 12;
        kind_is = λ i b. search (at_place i b, tested) depth 12;
        pkind_is = λ i b. search (at_place i b, tested) depth 12;
        day_fits_lem = λ i b. search (at_place i b, tested) depth 12;
        pday_fits = λ i b. search (at_place i b, tested) depth 12;
        blank_past = λ i b l. search (at_place i b, holds (le-leb h.m i l), tested) depth 12;
        pending_shown = λ i b f. search (at_place i b, holds (not_eqb_if (kind_at pkind i) 0 f), tested) depth 12;
        agree =
            λ m i b f. search (holds (not_eqb_if h.mode 2 m), at_place i b, holds (not_eqb_if (kind_at pkind i) 0 f), same_day_lem, tested) depth 12;
        waits = λ w. search (holds (not_eqb_if h.wait 0 w), tested) depth 12;
      }

  pub sound_if : Sound h kind day pkind pday → sound_of h kind day pkind pday ≡ true
  unfolding sound_of
  sound_if s =
      ((le-leb 1 h.n s.desks_least and le-leb h.n 16 s.desks_most) and (le-leb 1 h.m s.cells_least and le-leb h.m 64 s.cells_most)
      and lt-ltb h.own h.n s.own_below
      and (le-leb 1 h.mode s.mode_least and le-leb h.mode 3 s.mode_most))
      and each_if 64 _ (λ i b. le-leb (kind_at kind i) 2 (s.kind_is i b) and le-leb (kind_at pkind i) 2 (s.pkind_is i b))
      and each_if 64 _ (λ i b. s.day_fits_lem i b and s.pday_fits i b)
      and each_if 64 _ (λ i b. then_if (leb h.m i) _ (λ l. let z = s.blank_past i b (leb-true h.m i l) in eq-eqb (kind_at kind i) 0 z.0 and eq-eqb (kind_at pkind i) 0 z.1))
      and each_if 64 _ (λ i b. then_if (filled pkind i) _ (λ f. not_eqb_if (kind_at kind i) 0 (s.pending_shown i b (not_eqb (kind_at pkind i) 0 f))))
      and then_if (not (causal h)) _ (λ m. each_if 64 _ (λ i b. then_if (filled pkind i) _ (λ f.
      let z = s.agree (not_eqb h.mode 2 m) i b (not_eqb (kind_at pkind i) 0 f) in
      eq-eqb (kind_at pkind i) (kind_at kind i) z.0 and same_day_if (day_at pday i) (day_at day i) z.1)))
      and then_if (read_waits h) _ (λ w.
      let z = s.waits (not_eqb h.wait 0 w) in
      eq-eqb h.mode 1 z.mode_is
      and (lt-ltb (h.wait - 1) h.m z.cell_below and eq-eqb (kind_at pkind (h.wait - 1)) 0 z.cell_blank)
      and z.something
      and not_eqb_if (h.turn % h.n) h.own z.elsewhere)
