-- The tests that the code makes (specs/Parts.antt) come to the definition's clauses (specs/Sound.antt).
--   no_read, a_read                        the waiting read: none, and one
--   causal_days, agreeing_days             the days of pending places, in causal mode and in the others
--   place_in_causal, place_in_others       one place: its tests in the code, and its clauses
--   not_sound, sound_by_parts              the whole: out of limits, and by parts
--   answers                                for `search`: each return of the code is one of these laws
-- Assumes nothing.
use Prim.Native.Nat.{ℕ, zero, suc, ◌-◌}
use mathlib.Core.Path.{◌≡◌, refl, sym, ap, ◌∙◌}
use mathlib.Core.Bool.{Bool, true, false, not, ◌&&◌, ◌||◌, and-true, and-false, and_assoc, and_comm, and_self}
use mathlib.Core.List.{List}
use lib.Dec.{eqb, ltb, eqb-suc-zero}
use lib.IntN.{ℤ, pos}
use borrow.Author.Tests.{eqb-true, eq-eqb, ne_eqb}
use Rattle.cells.specs.Cells.{kind_at, day_at, filled, each, anywhere}
use Rattle.cells.proofs.Laws.{each_same, each_both}
use Rattle.sound.specs.declared.Head.{Head}
use Rattle.sound.specs.Head.{own_turn, read_waits}
use Rattle.sound.specs.Sound.{same_day, is_kind, day_fits, limits, wait_sound, ◌implies◌, sound_of}
use Rattle.sound.specs.Parts.{blank_from, kinds_fit, wanted_day, pending_days}
use Rattle.sound.proofs.Laws.Days.{same_day_lem}

-- ---- the waiting read

module _ (h : Head) (pkind : List ℕ) where
  pub no_read : h.wait ≡ 0 → true ≡ (read_waits h implies wait_sound h pkind)
  no_read e = rw (eq-eqb h.wait 0 e)

  pub a_read : {kind : ℕ} {any own : Bool} → kind ≡ kind_at pkind (h.wait - 1) → any ≡ anywhere 64 (filled pkind) → own ≡ own_turn h → (h.wait ≡ 0 → ⊥)
      → (((eqb h.mode 1 && (ltb (h.wait - 1) h.m && eqb kind 0)) && any) && not own) ≡ (read_waits h implies wait_sound h pkind)
  a_read k s o w = rw (k, s, o, ne_eqb h.wait 0 w)

-- ---- the days of pending places

module _ (day : List ℤ) (pkind : List ℕ) (pday : List ℤ) {t c : Bool} where
  pub causal_days : t ≡ each 64 (λ i. day_fits (kind_at pkind i) (day_at pday i)) → c ≡ true → t ≡ pending_days c day pkind pday
  unfolding pending_days
  causal_days e p = rw p e

  pub agreeing_days : t ≡ each 64 (λ i. same_day (day_at pday i) (wanted_day (kind_at pkind i) (day_at day i))) → c ≡ false → t ≡ pending_days c day pkind pday
  unfolding pending_days
  agreeing_days e p = rw p e

-- ---- one place: its kind k and day d on the shelf, its kind p and day q as a pending entry

abbrev kinds_clause : ℕ → ℕ → Bool
kinds_clause k p = is_kind k && is_kind p

abbrev days_clause : ℕ → ℤ → ℕ → ℤ → Bool
days_clause k d p q = day_fits k d && day_fits p q

abbrev shown_clause : ℕ → ℕ → Bool
shown_clause k p = not (eqb p 0) implies not (eqb k 0)

abbrev agree_clause : ℕ → ℤ → ℕ → ℤ → Bool
agree_clause k d p q = not (eqb p 0) implies (eqb p k && same_day q d)

place_in_causal : (k p : ℕ) → kinds_fit true k p ≡ kinds_clause k p && shown_clause k p
place_in_causal k p = by_tests (eqb p 0) (eqb k 0)
  where
    by_tests : (s t : Bool) → kinds_clause k p && (s || (not t && true)) ≡ kinds_clause k p && (not (not s) || not t)
    by_tests true t = refl
    by_tests false t = rw (and-true (not t))

-- a pending day that is the shelf's fits where the shelf's does
same_fits : (is_day : Bool) (d q : ℤ) (t : Bool) → same_day q d ≡ t
    → (is_day || same_day d (pos 0)) && t ≡ (is_day || same_day d (pos 0)) && (is_day || same_day q (pos 0)) && t
same_fits is_day d q true e = rw (same_day_lem q d e, and_self (is_day || same_day d (pos 0)))
same_fits is_day d q false e = rw (and-false (is_day || same_day d (pos 0)), and-false ((is_day || same_day d (pos 0)) && (is_day || same_day q (pos 0))))

place_in_others : (k p : ℕ) (d q : ℤ)
    → kinds_fit false k p && (day_fits k d && same_day q (wanted_day p d)) ≡ kinds_clause k p && days_clause k d p q && shown_clause k p && agree_clause k d p q
place_in_others k zero d q = no_entry (kinds_clause k 0) (days_clause k d 0 q)
  where
    no_entry : (a b : Bool) → a && true && b ≡ a && b && true && true
    no_entry a b = rw (and-true a, and-true (a && b), and-true (a && b))
place_in_others k (suc p) d q = rw (eqb-suc-zero p) (by_kind (eqb (suc p) k) refl)
  where
    same : (a x y t : Bool) → x && t ≡ y && t → a && true && (x && t) ≡ a && y && true && t
    same true x y t e = rw (and-true y) e
    same false x y t e = refl

    other : (a b x t : Bool) → a && (t && false) && b ≡ a && x && t && false
    other a b x t = rw (and-false t, and-false a, and-false (a && x && t))

    by_kind : (t : Bool) → eqb (suc p) k ≡ t
        → kinds_clause k (suc p) && (not (eqb k 0) && t) && (day_fits k d && same_day q d)
        ≡ kinds_clause k (suc p) && days_clause k d (suc p) q && not (eqb k 0) && (t && same_day q d)
    by_kind true e =
        rw (sym (eqb-true (suc p) k e), eqb-suc-zero p)
        (same (kinds_clause (suc p) (suc p)) (day_fits (suc p) d) (days_clause (suc p) d (suc p) q) (same_day q d) (same_fits (eqb (suc p) 2) d q (same_day q d) refl))
    by_kind false e = other (kinds_clause k (suc p)) (day_fits k d && same_day q d) (days_clause k d (suc p) q) (not (eqb k 0))

-- ---- the whole

-- the tests in the code's order, and in the definition's
in_order : (blanks k d q wait clauses shown agree : Bool) → k && (d && q) ≡ clauses && shown && agree
    → (((blanks && k) && d) && q) && wait ≡ clauses && blanks && shown && agree && wait
in_order true k d q wait clauses shown agree e = rw (and-true clauses) (ap (λ (t : Bool). t && wait) (and_assoc k d q ∙ e))
in_order false k d q wait clauses shown agree e = rw (and-false clauses)

module _ (h : Head) (kind : List ℕ) (day : List ℤ) (pkind : List ℕ) (pday : List ℤ) where
  -- the code's tests of place i ..
  abbrev kinds_in : Bool → ℕ → Bool
  kinds_in c i = kinds_fit c (kind_at kind i) (kind_at pkind i)

  abbrev shelf_day : ℕ → Bool
  shelf_day i = day_fits (kind_at kind i) (day_at day i)

  abbrev pending_day : ℕ → Bool
  pending_day i = day_fits (kind_at pkind i) (day_at pday i)

  abbrev agreeing_day : ℕ → Bool
  agreeing_day i = same_day (day_at pday i) (wanted_day (kind_at pkind i) (day_at day i))

  -- .. and the definition's
  abbrev kinds : ℕ → Bool
  kinds i = kinds_clause (kind_at kind i) (kind_at pkind i)

  abbrev days : ℕ → Bool
  days i = days_clause (kind_at kind i) (day_at day i) (kind_at pkind i) (day_at pday i)

  abbrev shown : ℕ → Bool
  shown i = shown_clause (kind_at kind i) (kind_at pkind i)

  abbrev agree : ℕ → Bool
  agree i = agree_clause (kind_at kind i) (day_at day i) (kind_at pkind i) (day_at pday i)

  in_causal : each 64 (kinds_in true) && (each 64 shelf_day && each 64 pending_day) ≡ each 64 kinds && each 64 days && each 64 shown && true
  in_causal =
      rw (each_same 64 (kinds_in true) (λ i. kinds i && shown i) (λ i h. place_in_causal (kind_at kind i) (kind_at pkind i)))
      (rw (← (each_both 64 kinds shown), each_both 64 shelf_day pending_day) (days_first (each 64 kinds) (each 64 shown) (each 64 days)))
    where
      days_first : (a b c : Bool) → a && b && c ≡ a && c && b && true
      days_first true b c = rw (and-true (c && b)) (and_comm b c)
      days_first false b c = refl

  in_others : each 64 (kinds_in false) && (each 64 shelf_day && each 64 agreeing_day) ≡ each 64 kinds && each 64 days && each 64 shown && each 64 agree
  in_others =
      rw (each_both 64 shelf_day agreeing_day, each_both 64 (kinds_in false) (λ i. shelf_day i && agreeing_day i))
      (each_same 64 (λ i. kinds_in false i && (shelf_day i && agreeing_day i)) (λ i. kinds i && days i && shown i && agree i)
      (λ i h. place_in_others (kind_at kind i) (kind_at pkind i) (day_at day i) (day_at pday i))
      ∙ rw (each_both 64 kinds days, each_both 64 (λ i. kinds i && days i) shown, each_both 64 (λ i. kinds i && days i && shown i) agree))

  pub not_sound : {l : Bool} → l ≡ limits h → l ≡ false → false ≡ sound_of h kind day pkind pday
  unfolding sound_of
  not_sound e p = rw (sym e ∙ p)

  pub sound_by_parts : {l blanks ks ds ps wait : Bool} → l ≡ limits h → l ≡ true
      → blanks ≡ each 64 (blank_from h.m kind pkind)
      → ks ≡ each 64 (λ i. kinds_fit (eqb h.mode 2) (kind_at kind i) (kind_at pkind i))
      → ds ≡ each 64 (λ i. day_fits (kind_at kind i) (day_at day i))
      → ps ≡ pending_days (eqb h.mode 2) day pkind pday
      → wait ≡ (read_waits h implies wait_sound h pkind)
      → ((((blanks && ks) && ds) && ps) && wait) ≡ sound_of h kind day pkind pday
  unfolding sound_of pending_days
  sound_by_parts {l = l} {blanks = blanks} {wait = wait} e p b k d q w = rw (← b, k, d, q, ← w, sym e ∙ p) (by_mode (eqb h.mode 2))
    where
      by_mode : (c : Bool)
          → (((blanks && each 64 (kinds_in c)) && each 64 shelf_day) && pending_days c day pkind pday) && wait
          ≡ each 64 kinds && each 64 days && blanks && each 64 shown && (not c implies each 64 agree) && wait
      by_mode true = in_order blanks (each 64 (kinds_in true)) (each 64 shelf_day) (each 64 pending_day) wait (each 64 kinds && each 64 days) (each 64 shown) true in_causal
      by_mode false = in_order blanks (each 64 (kinds_in false)) (each 64 shelf_day) (each 64 agreeing_day) wait (each 64 kinds && each 64 days) (each 64 shown) (each 64 agree) in_others

pub ruleset answers = (no_read, a_read, causal_days, agreeing_days, not_sound, sound_by_parts)
