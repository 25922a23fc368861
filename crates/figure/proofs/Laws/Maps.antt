-- Laws of the map from a desk to a process (specs/Map.antt): what a put in the arrays is to the copies and to the updates.
--   copy_put, updates_put          a content put in a place is assigned, and included
--   no_updates, some_updates       updates are ∅ exactly if no place is filled
--   same_process                   two processes with the same parts are the same
-- Assumes nothing.
use Prim.Native.Nat.{ℕ, ◌<◌, ◌≤◌}
use mathlib.Core.Path.{◌≡◌, refl, sym, ap, ◌∙◌, fun_ext}
use mathlib.Core.Bool.{Bool, true, false, cond, false≢true}
use mathlib.Core.List.{List}
use mathlib.Core.Option.{Option, none, some-ne-none}
use lib.Dec.{eqb, ltb}
use lib.IntN.{ℤ, pos}
use lib.ListN.{length}
use borrow.Author.Tests.{eqb-true, eqb-false, ne_eqb, ltb-true, ltb-false}
use Rattle.content.specs.declared.Content.{Content}
use Rattle.content.specs.Content.{content_of}
use Rattle.cells.specs.Cells.{content_at, filled, put_if, anywhere}
use Rattle.cells.proofs.Laws.{place_put, place_kept, some_at, some_if, no_place}
use Rattle.figure.specs.Figure1.{Updates, ∅, remove, include, assign, Process}
use Rattle.figure.specs.Map.{updates_of}

-- ---- a content put in a place

module _ (kind : List ℕ) (day : List ℤ) (kinds : length kind ≡ 64) (days : length day ≡ 64) (i : ℕ) (h : i < 64) where
  content_there : (k : ℕ) (d : ℤ) → content_at (put_if true kind i k) (put_if true day i d) i ≡ content_of k d
  content_there k d = rw (place_put 0 kind i k kinds h, place_put (pos 0) day i d days h)

  content_elsewhere : (k : ℕ) (d : ℤ) (x : ℕ) → (x ≡ i → ⊥) → content_at (put_if true kind i k) (put_if true day i d) x ≡ content_at kind day x
  content_elsewhere k d x other = rw (place_kept 0 kind i k true x other, place_kept (pos 0) day i d true x other)

  pub copy_put : (k : ℕ) (d : ℤ) → content_at (put_if true kind i k) (put_if true day i d) ≡ assign i (content_of k d) (content_at kind day)
  copy_put k d = fun_ext (λ x. by_test x (eqb x i) refl)
    where
      by_test : (x : ℕ) (t : Bool) → eqb x i ≡ t → content_at (put_if true kind i k) (put_if true day i d) x ≡ cond (eqb x i) (content_of k d) (content_at kind day x)
      by_test x true p = rw (p, eqb-true x i p) (content_there k d)
      by_test x false p = rw p (content_elsewhere k d x (eqb-false x i p))

  -- what is not blank is included
  pub updates_put : (k : ℕ) (d : ℤ) → (k ≡ 0 → ⊥)
      → updates_of (put_if true kind i k) (put_if true day i d) ≡ include i (content_of k d) (remove i (updates_of kind day))
  updates_put k d shown = fun_ext (λ x. by_test x (eqb x i) refl)
    where
      by_test : (x : ℕ) (t : Bool) → eqb x i ≡ t
          → updates_of (put_if true kind i k) (put_if true day i d) x ≡ include i (content_of k d) (remove i (updates_of kind day)) x
      by_test x true p = rw (p, eqb-true x i p, place_put 0 kind i k kinds h, place_put (pos 0) day i d days h, ne_eqb k 0 shown)
      by_test x false p = rw (p, place_kept 0 kind i k true x (eqb-false x i p), place_kept (pos 0) day i d true x (eqb-false x i p))

-- ---- no updates, and some

module _ (kind : List ℕ) (day : List ℤ) where
  -- a place past the 64 is blank
  past_is_blank : (x : ℕ) → 64 ≤ x → filled kind x ≡ false
  past_is_blank x h = rw (← no_place 0 kind x h)

  pub no_updates : anywhere 64 (filled kind) ≡ false → updates_of kind day ≡ ∅
  no_updates e = fun_ext (λ x. by_test x (filled kind x) refl (ltb x 64) refl)
    where
      by_test : (x : ℕ) (t : Bool) → filled kind x ≡ t → (b : Bool) → ltb x 64 ≡ b → updates_of kind day x ≡ none
      by_test x false p b q = rw p
      by_test x true p true q = absurd (false≢true (sym e ∙ some_if 64 (filled kind) x (ltb-true x 64 q) p))
      by_test x true p false q = absurd (false≢true (sym (past_is_blank x (ltb-false x 64 q)) ∙ p))

  pub some_updates : anywhere 64 (filled kind) ≡ true → updates_of kind day ≡ ∅ → ⊥
  some_updates e none_at_all =
      let there = some_at 64 (filled kind) e in
      let x = there.place in
      some-ne-none (content_at kind day x) (sym (rw there.holds) ∙ ap (λ (u : Updates Content). u x) none_at_all)

-- ---- processes

pub same_process : {A : Type 0} {c c' : ℕ → A} {u u' : Updates A} {t t' : ℕ} {b b' : Option ℕ} {r r' : ℕ → Option (Updates A)}
    → c ≡ c' → u ≡ u' → t ≡ t' → b ≡ b' → r ≡ r'
    → ◌≡◌ {A = Process A} (record { copy = c; updates = u; turn = t; blocked = b; buffer = r }) (record { copy = c'; updates = u'; turn = t'; blocked = b'; buffer = r' })
same_process c u t b r = λ i. record { copy = c i; updates = u i; turn = t i; blocked = b i; buffer = r i }
