-- The entries of a good sheet, put on the shelf one by one, are Figure 1's loop over the set that they make, with both its counts.
--   absent            a cell below all of some rising entries is in none of them
--   entries_loop      the loop
-- Assumes nothing.
use Prim.Native.Nat.{ℕ, suc, ◌+◌, ◌<◌}
use mathlib.Core.Path.{◌≡◌, refl, sym, ◌∙◌, fun_ext, subst, subst₂}
use mathlib.Core.Bool.{Bool, true, false, cond, ◌||◌, false≢true}
use mathlib.Core.List.{List, [], ◌∷◌}
use mathlib.Core.Logic.{inl, inr}
use mathlib.Core.Option.{none, some, some-ne-none}
use native.Mathlib.Omega.{arith}
use lib.Dec.{eqb}
use lib.IntN.{ℤ}
use lib.ListN.{length}
use borrow.Author.Tests.{eqb-true, eq-eqb, ne_eqb, ltb-true, lt-ltb}
use Rattle.content.specs.declared.Content.{Content}
use Rattle.layout.specs.declared.Entry.{Entry}
use Rattle.layout.specs.Layout.{content_in}
use Rattle.sheet.specs.Good.{every, next_above, rising, below}
use Rattle.numbers.proofs.Tests.{and_split, or_right, tested}
use Rattle.cells.specs.Cells.{content_at, blank, put_if}
use Rattle.cells.proofs.Laws.{put_off, place_length}
use Rattle.sound.specs.Head as head
use Rattle.applying.specs.Applying.{goes, laid, kind_on, day_on, went_of}
use Rattle.desk.specs.declared.Desk.{Desk}
use Rattle.figure.specs.Figure1.{causal, Updates, remove, Assigned, Loop, ends, assigns, passes}
use Rattle.figure.specs.Map.{model_of, updates_of, updates_in}
use Rattle.figure.proofs.Laws.Maps.{copy_put}
use Rattle.figure.proofs.Laws.Reads.{model_is_causal}

one_more : (k : ℕ) → 1 + k ≡ suc k
one_more k = omega arith

none_more : (k : ℕ) → 0 + k ≡ k
none_more k = omega arith

-- ---- the set that entries make

pub absent : (c : ℕ) (es : List Entry) → next_above c es ≡ true → rising es ≡ true → updates_in es c ≡ none
absent c [] above rise = refl
absent c (e ∷ es) above rise =
    let low : c < e.cell = ltb-true c e.cell above in
    rw (ne_eqb c e.cell (λ z. omega arith)) (absent c es (lower es (search tested)) (search tested))
  where
    lower : (es : List Entry) → next_above e.cell es ≡ true → next_above c es ≡ true
    lower [] n = refl
    lower (f ∷ fs) n =
        let low : c < e.cell = ltb-true c e.cell above in
        let next : e.cell < f.cell = ltb-true e.cell f.cell n in
        lt-ltb c f.cell (omega arith)

extracted : (e : Entry) (es : List Entry) → next_above e.cell es ≡ true → rising es ≡ true → updates_in es ≡ remove e.cell (updates_in (e ∷ es))
extracted e es above rise = fun_ext (λ y. by_test y (eqb y e.cell) refl)
  where
    by_test : (y : ℕ) (t : Bool) → eqb y e.cell ≡ t → updates_in es y ≡ remove e.cell (updates_in (e ∷ es)) y
    by_test y true p = rw (p, eqb-true y e.cell p) (absent e.cell es above rise)
    by_test y false p = rw p

first_of : (e : Entry) (es : List Entry) → updates_in (e ∷ es) e.cell ≡ some (content_in e)
first_of e es = rw (eq-eqb e.cell e.cell refl)

-- ---- whether a pair is assigned

module _ (d : Desk) where
  own : Updates Content
  own = updates_of d.pkind d.pday

  causal_model : eqb d.head.mode 2 ≡ true → model_of d.head.mode ≡ causal
  causal_model e = let two : d.head.mode ≡ 2 = eqb-true d.head.mode 2 e in rw two

  assigned_if : (x : ℕ) (t : Bool) → eqb d.head.mode 2 ≡ t → t || blank d.pkind x ≡ true → Assigned (model_of d.head.mode) own x
  unfolding own
  assigned_if x true p q = inl (causal_model p)
  assigned_if x false p q = inr (rw q)

  assigned_only_if : (x : ℕ) → eqb d.head.mode 2 || blank d.pkind x ≡ false → Assigned (model_of d.head.mode) own x → ⊥
  unfolding own
  assigned_only_if x q (inl m) = false≢true (sym q ∙ rw (model_is_causal d m))
  assigned_only_if x q (inr e) = by_test (blank d.pkind x) refl
    where
      by_test : (t : Bool) → blank d.pkind x ≡ t → ⊥
      by_test true p = false≢true (sym (or_right (eqb d.head.mode 2) (blank d.pkind x) q) ∙ p)
      by_test false p = some-ne-none (content_at d.pkind d.pday x) (sym (rw p) ∙ e)

  -- ---- the loop

  pub entries_loop : (es : List Entry) (kind : List ℕ) (day : List ℤ) → length kind ≡ 64 → length day ≡ 64
      → rising es ≡ true → every (below 64) es ≡ true
      → Loop (model_of d.head.mode) (updates_of d.pkind d.pday) (updates_in es) (content_at kind day) (length es)
      (went_of (goes (head.causal d.head) d.pkind) es)
      (content_at (laid (goes (head.causal d.head) d.pkind) kind_on kind es) (laid (goes (head.causal d.head) d.pkind) day_on day es))
  unfolding own laid went_of
  entries_loop [] kind day kl dl rise low = ends refl
  entries_loop (e ∷ es) kind day kl dl rise low = by_test (entries_loop es) (goes (head.causal d.head) d.pkind e) refl
    where
      tests : (next_above e.cell es ≡ true) × (rising es ≡ true)
      tests = and_split (next_above e.cell es) (rising es) rise

      lows : (below 64 e ≡ true) × (every (below 64) es ≡ true)
      lows = and_split (below 64 e) (every (below 64) es) low

      g : Entry → Bool
      g = goes (head.causal d.head) d.pkind

      by_test : ((kind : List ℕ) (day : List ℤ) → length kind ≡ 64 → length day ≡ 64 → rising es ≡ true → every (below 64) es ≡ true
          → Loop (model_of d.head.mode) (updates_of d.pkind d.pday) (updates_in es) (content_at kind day) (length es)
          (went_of g es) (content_at (laid g kind_on kind es) (laid g day_on day es)))
          → (t : Bool) → g e ≡ t
          → Loop (model_of d.head.mode) (updates_of d.pkind d.pday) (updates_in (e ∷ es)) (content_at kind day) (length (e ∷ es))
          (cond (g e) 1 0 + went_of g es) (content_at (laid g kind_on (put_if (g e) kind e.cell (kind_on e)) es) (laid g day_on (put_if (g e) day e.cell (day_on e)) es))
      by_test rest true p =
          rw (p, one_more (went_of (goes (head.causal d.head) d.pkind) es))
          (assigns e.cell (content_in e) (first_of e es) (assigned_if e.cell (eqb d.head.mode 2) refl p)
          (subst₂ (λ (u : Updates Content) (c : ℕ → Content). Loop (model_of d.head.mode) (updates_of d.pkind d.pday) u c (length es) (went_of g es) (content_at (laid g kind_on (put_if true kind e.cell (kind_on e)) es) (laid g day_on (put_if true day e.cell (day_on e)) es)))
          (extracted e es tests.0 tests.1)
          (copy_put kind day kl dl e.cell (ltb-true e.cell 64 lows.0) (kind_on e) (day_on e))
          (rest (put_if true kind e.cell (kind_on e)) (put_if true day e.cell (day_on e)) (place_length true kind e.cell (kind_on e) ∙ kl) (place_length true day e.cell (day_on e) ∙ dl) tests.1 lows.1)))
      by_test rest false p =
          rw (p, none_more (went_of (goes (head.causal d.head) d.pkind) es), ← put_off kind e.cell (kind_on e) {on = false} refl, ← put_off day e.cell (day_on e) {on = false} refl)
          (passes e.cell (content_in e) (first_of e es) (assigned_only_if e.cell p)
          (subst (λ (u : Updates Content). Loop (model_of d.head.mode) (updates_of d.pkind d.pday) u (content_at kind day) (length es) (went_of g es) (content_at (laid g kind_on kind es) (laid g day_on day es)))
          (extracted e es tests.0 tests.1)
          (rest kind day kl dl tests.1 lows.1)))
