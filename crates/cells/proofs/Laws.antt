-- Laws of the places of a record's arrays (specs/Cells.antt).
--   reads, places                           sets: one place read, and one put, by each test of the code
--   place_put, place_kept, place_length     what stands in a place after a put, and how long the array is
--   each_at, each_if, each_both             what a test of each place says of one
--   some_at, some_if, none_if               what a test of some place says
--   AnySoFar, CountSoFar and their laws     the two loops over the places
-- Assumes nothing.
use Prim.Native.Nat.{ℕ, zero, suc, ◌+◌, ◌≤◌, ◌<◌}
use mathlib.Core.Path.{◌≡◌, refl, sym, ap, ◌∙◌}
use mathlib.Core.Bool.{Bool, true, false, cond, not, ◌&&◌, ◌||◌, false≢true, and-eq-true_iff, or-true, or-false}
use mathlib.Core.List.{List}
use mathlib.Core.Logic.{◌⊎◌, inl, inr}
use native.Mathlib.Omega.{arith}
use native.Mathlib.Nat.{not-suc-le-zero}
use native.Mathlib.Numerals.{add-one}
use lib.Dec.{eqb, ltb}
use mir.Syntax.{w8}
use mir.Val.{Fits}
use lib.ListN.{length, get_or, set, length-set}
use lib.Seq.{get_or-set_same, get_or-set_other}
use borrow.Author.Tests.{lt-ltb, le-ltb, ltb-true, ltb-false, eqb-true, eqb-false}
use Rattle.std.proofs.lemmas.List.{get_or_past, get_or_default}
use Rattle.cells.specs.Cells.{place_at, filled, put_if, each, anywhere, count}

-- ---- one place, as the code reads and puts it

module _ {A : Type 0} (none : A) (l : List A) (i : ℕ) where
  pub in_place : i < 64 → get_or l i none ≡ place_at none l i
  unfolding place_at
  in_place h = rw (lt-ltb i 64 h)

  pub no_place : 64 ≤ i → none ≡ place_at none l i
  unfolding place_at
  no_place h = rw (le-ltb i 64 h)

  -- in an array of 64 elements, whatever else it would give past them
  pub got : (d : A) (j : ℕ) → length l ≡ 64 → i < 64 → j ≡ i → get_or l j d ≡ place_at none l i
  got d j long h at = rw at (get_or_default l i d none (omega arith) ∙ in_place h)

  -- in an array of 64 elements: past them `get_or` gives `none` too
  pub place_read : length l ≡ 64 → get_or l i none ≡ place_at none l i
  place_read long = by_place (ltb i 64) refl
    where
      by_place : (t : Bool) → ltb i 64 ≡ t → get_or l i none ≡ place_at none l i
      by_place true e = in_place (ltb-true i 64 e)
      by_place false e = let beyond : length l ≤ i = omega (arith, long, ltb-false i 64 e) in get_or_past l i none beyond ∙ no_place (ltb-false i 64 e)

pub ruleset reads = (got, no_place)

module _ {A : Type 0} (l : List A) (i : ℕ) (x : A) where
  pub put_on : {on : Bool} → on ≡ true → i < 64 → set l i x ≡ put_if on l i x
  unfolding put_if
  put_on e h = rw (e, lt-ltb i 64 h)

  pub put_past : {on : Bool} → on ≡ true → 64 ≤ i → l ≡ put_if on l i x
  unfolding put_if
  put_past e h = rw (e, le-ltb i 64 h)

  pub put_off : {on : Bool} → on ≡ false → l ≡ put_if on l i x
  unfolding put_if
  put_off e = rw e

  pub put_not : {on : Bool} → ((on ≡ true) × (64 ≤ i)) ⊎ (on ≡ false) → l ≡ put_if on l i x
  put_not (inl h) = put_past h.0 h.1
  put_not (inr h) = put_off h

pub ruleset places = (put_on, put_not)

-- ---- what stands in a place after a put

module _ {A : Type 0} (none : A) (l : List A) (i : ℕ) (x : A) where
  pub place_put : length l ≡ 64 → i < 64 → place_at none (put_if true l i x) i ≡ x
  unfolding place_at put_if
  place_put long h = rw (lt-ltb i 64 h) (get_or-set_same l i x none (omega arith))

  pub place_kept : (on : Bool) (j : ℕ) → (j ≡ i → ⊥) → place_at none (put_if on l i x) j ≡ place_at none l j
  unfolding place_at put_if
  place_kept on j h = by_test (on && ltb i 64)
    where
      by_test : (t : Bool) → cond (ltb j 64) (get_or (cond t (set l i x) l) j none) none ≡ cond (ltb j 64) (get_or l j none) none
      by_test true = rw (get_or-set_other l i j x none h)
      by_test false = refl

pub place_length : {A : Type 0} (on : Bool) (l : List A) (i : ℕ) (x : A) → length (put_if on l i x) ≡ length l
unfolding put_if
place_length on l i x = by_test (on && ltb i 64)
  where
    by_test : (t : Bool) → length (cond t (set l i x) l) ≡ length l
    by_test true = length-set l i x
    by_test false = refl

-- ---- a test of each place, and of some

pub each_at : (n : ℕ) (p : ℕ → Bool) → each n p ≡ true → (i : ℕ) → i < n → p i ≡ true
unfolding each
each_at zero p e i h = absurd (not-suc-le-zero h)
each_at (suc n) p e i h = by_last (each_at n p) (eqb i n) refl
  where
    by_last : (each n p ≡ true → (i : ℕ) → i < n → p i ≡ true) → (t : Bool) → eqb i n ≡ t → p i ≡ true
    by_last rest true q = ap p (eqb-true i n q) ∙ ((and-eq-true_iff (each n p) (p n)).0 e).1
    by_last rest false q = let other = eqb-false i n q in rest ((and-eq-true_iff (each n p) (p n)).0 e).0 i (omega arith)

pub each_if : (n : ℕ) (p : ℕ → Bool) → ((i : ℕ) → i < n → p i ≡ true) → each n p ≡ true
unfolding each
each_if zero p f = refl
each_if (suc n) p f = rw (each_if n p (λ i h. f i (omega arith)), f n (omega arith))

-- tests that agree below n agree of each
pub each_same : (n : ℕ) (p q : ℕ → Bool) → ((i : ℕ) → i < n → p i ≡ q i) → each n p ≡ each n q
unfolding each
each_same zero p q f = refl
each_same (suc n) p q f = rw (each_same n p q (λ i h. f i (omega arith)), f n (omega arith))

middle : (a b c d : Bool) → (a && b) && (c && d) ≡ (a && c) && (b && d)
middle true true c d = refl
middle true false true d = refl
middle true false false d = refl
middle false b c d = refl

-- both of two tests of each are one test of each
pub each_both : (n : ℕ) (p q : ℕ → Bool) → each n p && each n q ≡ each n (λ i. p i && q i)
unfolding each
each_both zero p q = refl
each_both (suc n) p q = middle (each n p) (p n) (each n q) (q n) ∙ rw (each_both n p q)

pub some_if : (n : ℕ) (p : ℕ → Bool) (i : ℕ) → i < n → p i ≡ true → anywhere n p ≡ true
unfolding anywhere
some_if zero p i h e = absurd (not-suc-le-zero h)
some_if (suc n) p i h e = by_last (some_if n p i) (eqb i n) refl
  where
    by_last : (i < n → p i ≡ true → anywhere n p ≡ true) → (t : Bool) → eqb i n ≡ t → (anywhere n p || p n) ≡ true
    by_last rest true q = rw (sym (ap p (eqb-true i n q)) ∙ e) (or-true (anywhere n p))
    by_last rest false q = let other = eqb-false i n q in rw (rest (omega arith) e)

pub none_if : (n : ℕ) (p : ℕ → Bool) → ((i : ℕ) → i < n → p i ≡ false) → anywhere n p ≡ false
unfolding anywhere
none_if zero p f = refl
none_if (suc n) p f = rw (none_if n p (λ i h. f i (omega arith)), f n (omega arith))

-- where a test holds of some, there is a place of which it holds
pub record Somewhere (n : ℕ) (p : ℕ → Bool) : Type 0 where
  pub place : ℕ
  pub below : place < n
  pub holds : p place ≡ true

pub some_at : (n : ℕ) (p : ℕ → Bool) → anywhere n p ≡ true → Somewhere n p
unfolding anywhere
some_at zero p e = absurd (false≢true e)
some_at (suc n) p e = by_last (some_at n p) (p n) refl
  where
    by_last : (anywhere n p ≡ true → Somewhere n p) → (t : Bool) → p n ≡ t → Somewhere (suc n) p
    by_last rest true q = record { place = n; below = omega arith; holds = q }
    by_last rest false q =
        let s = rest (sym (or-false (anywhere n p)) ∙ (rw q at e)) in
        record { place = s.place; below = omega (arith, s.below); holds = s.holds }

-- ---- the loops

at_most_one : (t : Bool) → cond t 1 0 ≤ 1
at_most_one true = omega arith
at_most_one false = omega arith

module _ (kinds : List ℕ) where
  pub record AnySoFar (any : Bool) (i : ℕ) : Type 0 where
    pub within : i ≤ 64
    pub found : any ≡ anywhere i (filled kinds)

  pub any_begun : AnySoFar false 0
  unfolding anywhere
  any_begun = record { within = omega arith; found = refl }

  pub any_turned : {any : Bool} {i : ℕ} → AnySoFar any i → i < 64 → AnySoFar (any || not (eqb (get_or kinds i 0) 0)) (i + 1)
  unfolding anywhere
  any_turned {i = i} so h = record { within = omega arith; found = rw (add-one, so.found, in_place 0 kinds i h) }

  pub any_ended : {any : Bool} {i : ℕ} → AnySoFar any i → 64 ≤ i → any ≡ anywhere 64 (filled kinds)
  any_ended {i = i} so h = let all : i ≡ 64 = omega (arith, so.within) in so.found ∙ ap (λ (j : ℕ). anywhere j (filled kinds)) all

  pub record CountSoFar (n i : ℕ) : Type 0 where
    pub within : i ≤ 64
    pub few : n ≤ i
    pub found : n ≡ count i (filled kinds)

  pub count_begun : CountSoFar 0 0
  unfolding count
  count_begun = record { within = omega arith; few = omega arith; found = refl }

  module _ {n i one : ℕ} (so : CountSoFar n i) (h : i < 64) (e : one ≡ cond (not (eqb (get_or kinds i 0) 0)) 1 0) where
    pub count_fits : Fits w8 (n + one)
    count_fits = record { fits = omega (arith, so.few, e, at_most_one (not (eqb (get_or kinds i 0) 0))) }

    pub count_turned : CountSoFar (n + one) (i + 1)
    unfolding count
    count_turned =
        record {
          within = omega arith;
          few = omega (arith, so.few, e, at_most_one (not (eqb (get_or kinds i 0) 0)));
          found = rw (add-one, e, so.found, in_place 0 kinds i h);
        }

  pub count_ended : {n i : ℕ} → CountSoFar n i → 64 ≤ i → n ≡ count 64 (filled kinds)
  count_ended {i = i} so h = let all : i ≡ 64 = omega (arith, so.within) in so.found ∙ ap (λ (j : ℕ). count j (filled kinds)) all

pub count_within : (n : ℕ) (p : ℕ → Bool) → count n p ≤ n
unfolding count
count_within zero p = omega arith
count_within (suc n) p = omega (arith, count_within n p, at_most_one (p n))

pub ruleset scans = (any_begun, any_turned, any_ended, count_begun, count_turned, count_fits, count_ended)
