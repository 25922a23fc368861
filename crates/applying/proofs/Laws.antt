-- Laws of `laid`, `went_of` and `AppliesEntries` (specs/Applying.antt).
--   Every                                      what holds of every entry of a list
--   laid_length, laid_append                   the array keeps its length; entries laid after others are laid on what those left
--   laid_kept, laid_every                      a place that no entry goes to keeps what it had; what holds of a place and of every value laid holds after
--   went_within                                no more went than there are
--   GoneSoFar                                  the loop over a sheet's entries: the whole is what went so far, and the rest
--   applyings                                  a set for `search`: that loop begun, turned and ended, and a call whose bytes end too early
-- Assumes nothing.
use mathlib.Core.Path.{◌≡◌, refl, sym, ap, ◌∙◌}
use mathlib.Core.Bool.{Bool, true, false, cond, ◌&&◌}
use mathlib.Core.List.{List, [], ◌∷◌, ◌++◌}
use Prim.Native.Nat.{ℕ, zero, suc, ◌+◌, ◌*◌, ◌-◌, ◌<◌, ◌≤◌}
use native.Mathlib.Omega.{arith}
use native.Mathlib.Nat.{sub-zero}
use lib.Dec.{ltb}
use lib.IntN.{ℤ}
use lib.ListN.{length, get_or, set, drop}
use lib.Seq.{drop-drop}
use mir.Syntax.{w8, w32}
use mir.Val.{Fits, SFits, to_z, of_z}
use mir.Facts.{to_z-of_z}
use borrow.Author.Tests.{le-leb, lt-leb}
use Rattle.cells.specs.Cells.{place_at, put_if}
use Rattle.cells.proofs.Laws.{put_off, place_kept, place_length}
use Rattle.layout.specs.declared.Entry.{Entry}
use Rattle.layout.specs.Layout.{entry_of, entries_of}
use Rattle.sheet.specs.Reading.{entry_at}
use Rattle.applying.specs.Applying.{goes, laid, kind_on, day_on, went_of, entries_in, AppliesEntries}

-- ---- what holds of every entry

abbrev pub Every : (Entry → Type 0) → List Entry → Type 0
Every Q [] = Unit {0}
Every Q (e ∷ es) = Q e × Every Q es

-- ---- the array after entries

module _ {A : Type 0} (going : Entry → Bool) (value : Entry → A) where
  pub laid_length : (l : List A) (es : List Entry) → length (laid going value l es) ≡ length l
  unfolding laid
  laid_length l [] = refl
  laid_length l (e ∷ es) = laid_length (put_if (going e) l e.cell (value e)) es ∙ place_length (going e) l e.cell (value e)

  pub laid_append : (l : List A) (es fs : List Entry) → laid going value l (es ++ fs) ≡ laid going value (laid going value l es) fs
  unfolding laid
  laid_append l [] fs = refl
  laid_append l (e ∷ es) fs = laid_append (put_if (going e) l e.cell (value e)) es fs

module _ {A : Type 0} (P : A → Type 0) (none : A) where
  set_holds : (l : List A) (i j : ℕ) (x : A) → P (get_or l j none) → P x → P (get_or (set l i x) j none)
  set_holds [] i j x p q = p
  set_holds (y ∷ l) zero zero x p q = q
  set_holds (y ∷ l) zero (suc j) x p q = p
  set_holds (y ∷ l) (suc i) zero x p q = p
  set_holds (y ∷ l) (suc i) (suc j) x p q = set_holds l i j x p q

  put_holds : (on : Bool) (l : List A) (i j : ℕ) (x : A) → P (place_at none l j) → (on ≡ true → P x) → P (place_at none (put_if on l i x) j)
  unfolding place_at put_if
  put_holds on l i j x p q = by_test on refl (ltb i 64) (ltb j 64) p
    where
      by_test : (t : Bool) → on ≡ t → (a b : Bool) → P (cond b (get_or l j none) none) → P (cond b (get_or (cond (t && a) (set l i x) l) j none) none)
      by_test true e true true h = set_holds l i j x h (q e)
      by_test true e false b h = h
      by_test true e true false h = h
      by_test false e a b h = h

  -- what holds of a place, and of every value that goes, holds of the place afterwards
  pub laid_every : (going : Entry → Bool) (value : Entry → A) (i : ℕ) (l : List A) (es : List Entry)
      → Every (λ e. going e ≡ true → P (value e)) es → P (place_at none l i) → P (place_at none (laid going value l es) i)
  unfolding laid
  laid_every going value i l [] all p = p
  laid_every going value i l (e ∷ es) all p =
      laid_every going value i (put_if (going e) l e.cell (value e)) es all.1 (put_holds (going e) l e.cell i (value e) p all.0)

-- a place that no entry goes to keeps what it had
pub laid_kept : {A : Type 0} (none : A) (going : Entry → Bool) (value : Entry → A) (i : ℕ) (l : List A) (es : List Entry)
    → Every (λ e. going e ≡ true → e.cell ≡ i → ⊥) es → place_at none (laid going value l es) i ≡ place_at none l i
unfolding laid put_if
laid_kept none going value i l [] all = refl
laid_kept none going value i l (e ∷ es) all =
    laid_kept none going value i (put_if (going e) l e.cell (value e)) es all.1 ∙ one (going e) refl
  where
    one : (t : Bool) → going e ≡ t → place_at none (put_if t l e.cell (value e)) i ≡ place_at none l i
    one true p = place_kept none l e.cell (value e) true i (λ same. all.0 p (sym same))
    one false p = refl

-- ---- how many went

at_most_one : (t : Bool) → cond t 1 0 ≤ 1
at_most_one true = omega arith
at_most_one false = omega arith

module _ (going : Entry → Bool) where
  pub went_within : (es : List Entry) → went_of going es ≤ length es
  unfolding went_of
  went_within [] = omega arith
  went_within (e ∷ es) = omega (arith, went_within es, at_most_one (going e))

-- ---- the loop: the whole comes to what is laid so far, with the rest of the entries laid on it

-- the entries from i on
abbrev rest : List ℕ → ℕ → ℕ → List Entry
rest s count i = entries_of (count - i) (drop (6 * i) s)

rest_step : (s : List ℕ) (count i : ℕ) → i < count → rest s count i ≡ entry_of (drop (6 * i) s) ∷ rest s count (i + 1)
rest_step s count i h =
    let one : count - i ≡ suc (count - (i + 1)) = omega arith in
    let on : 6 * i + 6 ≡ 6 * (i + 1) = omega arith in
    ap (λ (k : ℕ). entries_of k (drop (6 * i) s)) one
    ∙ ap (λ (l : List ℕ). entry_of (drop (6 * i) s) ∷ entries_of (count - (i + 1)) l) (drop-drop 6 (6 * i) s ∙ ap (λ (k : ℕ). drop k s) on)

pub record GoneSoFar (causal : Bool) (pkind s : List ℕ) (count : ℕ) (kind₀ : List ℕ) (day₀ : List ℤ) (kind : List ℕ) (day : List ℤ) (went i : ℕ) : Type 0 where
  pub within_count : i ≤ count
  pub few : went ≤ i
  pub found : went_of (goes causal pkind) (entries_of count s) ≡ went + went_of (goes causal pkind) (rest s count i)
  pub kinds : laid (goes causal pkind) kind_on kind₀ (entries_of count s) ≡ laid (goes causal pkind) kind_on kind (rest s count i)
  pub days : laid (goes causal pkind) day_on day₀ (entries_of count s) ≡ laid (goes causal pkind) day_on day (rest s count i)

module _ (causal : Bool) (pkind s : List ℕ) (count : ℕ) (kind₀ : List ℕ) (day₀ : List ℤ) where
  abbrev on_shelf : Entry → Bool
  on_shelf = goes causal pkind

  pub gone_begun : GoneSoFar causal pkind s count kind₀ day₀ kind₀ day₀ 0 0
  gone_begun =
      let all : entries_of count s ≡ rest s count 0 = rw (sub-zero count) in
      record {
        within_count = omega arith;
        few = omega arith;
        found = ap (went_of on_shelf) all ∙ omega arith;
        kinds = ap (laid on_shelf kind_on kind₀) all;
        days = ap (laid on_shelf day_on day₀) all;
      }

  module _ {kind : List ℕ} {day : List ℤ} {went i : ℕ} (so : GoneSoFar causal pkind s count kind₀ day₀ kind day went i) where
    module _ (h : i < count) where
      pub gone_fits : Fits w8 count → Fits w8 (went + 1)
      gone_fits fits = record { fits = omega (arith, so.few) }

      module _ (room : 6 * count + 12 ≤ length s) (e : Entry) (is : e ≡ entry_at s i) where
        step : rest s count i ≡ e ∷ rest s count (i + 1)
        step =
            let stands : entry_at s i ≡ entry_of (drop (6 * i) s) = rw (le-leb (6 * i + 18) (length s) (omega arith)) in
            rest_step s count i h ∙ ap (λ (x : Entry). x ∷ rest s count (i + 1)) (sym (is ∙ stands))

        -- the shelf with what a test says is put on it, and the rest behind
        with_rest : {A : Type 0} → (Entry → A) → List A → Bool → List A
        with_rest value l t = laid on_shelf value (put_if t l e.cell (value e)) (rest s count (i + 1))

        count_rest : Bool → ℕ
        count_rest t = went + (cond t 1 0 + went_of on_shelf (rest s count (i + 1)))

        module _ (test : Bool) (goes_so : goes causal pkind e ≡ test) where
          kinds_so : laid on_shelf kind_on kind (rest s count i) ≡ with_rest kind_on kind test
          unfolding laid with_rest
          kinds_so = ap (laid on_shelf kind_on kind) step ∙ ap (with_rest kind_on kind) goes_so

          days_so : laid on_shelf day_on day (rest s count i) ≡ with_rest day_on day test
          unfolding laid with_rest
          days_so = ap (laid on_shelf day_on day) step ∙ ap (with_rest day_on day) goes_so

          count_so : went + went_of on_shelf (rest s count i) ≡ count_rest test
          unfolding went_of count_rest
          count_so = ap (λ (es : List Entry). went + went_of on_shelf es) step ∙ ap count_rest goes_so

        pub gone_on : goes causal pkind e ≡ true → (d : ℤ) → d ≡ to_z w32 e.day → SFits w32 d
            → (kind' : List ℕ) → kind' ≡ put_if true kind e.cell e.kind
            → (day' : List ℤ) → day' ≡ put_if true day e.cell (to_z w32 (of_z w32 d))
            → (went' : ℕ) → went' ≡ went + 1
            → GoneSoFar causal pkind s count kind₀ day₀ kind' day' went' (i + 1)
        unfolding with_rest count_rest
        gone_on on d signed fits kind' k day' y went' w =
            record {
              within_count = omega arith;
              few = omega (arith, so.few, w);
              found = so.found ∙ count_so true on ∙ omega (arith, w);
              kinds = so.kinds ∙ kinds_so true on ∙ ap (λ (l : List ℕ). laid on_shelf kind_on l (rest s count (i + 1))) (sym k);
              days =
                  so.days
                  ∙ days_so true on
                  ∙ ap (λ (z : ℤ). laid on_shelf day_on (put_if true day e.cell z) (rest s count (i + 1))) (sym (to_z-of_z fits ∙ signed))
                  ∙ ap (λ (l : List ℤ). laid on_shelf day_on l (rest s count (i + 1))) (sym y);
            }

        pub gone_off : goes causal pkind e ≡ false
            → (kind' : List ℕ) → kind' ≡ kind → (day' : List ℤ) → day' ≡ day → (went' : ℕ) → went' ≡ went
            → GoneSoFar causal pkind s count kind₀ day₀ kind' day' went' (i + 1)
        unfolding with_rest count_rest
        gone_off off kind' k day' y went' w =
            record {
              within_count = omega arith;
              few = omega (arith, so.few, w);
              found = so.found ∙ count_so false off ∙ omega (arith, w);
              kinds = so.kinds ∙ kinds_so false off ∙ ap (λ (l : List ℕ). laid on_shelf kind_on l (rest s count (i + 1))) (sym (k ∙ put_off kind e.cell e.kind refl));
              days = so.days ∙ days_so false off ∙ ap (λ (l : List ℤ). laid on_shelf day_on l (rest s count (i + 1))) (sym (y ∙ put_off day e.cell (to_z w32 e.day) refl));
            }

    pub gone_ended : 6 * count + 12 ≤ length s → count ≤ i → AppliesEntries causal pkind (entries_in s count) kind₀ day₀ went kind day
    unfolding laid went_of
    gone_ended room h =
        let none : count - i ≡ 0 = omega arith in
        rw (le-leb (6 * count + 12) (length s) room)
        (record {
          went = sym (so.found ∙ rw none (omega arith));
          kinds = sym (so.kinds ∙ rw none);
          days = sym (so.days ∙ rw none);
        })

  pub gone_none : length s < 6 * count + 12 → AppliesEntries causal pkind (entries_in s count) kind₀ day₀ 0 kind₀ day₀
  unfolding laid went_of
  gone_none h = rw (lt-leb (6 * count + 12) (length s) h) (record { went = refl; kinds = refl; days = refl })

pub ruleset applyings = (gone_begun, gone_fits, gone_ended, gone_none)
