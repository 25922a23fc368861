-- Laws of `sheets_of` (specs/Sheets.antt).
--   start_within, before_long      where the last sheet starts, and how long what stands before it is
--   sheets_none, sheets_cut        no bytes have no sheets; other bytes have a last sheet, and those of what stands before it
--   sheets_few                     no more sheets than bytes
--   sheets_behind                  a good sheet behind bytes is the last of them, whatever they are
-- Assumes nothing.
use mathlib.Core.Path.{◌≡◌, refl, sym, ap, ◌∙◌}
use mathlib.Core.Bool.{Bool, true, false, cond}
use mathlib.Core.List.{List, [], ◌∷◌, ◌++◌}
use Prim.Native.Nat.{ℕ, zero, suc, ◌+◌, ◌-◌, ◌<◌, ◌≤◌}
use native.Mathlib.Omega.{arith}
use lib.Dec.{eqb}
use lib.ListN.{length, take, drop, length-append}
use lib.Seq.{length-take-le, take-append_seam, drop-append_seam, drop-append-add}
use borrow.Author.Tests.{eq-eqb, ne_eqb, eqb-true, eqb-false}
use Rattle.layout.specs.Layout.{trailer_of, trailer_in}
use Rattle.sheet.specs.Good.{good}
use Rattle.sheet.proofs.Laws.Good.{good_is_long, good_trailer_is_fair}
use Rattle.book.specs.Sheets.{last_start, last_sheet, before, sheets_back, sheets_of}

-- ---- cutting

module _ (b : List ℕ) where
  pub start_within : last_start b ≤ length b
  start_within = omega arith

  pub before_long : length (before b) ≡ last_start b
  before_long = length-take-le (last_start b) b start_within

  empty_back : (k : ℕ) → length b ≡ 0 → sheets_back k b ≡ []
  unfolding sheets_back
  empty_back zero e = refl
  empty_back (suc k) e = rw (eq-eqb (length b) 0 e)

  cut_back : (k : ℕ) → 0 < length b → sheets_back (suc k) b ≡ last_sheet b ∷ sheets_back k (before b)
  unfolding sheets_back
  cut_back k h = rw (ne_eqb (length b) 0 (λ e. omega arith))

  one_more : (j k : ℕ) → (0 < length b → sheets_back j (before b) ≡ sheets_back k (before b)) → sheets_back (suc j) b ≡ sheets_back (suc k) b
  one_more j k rest = by_test (eqb (length b) 0) refl
    where
      by_test : (t : Bool) → eqb (length b) 0 ≡ t → sheets_back (suc j) b ≡ sheets_back (suc k) b
      by_test true e = let none = eqb-true (length b) 0 e in empty_back (suc j) none ∙ sym (empty_back (suc k) none)
      by_test false e =
          let none = eqb-false (length b) 0 e in
          let some : 0 < length b = omega arith in
          cut_back j some ∙ ap (λ (ss : List (List ℕ)). last_sheet b ∷ ss) (rest some) ∙ sym (cut_back k some)

-- how many are asked for does not matter, if they are enough
enough : (j k : ℕ) (b : List ℕ) → length b ≤ j → length b ≤ k → sheets_back j b ≡ sheets_back k b
enough zero k b hj hk = empty_back b zero (omega arith) ∙ sym (empty_back b k (omega arith))
enough (suc j) zero b hj hk = empty_back b (suc j) (omega arith) ∙ sym (empty_back b zero (omega arith))
enough (suc j) (suc k) b hj hk =
    one_more b j k (λ some. enough j k (before b) (omega (arith, before_long b)) (omega (arith, before_long b)))

module _ (b : List ℕ) where
  pub sheets_none : length b ≡ 0 → sheets_of b ≡ []
  unfolding sheets_of
  sheets_none e = empty_back b (length b) e

  pub sheets_cut : 0 < length b → sheets_of b ≡ last_sheet b ∷ sheets_of (before b)
  unfolding sheets_of
  sheets_cut h =
      enough (length b) (suc (length b)) b (omega arith) (omega arith)
      ∙ cut_back b (length b) h
      ∙ ap (λ (ss : List (List ℕ)). last_sheet b ∷ ss) (enough (length b) (length (before b)) (before b) (omega (arith, before_long b)) (omega arith))

few_back : (k : ℕ) (b : List ℕ) → length (sheets_back k b) ≤ k
unfolding sheets_back
few_back zero b = omega arith
few_back (suc k) b = by_test (few_back k (before b)) (eqb (length b) 0)
  where
    by_test : length (sheets_back k (before b)) ≤ k → (t : Bool) → length (cond t [] (last_sheet b ∷ sheets_back k (before b))) ≤ suc k
    by_test few true = omega arith
    by_test few false = omega arith

pub sheets_few : (b : List ℕ) → length (sheets_of b) ≤ length b
unfolding sheets_of
sheets_few b = few_back (length b) b

-- ---- a good sheet behind bytes

module _ (b s : List ℕ) (g : good s ≡ true) where
  trailer_behind : trailer_in (b ++ s) ≡ trailer_in s
  trailer_behind =
      let long = good_is_long s g in
      let at : length (b ++ s) - 12 ≡ length b + (length s - 12) = omega (arith, length-append b s) in
      ap trailer_of (ap (λ (i : ℕ). drop i (b ++ s)) at ∙ drop-append-add b s (length s - 12))

  pub start_behind : last_start (b ++ s) ≡ length b
  start_behind =
      let fair = good_trailer_is_fair s g in
      let long = good_is_long s g in
      let same : (trailer_in (b ++ s)).distance ≡ (trailer_in s).distance = ap (λ t. t.distance) trailer_behind in
      omega (arith, length-append b s, same, fair.distance_is_back)

  pub sheets_behind : sheets_of (b ++ s) ≡ s ∷ sheets_of b
  sheets_behind =
      sheets_cut (b ++ s) (omega (arith, length-append b s, good_is_long s g))
      ∙ ap (λ (i : ℕ). drop i (b ++ s) ∷ sheets_of (take i (b ++ s))) start_behind
      ∙ rw (drop-append_seam, take-append_seam)
