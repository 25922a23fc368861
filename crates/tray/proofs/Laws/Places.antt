-- Laws of trays for whoever uses them: what a place holds after a sheet was put into it or it was cleared, and that the others stay.
--   place_there                                  a tray of n places has the place of each desk below n
--   by_size                                      a fact about what putting a sheet into a place leaves, from the two cases
--   held_long, cleared_long                      a tray is as long as before
--   HoldsGood, holds_says                        what `holds_good` says, as facts
--   holds_not_free                               a place that holds a good sheet is not free
--   Held, held_found, held_holds                 a sheet that was put into a place is found there
--   cleared_free                                 a cleared place is free
--   SamePlace, held_others, cleared_others       every other place stays, byte for byte
--   same_length_at, same_free, same_sheet, same_sheet_held, same_holds      and then it is in all respects as before
-- Assumes nothing.
use mathlib.Core.Path.{◌≡◌, refl, sym, ap, ◌∙◌}
use mathlib.Core.List.{List, ◌++◌}
use mathlib.Core.Bool.{Bool, true, false, and-true, and-false}
use Prim.Native.Nat.{ℕ, ◌+◌, ◌*◌, ◌-◌, ◌<◌, ◌≤◌}
use native.Mathlib.Omega.{arith}
use native.Mathlib.Nat.{add-zero}
use lib.Dec.{eqb, leb, ltb}
use lib.ListN.{length, take, drop, replicate, length-append, length-take, length-replicate}
use lib.Seq.{take-append_seam, take_all, drop_at}
use borrow.Author.Tests.{le-leb, lt-leb, leb-true, leb-false, ltb-true, ltb-false, eq-eqb, ne_eqb}
use Rattle.numbers.specs.Numbers.{bytes, at1, at2}
use Rattle.laying.specs.Laying.{laid_over}
use Rattle.sheet.specs.Good.{good}
use Rattle.numbers.proofs.Tests.{tested}
use Rattle.sheet.proofs.Laws.Good.{good_within}
use Rattle.tray.specs.Tray.{place_start, length_at, free, sheet_at, rest_at, zeros, holds_good, place_bytes, held_in, cleared_in}
use Rattle.tray.proofs.Laws.Zeros.{zeros_are}
use Rattle.tray.proofs.Laws.Holding.{place_long, held_not, held_is}
use Rattle.tray.proofs.Laws.Parts.{laid_long, laid_inside, laid_before, laid_after, part_of, byte_of}

-- ---- a tray of n places

pub place_there : (tray : List ℕ) (n q : ℕ) → length tray ≡ 398 * n → q < n → place_start q + 398 ≤ length tray
place_there tray n q long h = omega arith

-- ---- as long as before

module _ (tray : List ℕ) (q : ℕ) (s : List ℕ) where
  -- a fact about what putting a sheet into a place leaves, from the two cases
  pub by_size : (P : List ℕ → Type 0) → (length s ≤ 396 → P (laid_over tray (place_start q) (place_bytes s))) → P tray → P (held_in tray q s)
  by_size P put kept = by_test (leb (length s) 396) refl
    where
      by_test : (t : Bool) → leb (length s) 396 ≡ t → P (held_in tray q s)
      by_test true e = let few = leb-true (length s) 396 e in rw (held_is tray q s few) (put few)
      by_test false e = rw (held_not tray q s (leb-false (length s) 396 e)) kept

  pub held_long : length (held_in tray q s) ≡ length tray
  held_long = by_size (λ (l : List ℕ). length l ≡ length tray) (λ few. laid_long tray (place_start q) (place_bytes s)) refl

pub cleared_long : (tray : List ℕ) (q : ℕ) → length (cleared_in tray q) ≡ length tray
unfolding cleared_in
cleared_long tray q = laid_long tray (place_start q) (replicate 398 0)

-- ---- what `holds_good` says

pub record HoldsGood (tray : List ℕ) (q : ℕ) : Type 0 where
  pub room : place_start q + 398 ≤ length tray
  pub few : length_at tray q ≤ 396
  pub sheet_good : good (sheet_at tray q) ≡ true
  pub rest_zeros : zeros (rest_at tray q) ≡ true

module _ (tray : List ℕ) (q : ℕ) where
  pub holds_says : holds_good tray q ≡ true → HoldsGood tray q
  unfolding holds_good
  holds_says h = search tested

  pub holds_not_free : holds_good tray q ≡ true → free tray q ≡ false
  holds_not_free h =
      let within = good_within (sheet_at tray q) (holds_says h).sheet_good in
      ne_eqb (length_at tray q) 0 (λ e. omega (arith, within.0, length-take (length_at tray q) (drop (place_start q + 2) tray)))

-- ---- a place by its 398 bytes

abbrev pub bytes_at : List ℕ → ℕ → List ℕ
bytes_at tray q = take 398 (drop (place_start q) tray)

module _ (tray : List ℕ) (q : ℕ) where
  length_in : length_at tray q ≡ at2 (bytes_at tray q) 0
  length_in =
      let low : at1 tray (place_start q) ≡ at1 (bytes_at tray q) 0 = ap (at1 tray) (sym (add-zero (place_start q))) ∙ sym (byte_of tray 398 (place_start q) 0 (omega arith)) in
      let high : at1 tray (place_start q + 1) ≡ at1 (bytes_at tray q) 1 = sym (byte_of tray 398 (place_start q) 1 (omega arith)) in
      omega arith

  module _ (few : length_at tray q ≤ 396) where
    sheet_in : sheet_at tray q ≡ take (length_at tray q) (drop 2 (bytes_at tray q))
    sheet_in = sym (part_of tray 398 (place_start q) 2 (length_at tray q) (omega arith))

    rest_in : rest_at tray q ≡ take (396 - length_at tray q) (drop (2 + length_at tray q) (bytes_at tray q))
    rest_in =
        let there : place_start q + 2 + length_at tray q ≡ place_start q + (2 + length_at tray q) = omega arith in
        ap (λ (k : ℕ). take (396 - length_at tray q) (drop k tray)) there
        ∙ sym (part_of tray 398 (place_start q) (2 + length_at tray q) (396 - length_at tray q) (omega arith))

-- ---- a sheet that was put into a place

-- the place of desk q holds s, in its first bytes, and zeros behind it
pub record Held (tray : List ℕ) (q : ℕ) (s : List ℕ) : Type 0 where
  pub length_is : length_at tray q ≡ length s
  pub sheet_is : sheet_at tray q ≡ s
  pub rest_zeros : zeros (rest_at tray q) ≡ true

-- whatever the place's bytes are, if they are those of s
held_by : (tray : List ℕ) (q : ℕ) (s : List ℕ) → length s ≤ 396 → bytes_at tray q ≡ place_bytes s → Held tray q s
held_by tray q s few e =
    let long : length_at tray q ≡ length s = length_in tray q ∙ ap (λ (l : List ℕ). at2 l 0) e ∙ omega arith in
    let short : length_at tray q ≤ 396 = omega arith in
    let tail : List ℕ = replicate (396 - length s) 0 in
    let many : length tail ≡ 396 - length s = length-replicate (396 - length s) 0 in
    let sheet : sheet_at tray q ≡ s =
    sheet_in tray q short ∙ ap (λ (l : List ℕ). take (length_at tray q) (drop 2 l)) e ∙ ap (λ (n : ℕ). take n (s ++ tail)) long ∙ take-append_seam s tail
    in
    let rest : rest_at tray q ≡ tail =
    rest_in tray q short
    ∙ ap (λ (l : List ℕ). take (396 - length_at tray q) (drop (2 + length_at tray q) l)) e
    ∙ ap (λ (n : ℕ). take (396 - n) (drop (2 + n) (place_bytes s))) long
    ∙ ap (λ (l : List ℕ). take (396 - length s) l) (drop_at (bytes 2 (length s) ++ s) tail (2 + length s) (omega (arith, length-append (bytes 2 (length s)) s)))
    ∙ take_all (396 - length s) tail (omega arith)
    in
    record { length_is = long; sheet_is = sheet; rest_zeros = ap zeros rest ∙ zeros_are (396 - length s) }

module _ (tray : List ℕ) (q : ℕ) (s : List ℕ) where
  pub held_found : length s ≤ 396 → place_start q + 398 ≤ length tray → Held (held_in tray q s) q s
  held_found few room =
      let all = place_long s few in
      held_by (held_in tray q s) q s few
      (ap (λ (l : List ℕ). bytes_at l q) (held_is tray q s few)
      ∙ ap (λ (n : ℕ). take n (drop (place_start q) (laid_over tray (place_start q) (place_bytes s)))) (sym all)
      ∙ laid_inside tray (place_start q) (place_bytes s) (omega arith))

  pub held_holds : length s ≤ 396 → place_start q + 398 ≤ length tray → holds_good (held_in tray q s) q ≡ good s
  unfolding holds_good
  held_holds few room =
      let found = held_found few room in
      rw (le-leb (place_start q + 398) (length (held_in tray q s)) (omega (arith, held_long tray q s)), le-leb (length_at (held_in tray q s) q) 396 (omega (arith, found.length_is)), found.sheet_is, found.rest_zeros)
      (and-true (good s))

-- ---- a place that was cleared

pub cleared_free : (tray : List ℕ) (q : ℕ) → place_start q + 398 ≤ length tray → free (cleared_in tray q) q ≡ true
unfolding cleared_in
cleared_free tray q room =
    let many : length (replicate {A = ℕ} 398 0) ≡ 398 = length-replicate {A = ℕ} 398 0 in
    let all : bytes_at (cleared_in tray q) q ≡ replicate 398 0 = laid_inside tray (place_start q) (replicate 398 0) (omega arith) in
    eq-eqb (length_at (cleared_in tray q) q) 0 (length_in (cleared_in tray q) q ∙ ap (λ (l : List ℕ). at2 l 0) all)

-- ---- the other places

pub record SamePlace (t u : List ℕ) (p : ℕ) : Type 0 where
  pub long : length t ≡ length u
  pub bytes : take 398 (drop (place_start p) t) ≡ take 398 (drop (place_start p) u)

others : (tray : List ℕ) (p q : ℕ) (x : List ℕ) → (p ≡ q → ⊥) → length x ≡ 398 → SamePlace (laid_over tray (place_start q) x) tray p
others tray p q x apart many = record { long = laid_long tray (place_start q) x; bytes = by_test (ltb p q) refl }
  where
    by_test : (t : Bool) → ltb p q ≡ t → bytes_at (laid_over tray (place_start q) x) p ≡ bytes_at tray p
    by_test true e = let before = ltb-true p q e in laid_before tray (place_start q) x (place_start p) 398 (omega arith)
    by_test false e =
        let after = ltb-false p q e in
        let further : q < p = omega arith in
        ap (take 398) (laid_after tray (place_start q) x (place_start p) (omega arith))

pub held_others : (tray : List ℕ) (p q : ℕ) (s : List ℕ) → (p ≡ q → ⊥) → SamePlace (held_in tray q s) tray p
held_others tray p q s apart =
    by_size tray q s (λ (l : List ℕ). SamePlace l tray p) (λ few. others tray p q (place_bytes s) apart (place_long s few)) (record { long = refl; bytes = refl })

pub cleared_others : (tray : List ℕ) (p q : ℕ) → (p ≡ q → ⊥) → SamePlace (cleared_in tray q) tray p
unfolding cleared_in
cleared_others tray p q apart = others tray p q (replicate 398 0) apart (length-replicate {A = ℕ} 398 0)

module _ (t u : List ℕ) (p : ℕ) (same : SamePlace t u p) where
  pub same_length_at : length_at t p ≡ length_at u p
  same_length_at = length_in t p ∙ ap (λ (l : List ℕ). at2 l 0) same.bytes ∙ sym (length_in u p)

  pub same_free : free t p ≡ free u p
  same_free = ap (λ (n : ℕ). eqb n 0) same_length_at

  module _ (few : length_at t p ≤ 396) where
    pub same_sheet : sheet_at t p ≡ sheet_at u p
    same_sheet =
        sheet_in t p few
        ∙ ap (λ (l : List ℕ). take (length_at t p) (drop 2 l)) same.bytes
        ∙ ap (λ (n : ℕ). take n (drop 2 (bytes_at u p))) same_length_at
        ∙ sym (sheet_in u p (omega (arith, same_length_at)))

    same_rest : rest_at t p ≡ rest_at u p
    same_rest =
        rest_in t p few
        ∙ ap (λ (l : List ℕ). take (396 - length_at t p) (drop (2 + length_at t p) l)) same.bytes
        ∙ ap (λ (n : ℕ). take (396 - n) (drop (2 + n) (bytes_at u p))) same_length_at
        ∙ sym (rest_in u p (omega (arith, same_length_at)))

  pub same_holds : holds_good t p ≡ holds_good u p
  unfolding holds_good
  same_holds = by_test (leb (length_at t p) 396) refl
    where
      by_test : (e : Bool) → leb (length_at t p) 396 ≡ e → holds_good t p ≡ holds_good u p
      by_test true e =
          let few = leb-true (length_at t p) 396 e in
          rw (same.long, same_sheet few, same_rest few, same_length_at)
      by_test false e =
          let many = leb-false (length_at t p) 396 e in
          simp (e, lt-leb (length_at u p) 396 (omega (arith, same_length_at)), and-false)

  pub same_sheet_held : holds_good t p ≡ true → sheet_at t p ≡ sheet_at u p
  same_sheet_held h = same_sheet (holds_says t p h).few
