-- Laws of `decimal` and `digits_onto` (specs/Decimal.antt).
--   length_onto                    in front of a tail stand no more digits than the most that there may be
--   decimal_fits                   a number below 10 ^ w has w digits at most, where w is 1 or more
--   decimal_ten, decimal_three     there are 10 digits at most, and for a number of 8 bits 3
--   PrintedSoFar, printed_begun, printed_turned, printed_laid
--                                  the loop that makes the digits, the last one first, and what is laid of them
-- Assumes nothing.
use mathlib.Core.Path.{◌≡◌, refl, sym, ap, ◌∙◌}
use mathlib.Core.Bool.{Bool, true, false, cond}
use mathlib.Core.List.{List, [], ◌∷◌}
use Prim.Native.Nat.{ℕ, zero, suc, ◌+◌, ◌*◌, ◌-◌, ◌/◌, ◌%◌, ◌^◌, ◌<◌, ◌≤◌, max}
use native.Mathlib.Nat.{pow-succ', one-le-pow}
use native.Mathlib.Omega.{arith}
use lib.Dec.{ltb}
use lib.ListN.{length, set, take, drop, length-set}
use lib.Seq.{set_split, length-take-le, drop_at}
use borrow.Author.Tests.{lt-ltb, le-ltb}
use Rattle.text.specs.Decimal.{digits_onto, decimal}

-- ---- one digit

module _ (most k : ℕ) (tail : List ℕ) where
  onto_last : k < 10 → digits_onto (suc most) k tail ≡ (48 + k) ∷ tail
  unfolding digits_onto
  onto_last h =
      let same : k % 10 ≡ k = omega arith in
      rw (lt-ltb k 10 h, same)

  onto_more : 10 ≤ k → digits_onto (suc most) k tail ≡ digits_onto most (k / 10) ((48 + k % 10) ∷ tail)
  unfolding digits_onto
  onto_more h = rw (le-ltb k 10 h)

-- ---- how many digits there are

-- of two lists that are not too long, neither choice is
one_of : (t : Bool) (n : ℕ) (x y : List ℕ) → length x ≤ n → length y ≤ n → length (cond t x y) ≤ n
one_of true n x y hx hy = hx
one_of false n x y hx hy = hy

pub length_onto : (most k : ℕ) (tail : List ℕ) → length (digits_onto most k tail) ≤ most + length tail
unfolding digits_onto
length_onto zero k tail = omega arith
length_onto (suc most) k tail =
    let d : ℕ = 48 + k % 10 in
    one_of (ltb k 10) (suc most + length tail) (d ∷ tail) (digits_onto most (k / 10) (d ∷ tail)) (omega arith) (omega (arith, length_onto most (k / 10) (d ∷ tail)))

onto_fits : (w most k : ℕ) (tail : List ℕ) → k < 10 ^ suc w → length (digits_onto most k tail) ≤ suc w + length tail
unfolding digits_onto
onto_fits w zero k tail h = omega arith
onto_fits zero (suc most) k tail h = rw (lt-ltb k 10 (omega arith)) (omega arith)
onto_fits (suc w) (suc most) k tail h =
    let d : ℕ = 48 + k % 10 in
    let low : k / 10 < 10 ^ suc w = omega arith in
    one_of (ltb k 10) (suc (suc w) + length tail) (d ∷ tail) (digits_onto most (k / 10) (d ∷ tail)) (omega arith) (omega (arith, onto_fits w most (k / 10) (d ∷ tail) low))

pub decimal_fits : (w k : ℕ) → 1 ≤ w → k < 10 ^ w → length (decimal k) ≤ w
unfolding decimal
decimal_fits zero k least h = omega arith
decimal_fits (suc w) k least h = omega (arith, onto_fits w 10 k [] h)

pub decimal_ten : (k : ℕ) → length (decimal k) ≤ 10
unfolding decimal
decimal_ten k = omega (arith, length_onto 10 k [])

pub decimal_three : (k : ℕ) → k < 256 → length (decimal k) ≤ 3
decimal_three k h = decimal_fits 3 k (omega arith) (omega arith)

-- ---- the loop

-- a number below 10 ^ w needs no more than w digits
enough : (w more k : ℕ) (tail : List ℕ) → k < 10 ^ suc w → digits_onto (suc w + more) k tail ≡ digits_onto (suc w) k tail
unfolding digits_onto
enough zero more k tail h = let count : suc zero + more ≡ suc more = omega arith in rw (count, lt-ltb k 10 (omega arith))
enough (suc w) more k tail h =
    let count : suc (suc w) + more ≡ suc (suc w + more) = omega arith in
    rw count (ap (cond (ltb k 10) ((48 + k % 10) ∷ tail)) (enough w more (k / 10) ((48 + k % 10) ∷ tail) (omega arith)))

-- the digits from i on are there, `count` in all, and those of `left` belong in front of them
pub record PrintedSoFar (k count : ℕ) (digits : List ℕ) (left i : ℕ) : Type 0 where
  pub some_count : 1 ≤ count
  pub most : count ≤ 10
  pub place : i ≤ count
  pub few : left < 10 ^ i
  pub many : 2 ≤ i → 10 ^ (i - 1) ≤ left
  pub long : length digits ≡ 10
  pub rest : decimal k ≡ digits_onto i left (take (count - i) (drop i digits))

drop_set : (l : List ℕ) (i a : ℕ) → i < length l → drop i (set l i a) ≡ a ∷ drop (suc i) l
drop_set l i a h = ap (drop i) (set_split l i a h) ∙ drop_at (take i l) (a ∷ drop (suc i) l) i (length-take-le i l (omega arith))

onto_turned : (i left : ℕ) (tail : List ℕ) → (1 ≤ i → 10 ≤ left) → digits_onto (suc i) left tail ≡ digits_onto i (left / 10) ((48 + left % 10) ∷ tail)
unfolding digits_onto
onto_turned zero left tail h = by_test (ltb left 10)
  where
    by_test : (t : Bool) → cond t ((48 + left % 10) ∷ tail) ((48 + left % 10) ∷ tail) ≡ (48 + left % 10) ∷ tail
    by_test true = refl
    by_test false = refl
onto_turned (suc i) left tail h = onto_more (suc i) left tail (h (omega arith))

module _ (k : ℕ) where
  pub printed_begun : (r : ℕ) (digits : List ℕ) → 10 ^ r ≤ max k 1 → max k 1 < 10 * 10 ^ r → r < 10 → length digits ≡ 10 → PrintedSoFar k (suc r) digits k (suc r)
  unfolding decimal
  printed_begun r digits low high small long =
      let few : k < 10 ^ suc r = omega (arith, pow-succ' 10 r) in
      let none : suc r - suc r ≡ 0 = omega arith in
      let count : 10 ≡ suc r + (9 - r) = omega arith in
      record {
        some_count = omega arith;
        most = omega arith;
        place = omega arith;
        few = few;
        many = λ two. least r low two;
        long = long;
        rest = ap (λ (n : ℕ). digits_onto n k []) count ∙ enough r (9 - r) k [] few ∙ rw none;
      }
    where
      least : (r : ℕ) → 10 ^ r ≤ max k 1 → 2 ≤ suc r → 10 ^ (suc r - 1) ≤ k
      least zero low two = absurd (omega arith)
      least (suc q) low two =
          let back : suc (suc q) - 1 ≡ suc q = omega arith in
          let some : 1 ≤ 10 ^ q = one-le-pow q 10 (omega arith) in
          rw back (omega (arith, pow-succ' 10 q))

  module _ (count : ℕ) (digits : List ℕ) (left : ℕ) where
    turned : (i : ℕ) → PrintedSoFar k count digits left (suc i) → PrintedSoFar k count (set digits i (48 + left % 10)) (left / 10) i
    turned i so =
        let d : ℕ = 48 + left % 10 in
        let further : count - i ≡ suc (count - suc i) = omega (arith, so.place) in
        record {
          some_count = so.some_count;
          most = so.most;
          place = omega (arith, so.place);
          few = omega (arith, so.few, pow-succ' 10 i);
          many = fewer i so.many;
          long = length-set digits i d ∙ so.long;
          rest =
              so.rest
              ∙ onto_turned i left (take (count - suc i) (drop (suc i) digits)) (λ some. ten i some so.many)
              ∙ rw (drop_set digits i d (omega (arith, so.place, so.most, so.long)), further);
        }
      where
        ten : (i : ℕ) → 1 ≤ i → (2 ≤ suc i → 10 ^ (suc i - 1) ≤ left) → 10 ≤ left
        ten zero some many = absurd (omega arith)
        ten (suc q) some many =
            let back : suc (suc q) - 1 ≡ suc q = omega arith in
            let one : 1 ≤ 10 ^ q = one-le-pow q 10 (omega arith) in
            omega (arith, rw back at many (omega arith), pow-succ' 10 q)

        fewer : (i : ℕ) → (2 ≤ suc i → 10 ^ (suc i - 1) ≤ left) → 2 ≤ i → 10 ^ (i - 1) ≤ left / 10
        fewer zero many two = absurd (omega arith)
        fewer (suc q) many two =
            let back : suc (suc q) - 1 ≡ suc q = omega arith in
            let back' : suc q - 1 ≡ q = omega arith in
            rw back' (omega (arith, rw back at many (omega arith), pow-succ' 10 q))

    pub printed_turned : (i : ℕ) → PrintedSoFar k count digits left i → 0 < i → PrintedSoFar k count (set digits (i - 1) (48 + left % 10)) (left / 10) (i - 1)
    printed_turned zero so h = absurd (omega arith)
    printed_turned (suc i) so h = let back : suc i - 1 ≡ i = omega arith in rw back (turned i so)

    laid : PrintedSoFar k count digits left 0 → (take count digits ≡ decimal k) × (count ≡ length (decimal k))
    unfolding digits_onto
    laid so =
        let all : count - 0 ≡ count = omega arith in
        let same : decimal k ≡ take count digits = so.rest ∙ ap (λ (n : ℕ). take n digits) all in
        (sym same, omega (arith, ap length same, length-take-le count digits (omega (arith, so.most, so.long))))

    pub printed_laid : (i : ℕ) → PrintedSoFar k count digits left i → i ≤ 0 → (take count digits ≡ decimal k) × (count ≡ length (decimal k))
    printed_laid zero so h = laid so
    printed_laid (suc i) so h = absurd (omega arith)
