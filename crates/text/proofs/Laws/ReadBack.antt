-- Laws of what is printed of a number (specs/Decimal.antt).
--   printed_reads_back : PrintedReadsBack (specs/Promises.antt)
--   read_prints_back : ReadPrintsBack (specs/Promises.antt)
-- Assumes nothing.
use mathlib.Core.Path.{◌≡◌, refl, ap, ◌∙◌}
use mathlib.Core.List.{List, [], ◌∷◌, ◌++◌, append-nil}
use mathlib.Core.Bool.{Bool, true, false, cond, not, ◌||◌, false≢true}
use Prim.Native.Nat.{ℕ, zero, suc, ◌+◌, ◌*◌, ◌-◌, ◌/◌, ◌%◌, ◌<◌, ◌≤◌, ◌^◌}
use native.Mathlib.Omega.{arith}
use native.Mathlib.Nat.{add-zero, mul-le-mul_right, pow-le-pow_right, pow-succ'}
use lib.Dec.{eqb, leb, ltb}
use lib.ListN.{length}
use borrow.Author.Tests.{le-leb, leb-true, leb-false, ltb-true, ltb-false, le-ltb, lt-ltb, ne_eqb, eqb-true, eqb-false}
use Rattle.numbers.proofs.Tests.{tested}
use Rattle.text.specs.Decimal.{is_digit, digits, no_leading_zero, is_decimal, value_from, value, digits_onto, decimal}
use Rattle.text.specs.Promises.{PrintedReadsBack, ReadPrintsBack}
use Rattle.text.proofs.Laws.Parts.{empty}
use Rattle.text.proofs.Laws.Decimal.{decimal_is}

-- ---- printed, and read

value_step : (k : ℕ) (tail more : List ℕ) → value_from 0 more ≡ value_from (k / 10) ((48 + k % 10) ∷ tail) → (t : Bool) → ltb k 10 ≡ t
    → value_from 0 (cond t ((48 + k % 10) ∷ tail) more) ≡ value_from k tail
unfolding value_from
value_step k tail more is true e =
    let small = ltb-true k 10 e in
    let all : 10 * 0 + (48 + k % 10 - 48) ≡ k = omega arith in
    ap (λ (v : ℕ). value_from v tail) all
value_step k tail more is false e =
    let all : 10 * (k / 10) + (48 + k % 10 - 48) ≡ k = omega arith in
    is ∙ ap (λ (v : ℕ). value_from v tail) all

value_back : (most k : ℕ) (tail : List ℕ) → k < 10 ^ most → value_from 0 (digits_onto most k tail) ≡ value_from k tail
unfolding digits_onto
value_back zero k tail h = let none : k ≡ 0 = omega arith in rw none
value_back (suc most) k tail h =
    let less : k / 10 < 10 ^ most = omega (arith, pow-succ' 10 most) in
    value_step k tail (digits_onto most (k / 10) ((48 + k % 10) ∷ tail)) (value_back most (k / 10) ((48 + k % 10) ∷ tail) less) (ltb k 10) refl

last_digit : (k : ℕ) → is_digit (48 + k % 10) ≡ true
last_digit k = rw (le-leb 48 (48 + k % 10) (omega arith), le-leb (48 + k % 10) 57 (omega arith))

either : (t : Bool) (one other : List ℕ) → digits one ≡ true → digits other ≡ true → digits (cond t one other) ≡ true
either true one other a b = a
either false one other a b = b

digits_back : (most k : ℕ) (tail : List ℕ) → digits tail ≡ true → digits (digits_onto most k tail) ≡ true
unfolding digits_onto
digits_back zero k tail t = t
digits_back (suc most) k tail t =
    let one : digits ((48 + k % 10) ∷ tail) ≡ true = rw (last_digit k) t in
    either (ltb k 10) ((48 + k % 10) ∷ tail) (digits_onto most (k / 10) ((48 + k % 10) ∷ tail)) one (digits_back most (k / 10) ((48 + k % 10) ∷ tail) one)

leads_step : (k : ℕ) (tail more : List ℕ) → 1 ≤ k → (10 ≤ k → no_leading_zero more ≡ true) → (t : Bool) → ltb k 10 ≡ t → no_leading_zero (cond t ((48 + k % 10) ∷ tail) more) ≡ true
leads_step k tail more some is true e =
    let small = ltb-true k 10 e in
    rw (ne_eqb (48 + k % 10) 48 (λ z. omega arith))
leads_step k tail more some is false e = is (ltb-false k 10 e)

leads_back : (most k : ℕ) (tail : List ℕ) → 1 ≤ k → k < 10 ^ most → no_leading_zero (digits_onto most k tail) ≡ true
unfolding digits_onto
leads_back zero k tail some h = absurd (omega arith)
leads_back (suc most) k tail some h =
    let less : k / 10 < 10 ^ most = omega (arith, pow-succ' 10 most) in
    leads_step k tail (digits_onto most (k / 10) ((48 + k % 10) ∷ tail)) some
    (λ (l : 10 ≤ k). leads_back most (k / 10) ((48 + k % 10) ∷ tail) (omega arith) less) (ltb k 10) refl

leads_all : (k : ℕ) → k < 10 ^ 10 → no_leading_zero (decimal k) ≡ true
unfolding decimal digits_onto
leads_all zero h = refl
leads_all (suc k) h = leads_back 10 (suc k) [] (omega arith) h

pub printed_reads_back : PrintedReadsBack
unfolding decimal value value_from
printed_reads_back k h =
    record {
      is_decimal_lem = decimal_is (decimal k) ∙ rw (leads_all k h) (digits_back 10 k [] refl);
      same_number = value_back 10 k [] h;
    }

-- ---- read, and printed

ten_times : (v d p x : ℕ) → (10 * v + d) * p ≤ x → v * (10 * p) ≤ x
ten_times v d p x h = omega arith

-- as many digits more make at least so many times the number
value_least : (v : ℕ) (word : List ℕ) → v * 10 ^ length word ≤ value_from v word
unfolding value_from
value_least v [] = omega arith
value_least v (b ∷ bs) =
    rw (pow-succ' 10 (length bs)) (ten_times v (b - 48) (10 ^ length bs) (value_from (10 * v + (b - 48)) bs) (value_least (10 * v + (b - 48)) bs))

-- printing takes the digits off again, from the last to the first of them
print_step : (m v b : ℕ) (tail : List ℕ) → 1 ≤ v → is_digit b ≡ true → digits_onto (suc m) (10 * v + (b - 48)) tail ≡ digits_onto m v (b ∷ tail)
unfolding digits_onto
print_step m v b tail some d =
    let low : 48 ≤ b = search tested in
    let high : b ≤ 57 = search tested in
    let front : (10 * v + (b - 48)) / 10 ≡ v = omega arith in
    let last : 48 + (10 * v + (b - 48)) % 10 ≡ b = omega arith in
    rw (le-ltb (10 * v + (b - 48)) 10 (omega arith), front, last)

prints_on : (m v : ℕ) (word tail : List ℕ) → 1 ≤ v → digits word ≡ true → digits_onto (m + length word) (value_from v word) tail ≡ digits_onto m v (word ++ tail)
unfolding value_from
prints_on m v [] tail some d = ap (λ (n : ℕ). digits_onto n v tail) (add-zero m)
prints_on m v (b ∷ bs) tail some d =
    let count : m + suc (length bs) ≡ suc m + length bs = omega arith in
    ap (λ (n : ℕ). digits_onto n (value_from (10 * v + (b - 48)) bs) tail) count
    ∙ prints_on (suc m) (10 * v + (b - 48)) bs tail (omega arith) (search tested)
    ∙ print_step m v b (bs ++ tail) some (search tested)

-- a number of one digit
print_one : (m b : ℕ) (tail : List ℕ) → is_digit b ≡ true → digits_onto (suc m) (b - 48) tail ≡ b ∷ tail
unfolding digits_onto
print_one m b tail d =
    let low : 48 ≤ b = search tested in
    let high : b ≤ 57 = search tested in
    let last : 48 + (b - 48) % 10 ≡ b = omega arith in
    rw (lt-ltb (b - 48) 10 (omega arith), last)

above : {b : ℕ} → 48 ≤ b → (b ≡ 48 → ⊥) → 1 ≤ b - 48
above low other = omega arith

-- a number below 10,000,000,000 that does not begin with a 0 has 10 digits at most
few_digits : (v : ℕ) (word : List ℕ) → 1 ≤ v → value_from v word < 10 ^ 10 → length word ≤ 9
few_digits v word some h = by_length (leb (length word) 9) refl
  where
    by_length : (t : Bool) → leb (length word) 9 ≡ t → length word ≤ 9
    by_length true e = leb-true (length word) 9 e
    by_length false e =
        let long : 10 ≤ length word = leb-false (length word) 9 e in
        let power : 10 ^ 10 ≤ 10 ^ length word = pow-le-pow_right {n = 10} (omega arith) long in
        absurd (omega (arith, value_least v word, mul-le-mul_right (10 ^ length word) some))

prints_word : (b : ℕ) (bs : List ℕ) → is_digit b ≡ true → digits bs ≡ true → (z : Bool) → eqb b 48 ≡ z → not z || eqb (length bs) 0 ≡ true → value (b ∷ bs) < 10 ^ 10
    → decimal (value (b ∷ bs)) ≡ b ∷ bs
unfolding decimal value value_from
prints_word b bs d ds true e lead h =
    let alone = empty bs (eqb-true (length bs) 0 lead) in
    let same : 10 * 0 + (b - 48) ≡ b - 48 = omega arith in
    rw alone (ap (λ (v : ℕ). digits_onto 10 v []) same ∙ print_one 9 b [] d)
prints_word b bs d ds false e lead h =
    let low : 48 ≤ b = search tested in
    let first : 1 ≤ b - 48 = above low (eqb-false b 48 e) in
    let same : 10 * 0 + (b - 48) ≡ b - 48 = omega arith in
    let small : value_from (b - 48) bs < 10 ^ 10 = rw same at h in
    let few = few_digits (b - 48) bs first small in
    let count : 10 ≡ suc (9 - length bs) + length bs = omega arith in
    ap (λ (n : ℕ). digits_onto n (value_from (10 * 0 + (b - 48)) bs) []) count
    ∙ ap (λ (v : ℕ). digits_onto (suc (9 - length bs) + length bs) (value_from v bs) []) same
    ∙ prints_on (suc (9 - length bs)) (b - 48) bs [] first ds
    ∙ print_one (9 - length bs) b (bs ++ []) d
    ∙ ap (λ (l : List ℕ). b ∷ l) (append-nil bs)

pub read_prints_back : ReadPrintsBack
unfolding is_decimal
read_prints_back [] t h = absurd (false≢true t)
read_prints_back (b ∷ bs) t h = prints_word b bs (search tested) (search tested) (eqb b 48) refl (search tested) h
