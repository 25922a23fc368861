-- Laws of what is read of a decimal number (specs/Decimal.antt).
--   decimal_is                              a word is decimal if it leads well and is of digits: `no_leading_zero` and `digits`
--   value_grows, capped_sooner              a number with more digits is no smaller, so that it may be capped at each of them
--   value_on, value_over                    what the rest of a word adds to a value: with one byte more, and where the word is over
--   DecimalSoFar, decimal_loop              the loop of `decimal_in`, and its laws as a set for `search`
--   ValueSoFar, value_loop                  the loop of `value_in`, and its laws as a set
--   decimal_there, decimal_past             what `decimal_at` says of the word that stands at a place, and past the text
-- Assumes nothing.
use Rattle.std.proofs.Common.{Option, None, Some, ◌⊎◌, inl, inr}
use Rattle.std.specs.List.{slice_range}
use Rattle.std.specs.Option.{is_some}
use mathlib.Core.Path.{◌≡◌, refl, sym, ap, ◌∙◌}
use mathlib.Core.List.{List, [], ◌∷◌}
use mathlib.Core.Bool.{Bool, true, false, cond, ◌&&◌, and_comm}
use Prim.Native.Nat.{ℕ, suc, ◌+◌, ◌*◌, ◌-◌, ◌<◌, ◌≤◌, min}
use native.Mathlib.Omega.{arith}
use native.Mathlib.Numerals.{add-one}
use lib.Dec.{leb}
use lib.ListN.{length, get_or, take, drop, drop_of_length-le}
use lib.Seq.{drop-cons}
use borrow.Author.Tests.{leb-true, leb-false}
use Rattle.text.specs.Separated.{first_part}
use Rattle.text.specs.Decimal.{is_digit, digits, no_leading_zero, is_decimal, value_from, value, beyond, decimal_in, decimal_at}
use Rattle.text.proofs.Laws.Parts.{part_past, part_taken, part_room}

pub decimal_is : (word : List ℕ) → is_decimal word ≡ no_leading_zero word && digits word
unfolding is_decimal
decimal_is word = and_comm (digits word) (no_leading_zero word)

-- ---- the value, capped

pub value_grows : (v : ℕ) (word : List ℕ) → v ≤ value_from v word
unfolding value_from
value_grows v [] = omega arith
value_grows v (b ∷ bs) = let more = value_grows (10 * v + (b - 48)) bs in omega arith

pub capped_sooner : (v : ℕ) (word : List ℕ) → min (value_from (min v beyond) word) beyond ≡ min (value_from v word) beyond
capped_sooner v word = by_size (leb v beyond) refl
  where
    by_size : (t : Bool) → leb v beyond ≡ t → min (value_from (min v beyond) word) beyond ≡ min (value_from v word) beyond
    by_size true e =
        let small = leb-true v beyond e in
        let same : min v beyond ≡ v = omega arith in
        rw same
    by_size false e =
        let large = leb-false v beyond e in
        let all = value_grows v word in
        let capped = value_grows (min v beyond) word in
        omega arith

-- the value so far, with what the rest of the word adds to it
module _ (word : List ℕ) (v i : ℕ) where
  pub value_on : i < length word → (next : ℕ) → next ≡ min (10 * v + (get_or word i 0 - 48)) beyond
      → min (value_from v (drop i word)) beyond ≡ min (value_from next (drop (i + 1) word)) beyond
  unfolding value_from
  value_on h next more =
      ap (λ (w : List ℕ). min (value_from v w) beyond) (drop-cons word i 0 h)
      ∙ sym (capped_sooner (10 * v + (get_or word i 0 - 48)) (drop (suc i) word))
      ∙ rw (more, add-one)

  pub value_over : length word ≤ i → min (value_from v (drop i word)) beyond ≡ min v beyond
  unfolding value_from
  value_over h = ap (λ (w : List ℕ). min (value_from v w) beyond) (drop_of_length-le word h)

pub not_leading : (word : List ℕ) → no_leading_zero word ≡ false → None ≡ decimal_in word
unfolding decimal_in
not_leading word t = rw (decimal_is word, t)

-- ---- the loop

-- the word leads well, and the digits so far, which make v, stand before the rest of it
pub record DecimalSoFar (word : List ℕ) (v i : ℕ) : Type 0 where
  pub not_more : v ≤ beyond
  pub leads : no_leading_zero word ≡ true
  pub all_digits : digits word ≡ digits (drop i word)
  pub value_is : min (value word) beyond ≡ min (value_from v (drop i word)) beyond

module _ (word : List ℕ) where
  pub decimal_begun : no_leading_zero word ≡ true → DecimalSoFar word 0 0
  unfolding value
  decimal_begun lead = record { not_more = omega arith; leads = lead; all_digits = refl; value_is = refl }

  module _ (v i : ℕ) (so : DecimalSoFar word v i) where
    pub decimal_turned : i < length word → is_digit (get_or word i 0) ≡ true → (d : ℕ) → d ≡ get_or word i 0 - 48 → (next : ℕ) → next ≡ min (10 * v + d) beyond → DecimalSoFar word next (i + 1)
    decimal_turned h is d digit next more =
        record {
          not_more = omega arith;
          leads = so.leads;
          all_digits = so.all_digits ∙ ap digits (drop-cons word i 0 h) ∙ rw (is, add-one);
          value_is = so.value_is ∙ value_on word v i h next (rw (more, digit));
        }

    pub decimal_other : i < length word → is_digit (get_or word i 0) ≡ false → None ≡ decimal_in word
    unfolding decimal_in
    decimal_other h is =
        let none : digits word ≡ false = so.all_digits ∙ ap digits (drop-cons word i 0 h) ∙ rw is in
        rw (decimal_is word, so.leads, none)

    pub decimal_ended : length word ≤ i → Some v ≡ decimal_in word
    unfolding decimal_in
    decimal_ended h =
        let all : digits word ≡ true = so.all_digits ∙ ap digits (drop_of_length-le word h) in
        let v_is : min (value word) beyond ≡ v = omega (arith, so.value_is, value_over word v i h, so.not_more) in
        rw (decimal_is word, so.leads, all, v_is)

pub ruleset decimal_loop = (not_leading, decimal_begun, decimal_turned, decimal_other, decimal_ended)

-- ---- the value of any word

-- the bytes so far make v, and the rest of the word the rest
pub record ValueSoFar (word : List ℕ) (v i : ℕ) : Type 0 where
  pub not_more : v ≤ beyond
  pub value_is : min (value word) beyond ≡ min (value_from v (drop i word)) beyond

module _ (word : List ℕ) where
  pub value_begun : ValueSoFar word 0 0
  unfolding value
  value_begun = record { not_more = omega arith; value_is = refl }

  module _ (v i : ℕ) (so : ValueSoFar word v i) where
    pub value_turned : i < length word → (next : ℕ) → next ≡ min (10 * v + (get_or word i 0 - 48)) beyond → ValueSoFar word next (i + 1)
    value_turned h next more = record { not_more = omega arith; value_is = so.value_is ∙ value_on word v i h next more }

    pub value_ended : length word ≤ i → v ≡ min (value word) beyond
    value_ended h = omega (arith, so.value_is, value_over word v i h, so.not_more)

pub ruleset value_loop = (value_begun, value_turned, value_ended)

-- ---- the word at a place

-- whether `decimal_in` finds a number
finds : (t : Bool) (v : ℕ) → is_some (cond t (Some v) None) ≡ t
finds true v = refl
finds false v = refl

module _ (sep : ℕ) (s : List ℕ) (from end : ℕ) (ends : end ≡ from + length (first_part sep (drop from s))) where
  pub decimal_there : (word : List ℕ) → word ≡ slice_range s from end → (found : Option ℕ) → found ≡ decimal_in word → (ok : Bool) → ok ≡ is_some found → (v : ℕ) → v ≡ min (value word) beyond
      → record { ok = ok; value = v; end = end } ≡ decimal_at sep s from
  unfolding decimal_at decimal_in
  decimal_there word is found finding ok there v worth =
      let first = first_part sep (drop from s) in
      let size : end - from ≡ length first = omega (arith, ends) in
      let whole : word ≡ first = is ∙ ap (λ (k : ℕ). take k (drop from s)) size ∙ sym (part_taken sep (drop from s)) in
      let decides : ok ≡ is_decimal first = there ∙ ap is_some finding ∙ finds (is_decimal word) (min (value word) beyond) ∙ ap is_decimal whole in
      let counts : v ≡ min (value first) beyond = worth ∙ ap (λ (w : List ℕ). min (value w) beyond) whole in
      rw (decides, counts, ends)

  pub decimal_past : (end < from) ⊎ (length s < end) → record { ok = false; value = 0; end = end } ≡ decimal_at sep s from
  unfolding decimal_at is_decimal value value_from
  decimal_past out =
      let none = part_past sep s from (beyond_text out) in
      let at : end ≡ from + 0 = ends ∙ ap (λ (w : List ℕ). from + length w) none in
      rw (none, at)
    where
      beyond_text : (end < from) ⊎ (length s < end) → length s ≤ from
      beyond_text (inl low) = omega (arith, ends)
      beyond_text (inr high) = omega (arith, ends, part_room sep s from)
