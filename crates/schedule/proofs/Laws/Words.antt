-- Laws of the words of a line (specs/Words.antt), and of what the functions of src/words.rt answer of one (specs/Parts.antt).
--   not_before                                     a test and its contrary
--   capped_test                                    a test of a capped value is the value's
--   most_of                                        a value that passed a test is within it
--   cut_here, cut_none                             what `cut` answers; cuts: both, as a set for `search`
--   Spaced, by_last                                a text with a space in it is no word of any kind, so the last word may be read in all that is left
--   one_byte                                       a word of one byte
--   told, not_told                                 what an answer under a test tells of the test
-- Assumes nothing.
use Rattle.std.proofs.Common.{None, Some}
use Rattle.std.proofs.lemmas.Bool.{false≢true}
use Rattle.std.specs.List.{join_with_byte}
use Rattle.std.proofs.lemmas.List.Splits.{join_with_byte-slice_split}
use mathlib.Core.Path.{◌≡◌, refl, sym, ap, ◌∙◌}
use mathlib.Core.List.{List, [], ◌∷◌}
use mathlib.Core.Bool.{Bool, true, false, cond, not, ◌&&◌, and-false}
use mathlib.Core.Option.{Option, none}
use Prim.Native.Nat.{ℕ, ◌+◌, ◌-◌, ◌<◌, ◌≤◌, min}
use Prim.Native.String.{String}
use native.Mathlib.Omega.{arith}
use lib.Dec.{eqb, leb, ltb}
use lib.ListN.{length, get_or, take, drop, length-drop}
use lib.Seq.{take_all}
use borrow.Author.Tests.{ltb-true, ltb-false, leb-true, leb-false, le-leb, lt-leb, lt-ltb, le-ltb, eqb-true}
use Rattle.numbers.specs.Limits.{within}
use Rattle.numbers.proofs.Tests.{and_split, tested}
use Rattle.text.specs.Text.{text}
use Rattle.text.specs.Separated.{parts, first_part, onto_first, space, minus}
use Rattle.text.specs.Decimal.{is_digit, digits, is_decimal, value, beyond}
use Rattle.text.proofs.Laws.Parts.{behind, parts_split, part_taken, parts_are}
use Rattle.schedule.specs.Words.{words, same, is, is_number, is_day_word, is_content_word}
use Rattle.schedule.specs.Start.{mode_in}

-- ---- tests

-- a place that is not before another is not below it
pub not_before : (a b : ℕ) → not (ltb a b) ≡ leb b a
not_before a b = by_test (ltb a b) refl
  where
    by_test : (t : Bool) → ltb a b ≡ t → not t ≡ leb b a
    by_test true e = sym (lt-leb b a (ltb-true a b e))
    by_test false e = sym (le-leb b a (ltb-false a b e))

pub capped_test : (v k : ℕ) → k < beyond → leb (min v beyond) k ≡ leb v k
capped_test v k h = by_test (leb v k) refl
  where
    by_test : (t : Bool) → leb v k ≡ t → leb (min v beyond) k ≡ leb v k
    by_test true e = let l = leb-true v k e in le-leb (min v beyond) k (omega arith) ∙ sym e
    by_test false e = let l = leb-false v k e in lt-leb (min v beyond) k (omega arith) ∙ sym e

-- what a test leaves to know of a value: a rule for `omega`
pub most_of : (a : Bool) (v most : ℕ) → a && leb v most ≡ true → v ≤ most
most_of a v most t = search tested

-- ---- cut

-- a line, and where its first part ends, as `part_end` says it
module _ (line : List ℕ) (end : ℕ) (ends : end ≡ 0 + length (first_part space (drop 0 line))) where
  size : length (first_part space line) ≡ end
  size = omega (arith, ends)

  split : (t : Bool) → ltb end (length line) ≡ t → words line ≡ take end line ∷ cond t (words (drop (end + 1) line)) []
  split t e =
      parts_split space line
      ∙ ap (λ (k : ℕ). first_part space line ∷ behind space line k) size
      ∙ ap (λ (u : Bool). first_part space line ∷ cond u (words (drop (end + 1) line)) []) e
      ∙ ap (λ (w : List ℕ). w ∷ cond t (words (drop (end + 1) line)) []) (part_taken space line ∙ ap (λ (k : ℕ). take k line) size)

  pub cut_here : end < length line → words line ≡ take end line ∷ words (take (length line - (end + 1)) (drop (end + 1) line))
  cut_here h =
      split true (lt-ltb end (length line) h)
      ∙ ap (λ (r : List ℕ). take end line ∷ words r) (sym (take_all (length line - (end + 1)) (drop (end + 1) line) (omega (arith, length-drop (end + 1) line))))

  pub cut_none : length line ≤ end → words line ≡ line ∷ []
  cut_none h = split false (le-ltb end (length line) h) ∙ ap (λ (w : List ℕ). w ∷ []) (take_all end line h)

pub ruleset cuts = (cut_here, cut_none)

-- ---- the last word

-- a text with a space in it is no word
pub record Spaced (l : List ℕ) : Type 0 where
  pub no_number : is_number l ≡ false
  pub no_content : is_content_word l ≡ false
  pub no_mode : mode_in l ≡ none

no_digits : (s : List ℕ) → 2 ≤ length (words s) → digits s ≡ false
unfolding parts
no_digits [] h = absurd (omega arith)
no_digits (b ∷ bs) h = by_byte (eqb b space) refl h (no_digits bs)
  where
    by_byte : (t : Bool) → eqb b space ≡ t → 2 ≤ length (cond t ([] ∷ parts space bs) (onto_first b (parts space bs)))
        → (2 ≤ length (words bs) → digits bs ≡ false) → is_digit b && digits bs ≡ false
    by_byte true e h more = rw (eqb-true b space e)
    by_byte false e h more =
        let first = parts_split space bs in
        rw (more (omega (arith, ap length first, ap (λ (l : List (List ℕ)). length (onto_first b l)) first))) (and-false (is_digit b))

no_decimal : (s : List ℕ) → 2 ≤ length (words s) → is_decimal s ≡ false
unfolding is_decimal
no_decimal s h = rw (no_digits s h)

same_is : (word other : List ℕ) → same word other ≡ true → word ≡ other
same_is [] [] t = refl
same_is [] (b ∷ bs) t = absurd (false≢true t)
same_is (a ∷ rest) [] t = absurd (false≢true t)
same_is (a ∷ rest) (b ∷ bs) t =
    let both = and_split (eqb a b) (same rest bs) t in
    let first = eqb-true a b both.0 in
    let others = same_is rest bs both.1 in
    cc

no_text : (t : String) (word : List ℕ) → length (words (text t)) ≡ 1 → 2 ≤ length (words word) → is t word ≡ false
unfolding is
no_text t word one many = by_test (same word (text t)) refl
  where
    by_test : (u : Bool) → same word (text t) ≡ u → u ≡ false
    by_test true e = absurd (omega (arith, ap (λ (w : List ℕ). length (words w)) (same_is word (text t) e)))
    by_test false e = refl

no_day : (word : List ℕ) → 2 ≤ length (words word) → is_day_word word ≡ false
unfolding is_day_word parts
no_day [] h = refl
no_day (b ∷ bs) h = by_byte (eqb b minus) refl (within 1 2147483648 (value bs)) (leb (value (b ∷ bs)) 2147483647)
  where
    by_byte : (t : Bool) → eqb b minus ≡ t → (u v : Bool) → cond t (is_decimal bs && u) (is_decimal (b ∷ bs) && v) ≡ false
    by_byte true e u v =
        let onto : 2 ≤ length (words (minus ∷ bs)) = rw (eqb-true b minus e) at h in
        let first = parts_split space bs in
        rw (no_decimal bs (omega (arith, ap length first, ap (λ (l : List (List ℕ)). length (onto_first minus l)) first)))
    by_byte false e u v = rw (no_decimal (b ∷ bs) h)

spaced : (l : List ℕ) → 2 ≤ length (words l) → Spaced l
unfolding is_number is_content_word mode_in parts
spaced l h =
    record {
      no_number = rw (no_decimal l h);
      no_content = rw (no_text "open" l refl h, no_day l h);
      no_mode = rw (no_text "s" l refl h, no_text "c" l refl h, no_text "k" l refl h, no_text "-" l refl h);
    }

pub by_last : {A : Type 0} (f : List (List ℕ) → Option A) (l : List ℕ) → ((a b : List ℕ) (ps : List (List ℕ)) → f (a ∷ b ∷ ps) ≡ none) → (Spaced l → f (l ∷ []) ≡ none)
    → f (words l) ≡ f (l ∷ [])
by_last f l long alone = by_words (words l) refl
  where
    by_words : (ws : List (List ℕ)) → words l ≡ ws → f ws ≡ f (l ∷ [])
    by_words [] e = absurd (omega (arith, ap length e, ap length (parts_split space l)))
    by_words (w ∷ []) e =
        ap (λ (v : List ℕ). f (v ∷ [])) (ap (join_with_byte space) (sym e ∙ parts_are space l) ∙ join_with_byte-slice_split space l)
    by_words (a ∷ b ∷ ps) e = long a b ps ∙ sym (alone (spaced l (omega (arith, ap length e))))

-- ---- a word of one byte

pub one_byte : (word : List ℕ) (k : ℕ) → 1 ≤ length word → length word < 2 → get_or word 0 0 ≡ k → word ≡ k ∷ []
one_byte [] k low high e = absurd (omega arith)
one_byte (b ∷ []) k low high e = ap (λ (x : ℕ). x ∷ []) e
one_byte (b ∷ c ∷ bs) k low high e = absurd (omega arith)

-- ---- an answer and its test

module _ {A : Type 0} (t : Bool) (x : A) where
  pub told : (v : A) → Some v ≡ cond t (Some x) None → (t ≡ true) × (x ≡ v)
  told v e = by_test t refl e
    where
      by_test : (u : Bool) → t ≡ u → Some v ≡ cond u (Some x) None → (t ≡ true) × (x ≡ v)
      by_test true s e = (s, cc)
      by_test false s e = absurd (cc)

  pub not_told : None ≡ cond t (Some x) None → t ≡ false
  not_told e = by_test t refl e
    where
      by_test : (u : Bool) → t ≡ u → None ≡ cond u (Some x) None → t ≡ false
      by_test true s e = absurd (cc)
      by_test false s e = s
