-- Laws of words: how each is written that reads as something, and that what is written reads back.
--   apart                                   0 is not 1: what follows where two constructors would be equal
--   free, all_free, words_spaced            words without spaces, spaced, are the words of that line
--   words_ended                             and of what begins with that line and a line feed, of its first line
--   spaced_words                            the words of a line, spaced, are the line
--   word_is                                 a word that is this text
--   number_most, number_word                a word that reads as a number: the number has 32 bits, and the word is what is printed of it
--   desk_below, desk_word                   the same of a desk, which is there
--   content_read                            the same of a content, which is not blank
--   number_back, number_free, number_said, desk_said    what is printed of a number is a number, and of a desk a desk
--   content_said                            what is written of a content reads as that content
-- Assumes nothing.
use mathlib.Core.Path.{◌≡◌, refl, sym, ap, ◌∙◌, subst}
use mathlib.Core.List.{List, [], ◌∷◌, ◌++◌}
use mathlib.Core.Bool.{Bool, true, false, cond, not, ◌&&◌, false≢true}
use Prim.Native.Nat.{ℕ, ◌-◌, ◌<◌, ◌≤◌, suc}
use Prim.Native.String.{String}
use native.Mathlib.Omega.{arith}
use lib.Dec.{eqb, leb, ltb}
use lib.IntN.{ℤ, pos, negsuc}
use borrow.Author.Tests.{le-leb, lt-ltb, leb-true, ltb-true, eqb-true, ne_eqb, not-true}
use mir.Syntax.{w32}
use mir.Val.{SFits}
use Rattle.content.specs.declared.Content.{Content}
use Rattle.content.specs.declared.Content.TheVariants.{Blank, Open, Day}
use Rattle.content.specs.Content.{day_of}
use Rattle.numbers.specs.Limits.{within}
use Rattle.numbers.proofs.Tests.{and_split}
use Rattle.text.specs.Text.{text}
use Rattle.text.specs.Separated.{parts, first_part, onto_first, line_feed, space, minus}
use Rattle.text.specs.Decimal.{is_digit, digits, is_decimal, value, decimal, no_leading_zero, signed_decimal}
use Rattle.text.specs.Promises.{ReadsBack}
use Rattle.text.proofs.Laws.Decimal.{decimal_is}
use Rattle.text.proofs.Laws.ReadBack.{printed_reads_back, read_prints_back}
use Rattle.schedule.specs.Words.{same, is, is_number, is_desk, is_day_word, day_of_word, is_content_word, content_of_word}
use Rattle.lines.specs.Line.{spaced, content_word}

pub apart : {A : Type 0} → ◌≡◌ {A = ℕ} 0 1 → A
apart e = absurd (omega arith)

-- ---- spaced, and parted

-- no byte of the text is this one
abbrev without : ℕ → List ℕ → Bool
without sep [] = true
without sep (b ∷ bs) = not (eqb b sep) && without sep bs

-- every byte of the word is above the space, and so above the line feed
abbrev pub free : List ℕ → Bool
free [] = true
free (b ∷ bs) = ltb space b && free bs

abbrev pub all_free : List (List ℕ) → Bool
all_free [] = true
all_free (w ∷ ws) = free w && all_free ws

module _ (sep : ℕ) (low : sep ≤ space) where
  free_without : (w : List ℕ) → free w ≡ true → without sep w ≡ true
  free_without [] t = refl
  free_without (b ∷ bs) t =
      let both = and_split (ltb space b) (free bs) t in
      let above = ltb-true space b both.0 in
      rw (ne_eqb b sep (λ e. omega arith)) (free_without bs both.1)

alone : (w : List ℕ) → without space w ≡ true → parts space w ≡ w ∷ []
unfolding parts
alone [] t = refl
alone (b ∷ bs) t =
    let both = and_split (not (eqb b space)) (without space bs) t in
    rw (not-true (eqb b space) both.0, alone bs both.1)

before_a_space : (w rest : List ℕ) → without space w ≡ true → parts space (w ++ space ∷ rest) ≡ w ∷ parts space rest
unfolding parts
before_a_space [] rest t = refl
before_a_space (b ∷ bs) rest t =
    let both = and_split (not (eqb b space)) (without space bs) t in
    rw (not-true (eqb b space) both.0, before_a_space bs rest both.1)

pub words_spaced : (w : List ℕ) (ws : List (List ℕ)) → all_free (w ∷ ws) ≡ true → parts space (spaced (w ∷ ws)) ≡ w ∷ ws
words_spaced w [] t = alone w (free_without space (omega arith) w (and_split (free w) true t).0)
words_spaced w (v ∷ ws) t =
    let both = and_split (free w) (all_free (v ∷ ws)) t in
    before_a_space w (spaced (v ∷ ws)) (free_without space (omega arith) w both.0) ∙ ap (λ (l : List (List ℕ)). w ∷ l) (words_spaced v ws both.1)

-- ---- spaced, and ended

before_a_feed : (l rest : List ℕ) → without line_feed l ≡ true → first_part line_feed (l ++ line_feed ∷ rest) ≡ l
unfolding first_part
before_a_feed [] rest t = refl
before_a_feed (b ∷ bs) rest t =
    let both = and_split (not (eqb b line_feed)) (without line_feed bs) t in
    rw (not-true (eqb b line_feed) both.0, before_a_feed bs rest both.1)

both_without : (l more : List ℕ) → without line_feed l ≡ true → without line_feed more ≡ true → without line_feed (l ++ more) ≡ true
both_without [] more t u = u
both_without (b ∷ bs) more t u =
    let both = and_split (not (eqb b line_feed)) (without line_feed bs) t in
    rw both.0 (both_without bs more both.1 u)

spaced_without : (w : List ℕ) (ws : List (List ℕ)) → all_free (w ∷ ws) ≡ true → without line_feed (spaced (w ∷ ws)) ≡ true
spaced_without w [] t = free_without line_feed (omega arith) w (and_split (free w) true t).0
spaced_without w (v ∷ ws) t =
    let both = and_split (free w) (all_free (v ∷ ws)) t in
    both_without w (space ∷ spaced (v ∷ ws)) (free_without line_feed (omega arith) w both.0) (spaced_without v ws both.1)

-- what stands behind the line feed does not matter
pub words_ended : (w : List ℕ) (ws : List (List ℕ)) (rest : List ℕ) → all_free (w ∷ ws) ≡ true
    → parts space (first_part line_feed (spaced (w ∷ ws) ++ line_feed ∷ rest)) ≡ w ∷ ws
words_ended w ws rest t = ap (parts space) (before_a_feed (spaced (w ∷ ws)) rest (spaced_without w ws t)) ∙ words_spaced w ws t

-- ---- parted, and spaced

-- there is a part, and the parts make this line
record Make (ws : List (List ℕ)) (line : List ℕ) : Type 0 where
  pub first : List ℕ
  pub rest : List (List ℕ)
  pub some_words : ws ≡ first ∷ rest
  pub the_line : spaced (first ∷ rest) ≡ line

one_byte_more : (b : ℕ) (ws : List (List ℕ)) (line : List ℕ) → Make ws line → (t : Bool) → eqb b space ≡ t → Make (cond t ([] ∷ ws) (onto_first b ws)) (b ∷ line)
one_byte_more b ws line so true e =
    record {
      first = [];
      rest = so.first ∷ so.rest;
      some_words = ap (λ (l : List (List ℕ)). [] ∷ l) so.some_words;
      the_line = ap (λ (l : List ℕ). space ∷ l) so.the_line ∙ ap (λ (x : ℕ). x ∷ line) (sym (eqb-true b space e));
    }
one_byte_more b ws line so false e =
    record {
      first = b ∷ so.first;
      rest = so.rest;
      some_words = ap (onto_first b) so.some_words;
      the_line = onto so.first so.rest ∙ ap (λ (l : List ℕ). b ∷ l) so.the_line;
    }
  where
    onto : (w : List ℕ) (vs : List (List ℕ)) → spaced ((b ∷ w) ∷ vs) ≡ b ∷ spaced (w ∷ vs)
    onto w [] = refl
    onto w (v ∷ vs) = refl

parts_make : (line : List ℕ) → Make (parts space line) line
unfolding parts
parts_make [] = record { first = []; rest = []; some_words = refl; the_line = refl }
parts_make (b ∷ bs) = one_byte_more b (parts space bs) bs (parts_make bs) (eqb b space) refl

pub spaced_words : (line : List ℕ) → spaced (parts space line) ≡ line
spaced_words line = let all = parts_make line in ap spaced all.some_words ∙ all.the_line

-- ---- letters and other texts

same_is : (word other : List ℕ) → same word other ≡ true → word ≡ other
same_is [] [] t = refl
same_is [] (b ∷ bs) t = absurd (false≢true t)
same_is (a ∷ rest) [] t = absurd (false≢true t)
same_is (a ∷ rest) (b ∷ bs) t =
    let both = and_split (eqb a b) (same rest bs) t in
    let first = eqb-true a b both.0 in
    let others = same_is rest bs both.1 in
    cc

pub word_is : (t : String) (word : List ℕ) → is t word ≡ true → word ≡ text t
unfolding is
word_is t word e = same_is word (text t) e

-- ---- numbers

module _ (word : List ℕ) (t : is_number word ≡ true) where
  number_parts : (is_decimal word ≡ true) × (leb (value word) 4294967295 ≡ true)
  unfolding is_number
  number_parts = and_split (is_decimal word) (leb (value word) 4294967295) t

  pub number_most : value word ≤ 4294967295
  number_most = leb-true (value word) 4294967295 number_parts.1

  pub number_word : word ≡ decimal (value word)
  number_word = let most = number_most in sym (read_prints_back word number_parts.0 (omega arith))

module _ (n : ℕ) (word : List ℕ) (t : is_desk n word ≡ true) where
  desk_parts : (is_number word ≡ true) × (ltb (value word) n ≡ true)
  unfolding is_desk
  desk_parts = and_split (is_number word) (ltb (value word) n) t

  pub desk_below : value word < n
  desk_below = ltb-true (value word) n desk_parts.1

  pub desk_word : word ≡ decimal (value word)
  desk_word = number_word word desk_parts.0

digits_free : (w : List ℕ) → digits w ≡ true → free w ≡ true
digits_free [] t = refl
digits_free (b ∷ bs) t =
    let both = and_split (is_digit b) (digits bs) t in
    let low = leb-true 48 b (and_split (leb 48 b) (leb b 57) both.0).0 in
    rw (lt-ltb space b (omega arith)) (digits_free bs both.1)

module _ (k : ℕ) (small : k ≤ 4294967295) where
  pub number_back : ReadsBack k
  number_back = printed_reads_back k (omega arith)

  pub number_free : free (decimal k) ≡ true
  number_free = digits_free (decimal k) (and_split (no_leading_zero (decimal k)) (digits (decimal k)) (sym (decimal_is (decimal k)) ∙ number_back.is_decimal_lem)).1

  pub number_said : is_number (decimal k) ≡ true
  unfolding is_number
  number_said = rw (number_back.is_decimal_lem, number_back.same_number) (le-leb k 4294967295 small)

  pub desk_said : (n : ℕ) → k < n → is_desk n (decimal k) ≡ true
  unfolding is_desk
  desk_said n there = rw (number_said, number_back.same_number) (lt-ltb k n there)

-- ---- contents, read

record DayRead (word : List ℕ) : Type 0 where
  pub fits : SFits w32 (day_of_word word)
  pub written : word ≡ signed_decimal (day_of_word word)

day_read : (word : List ℕ) → is_day_word word ≡ true → DayRead word
unfolding is_day_word day_of_word
day_read [] t = absurd (false≢true t)
day_read (b ∷ bs) t = by_sign (eqb b minus) refl t
  where
    by_sign : (s : Bool) → eqb b minus ≡ s
        → cond s (is_decimal bs && within 1 2147483648 (value bs)) (is_decimal (b ∷ bs) && leb (value (b ∷ bs)) 2147483647) ≡ true → DayRead (b ∷ bs)
    by_sign true e t =
        let whole = and_split (is_decimal bs) (within 1 2147483648 (value bs)) t in
        let both = and_split (leb 1 (value bs)) (leb (value bs) 2147483648) whole.1 in
        let least = leb-true 1 (value bs) both.0 in
        let most = leb-true (value bs) 2147483648 both.1 in
        let number : suc (value bs - 1) ≡ value bs = omega arith in
        record {
          fits = rw e (record { sfits = omega arith });
          written = rw (e, number, read_prints_back bs whole.0 (omega arith)) (ap (λ (x : ℕ). x ∷ bs) (eqb-true b minus e));
        }
    by_sign false e t =
        let whole = and_split (is_decimal (b ∷ bs)) (leb (value (b ∷ bs)) 2147483647) t in
        let most = leb-true (value (b ∷ bs)) 2147483647 whole.1 in
        record {
          fits = rw e (record { sfits = omega arith });
          written = rw e (sym (read_prints_back (b ∷ bs) whole.0 (omega arith)));
        }

pub record ContentRead (word : List ℕ) : Type 0 where
  pub fits : SFits w32 (day_of (content_of_word word))
  pub not_blank : content_of_word word ≡ Blank → ⊥
  pub written : word ≡ content_word (content_of_word word)

pub content_read : (word : List ℕ) → is_content_word word ≡ true → ContentRead word
unfolding is_content_word content_of_word
content_read word t = by_open (is "open" word) refl
  where
    by_open : (o : Bool) → is "open" word ≡ o → ContentRead word
    by_open true e = record { fits = rw e (record { sfits = omega arith }); not_blank = λ b. apart (cc); written = rw e (word_is "open" word e) }
    by_open false e =
        let day = day_read word (rw e at t) in
        record { fits = rw e day.fits; not_blank = λ b. apart (cc); written = rw e day.written }

-- ---- contents, written

no_decimal : is_decimal [] ≡ true → ⊥
unfolding is_decimal
no_decimal t = false≢true t

first_digit : (b : ℕ) (bs : List ℕ) → is_decimal (b ∷ bs) ≡ true → (48 ≤ b) × (b ≤ 57)
unfolding is_decimal
first_digit b bs t =
    let all = (and_split (is_digit b && digits bs) _ t).0 in
    let digit = and_split (leb 48 b) (leb b 57) (and_split (is_digit b) (digits bs) all).0 in
    (leb-true 48 b digit.0, leb-true b 57 digit.1)

-- it reads as this content, and has no spaces
pub record ContentSaid (word : List ℕ) (c : Content) : Type 0 where
  pub is_content : is_content_word word ≡ true
  pub same_content : content_of_word word ≡ c
  pub without_spaces : free word ≡ true

module _ (word : List ℕ) (t : is_decimal word ≡ true) where
  decimal_free : free word ≡ true
  decimal_free = digits_free word (and_split (no_leading_zero word) (digits word) (sym (decimal_is word) ∙ t)).1

plain_said : (word : List ℕ) → is_decimal word ≡ true → value word ≤ 2147483647 → ContentSaid word (Day (pos (value word)))
unfolding is_content_word content_of_word is_day_word day_of_word is
plain_said [] t small = absurd (no_decimal t)
plain_said (b ∷ bs) t small =
    let digit = first_digit b bs t in
    let no_minus = ne_eqb b 45 (λ e. omega arith) in
    let no_o = ne_eqb b 111 (λ e. omega arith) in
    record {
      is_content = rw (no_o, no_minus, t) (le-leb (value (b ∷ bs)) 2147483647 small);
      same_content = rw (no_o, no_minus);
      without_spaces = decimal_free (b ∷ bs) t;
    }

minus_said : (word : List ℕ) → is_decimal word ≡ true → 1 ≤ value word → value word ≤ 2147483648 → ContentSaid (45 ∷ word) (Day (negsuc (value word - 1)))
unfolding is_content_word content_of_word is_day_word day_of_word is
minus_said word t least most =
    record {
      is_content = rw (t, le-leb 1 (value word) least, le-leb (value word) 2147483648 most);
      same_content = refl;
      without_spaces = decimal_free word t;
    }

open_said : ContentSaid (text "open") Open
unfolding is_content_word content_of_word is
open_said = record { is_content = refl; same_content = refl; without_spaces = refl }

day_said : (d : ℤ) → SFits w32 d → ContentSaid (signed_decimal d) (Day d)
day_said (pos k) fits =
    let small : k ≤ 2147483647 = omega arith in
    let reads = number_back k (omega arith) in
    subst (λ (v : ℕ). ContentSaid (decimal k) (Day (pos v))) reads.same_number (plain_said (decimal k) reads.is_decimal_lem (omega (arith, reads.same_number)))
day_said (negsuc k) fits =
    let small : k ≤ 2147483647 = omega arith in
    let reads = number_back (suc k) (omega arith) in
    let one_less : value (decimal (suc k)) - 1 ≡ k = omega (arith, reads.same_number) in
    subst (λ (v : ℕ). ContentSaid (45 ∷ decimal (suc k)) (Day (negsuc v))) one_less
    (minus_said (decimal (suc k)) reads.is_decimal_lem (omega (arith, reads.same_number)) (omega (arith, reads.same_number)))

pub content_said : (c : Content) → SFits w32 (day_of c) → (c ≡ Blank → ⊥) → ContentSaid (content_word c) c
content_said Blank fits some = absurd (some refl)
content_said Open fits some = open_said
content_said (Day d) fits some = day_said d fits
