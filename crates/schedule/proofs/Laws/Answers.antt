-- Laws of what the functions of src/words.rt answer of a word (specs/Parts.antt).
--   filtered                       what `filter` answers, where its closure computes a test
--   numbers_read                   `number`; desks_are, `desk_of`; modes, `mode`; days_read, `day`; contents_read, `content`: sets for `search`
-- Assumes nothing.
use Rattle.std.proofs.Common as std
use Rattle.std.proofs.Common.{ℤ, pos, negsuc, ◌-ℤ◌, w32, SFits, Bor}
use Rattle.std.proofs.lemmas.Slice.Eq.{strip_prefix_is}
use Rattle.std.proofs.lemmas.Bool.Decides.{Decides-eqb}
use Rattle.std.specs.Cmp.Lexicographic.{pointwise}
use Rattle.std.proofs.Common.{None, Some, Ok, Err, Result}
use Rattle.std.specs.Bool.{then_some}
use Rattle.std.specs.Option.{MatchOption, SomeIff, IsSomeAnd, option_map}
use Rattle.std.specs.Result.{OkIff, result_ok}
use Rattle.std.proofs.lemmas.Map.Entries.{option_filter}
use mathlib.Core.Path.{◌≡◌, refl, sym, ap, ◌∙◌}
use mathlib.Core.List.{List, [], ◌∷◌}
use mathlib.Core.Bool.{Bool, true, false, cond, not, ◌&&◌, and-false}
use Prim.Native.Nat.{ℕ, zero, suc, ◌+◌, ◌-◌, ◌<◌, ◌≤◌, min}
use native.Mathlib.Omega.{arith}
use lib.Dec.{eqb, leb, ltb}
use lib.ListN.{length, get_or, take, drop}
use borrow.Author.Tests.{leb-true, leb-false, le-leb, lt-leb, ne_eqb, eqb-true, eqb-false}
use Rattle.content.specs.declared.Content.TheVariants.{Open, Day}
use Rattle.numbers.specs.Limits.{within}
use Rattle.numbers.proofs.Tests.{and_split}
use Rattle.text.specs.Decimal.{is_decimal, value_from, value, beyond, decimal_in}
use Rattle.schedule.specs.Words.{same, is, is_number, is_desk, is_day_word, day_of_word, is_content_word, content_of_word}
use Rattle.schedule.specs.Parts.{number, desk_of, mode, day, content}
use Rattle.schedule.proofs.Laws.Words.{told, not_told, one_byte}

pub filtered : {A : Type 0} (P : A → Bool → Type 0) (test : A → Bool) (o r : std.Option A) → MatchOption o (r ≡ None) (λ x. (b : Bool) × P x b × (r ≡ then_some b x))
    → ((x : A) (b : Bool) → P x b → b ≡ test x) → r ≡ option_filter test o
filtered P test None r m h = m
filtered P test (Some x) r m h = m.2 ∙ ap (λ (b : Bool). then_some b x) (h x m.0 m.1) ∙ by_test (test x)
  where
    by_test : (t : Bool) → then_some t x ≡ cond t (Some x) None
    by_test true = refl
    by_test false = refl

-- ---- numbers

module _ (word : List ℕ) where
  pub no_number : None ≡ decimal_in word → None ≡ number word
  unfolding decimal_in number is_number
  no_number e = rw (not_told (is_decimal word) (min (value word) beyond) e)

  -- what `try_from` makes of it
  pub number_found : (v : ℕ) → Some v ≡ decimal_in word → {E : Type 0} (r : Result ℕ E) → OkIff r (v < 4294967296) v → (o : std.Option ℕ) → o ≡ result_ok r → o ≡ number word
  unfolding decimal_in number is_number
  number_found v e (Ok x) ok o was =
      let so = told (is_decimal word) (min (value word) beyond) v e in
      let same_number : x ≡ value word = omega (arith, so.1) in
      was ∙ rw (so.0, le-leb (value word) 4294967295 (omega (arith, so.1)), same_number)
  number_found v e (Err x) ok o was =
      let so = told (is_decimal word) (min (value word) beyond) v e in
      let large : 4294967295 < value word = omega (arith, so.1, ok) in
      was ∙ rw (so.0, lt-leb (value word) 4294967295 large)

pub ruleset numbers_read = (no_number, number_found)

pub desk_filtered : (n : ℕ) (word : List ℕ) → option_filter (λ p. ltb p n) (number word) ≡ desk_of n word
unfolding number desk_of is_desk
desk_filtered n word = by_test (is_number word)
  where
    by_test : (t : Bool) → option_filter (λ p. ltb p n) (cond t (Some (value word)) None) ≡ cond (t && ltb (value word) n) (Some (value word)) None
    by_test true = refl
    by_test false = refl

-- ---- modes

module _ (word : List ℕ) (low : 1 ≤ length word) (high : length word < 2) where
  pub mode_s : get_or word 0 0 ≡ 115 → Some 1 ≡ mode word
  unfolding mode is
  mode_s e = rw (one_byte word 115 low high e)

  pub mode_c : get_or word 0 0 ≡ 99 → Some 2 ≡ mode word
  unfolding mode is
  mode_c e = rw (one_byte word 99 low high e)

  pub mode_k : get_or word 0 0 ≡ 107 → Some 3 ≡ mode word
  unfolding mode is
  mode_k e = rw (one_byte word 107 low high e)

  pub mode_default : get_or word 0 0 ≡ 45 → Some 0 ≡ mode word
  unfolding mode is
  mode_default e = rw (one_byte word 45 low high e)

  pub no_mode : (get_or word 0 0 ≡ 115 → ⊥) → (get_or word 0 0 ≡ 99 → ⊥) → (get_or word 0 0 ≡ 107 → ⊥) → (get_or word 0 0 ≡ 45 → ⊥) → None ≡ mode word
  unfolding mode is
  no_mode s c k d =
      let b = get_or word 0 0 in
      rw (one_byte word b low high refl, ne_eqb b 115 s, ne_eqb b 99 c, ne_eqb b 107 k, ne_eqb b 45 d)

pub mode_short : (word : List ℕ) → length word < 1 → None ≡ mode word
unfolding mode is
mode_short [] h = refl
mode_short (b ∷ bs) h = absurd (omega arith)

pub mode_long : (word : List ℕ) → 2 ≤ length word → None ≡ mode word
unfolding mode is
mode_long [] h = absurd (omega arith)
mode_long (b ∷ []) h = absurd (omega arith)
mode_long (b ∷ c ∷ bs) h = rw (and-false (eqb b 115), and-false (eqb b 99), and-false (eqb b 107), and-false (eqb b 45))

pub ruleset modes = (mode_s, mode_c, mode_k, mode_default, no_mode, mode_short, mode_long)

-- ---- days

-- a number's test, with a smaller limit
no_number_below : (word : List ℕ) (k : ℕ) → k ≤ 4294967295 → is_number word ≡ false → is_decimal word && leb (value word) k ≡ false
unfolding is_number
no_number_below word k small = by_test (is_decimal word)
  where
    by_test : (t : Bool) → t && leb (value word) 4294967295 ≡ false → t && leb (value word) k ≡ false
    by_test true e = let large = leb-false (value word) 4294967295 e in lt-leb (value word) k (omega arith)
    by_test false e = refl

-- a word that begins with no minus
module _ (word : List ℕ) (plain : (rest : List ℕ) → word ≡ 45 ∷ rest → ⊥) where
  plain_is : (is_day_word word ≡ is_decimal word && leb (value word) 2147483647) × (day_of_word word ≡ pos (value word))
  unfolding is_day_word is_decimal day_of_word value value_from
  plain_is = by_word word plain
    where
      by_word : (w : List ℕ) → ((rest : List ℕ) → w ≡ 45 ∷ rest → ⊥) → (is_day_word w ≡ is_decimal w && leb (value w) 2147483647) × (day_of_word w ≡ pos (value w))
      by_word [] h = (refl, refl)
      by_word (b ∷ bs) h =
          let other = ne_eqb b 45 (λ e. h bs (ap (λ (x : ℕ). x ∷ bs) e)) in
          (rw other, rw other)

  no_plain : None ≡ number word → None ≡ day word
  unfolding number day
  no_plain e = rw (plain_is.0, no_number_below word 2147483647 (omega arith) (not_told (is_number word) (value word) e))

  plain_found : (v : ℕ) → Some v ≡ number word → {E : Type 0} (r : Result ℤ E) → OkIff r (SFits w32 (pos v)) (pos v) → result_ok r ≡ day word
  unfolding number day is_number
  plain_found v e r ok =
      let so = told (is_number word) (value word) v e in
      let both = and_split (is_decimal word) (leb (value word) 4294967295) so.0 in
      by_test (leb (value word) 2147483647) refl r ok both.0 so.1
    where
      by_test : (t : Bool) → leb (value word) 2147483647 ≡ t → {E : Type 0} (r : Result ℤ E) → OkIff r (SFits w32 (pos v)) (pos v) → is_decimal word ≡ true → value word ≡ v
          → result_ok r ≡ cond (is_day_word word) (Some (day_of_word word)) None
      by_test true t (Ok x) ok dec is = rw (plain_is.0, dec, t, plain_is.1, is, ok.1)
      by_test true t (Err x) ok dec is = absurd (ok (record { sfits = omega (arith, leb-true (value word) 2147483647 t) }))
      by_test false t (Ok x) ok dec is = absurd (omega (arith, ok.0.sfits, leb-false (value word) 2147483647 t))
      by_test false t (Err x) ok dec is = rw (plain_is.0, dec, t)

-- a word that begins with one, and the number behind it
abbrev pub is_some_day : ℕ → Bool
is_some_day k = not (eqb k 0)

with_least : (d u v : Bool) → d && v ≡ false → d && (u && v) ≡ false
with_least true u v e = rw e (and-false u)
with_least false u v e = refl

zero_minus : (j : ℕ) → pos 0 -ℤ pos (suc j) ≡ negsuc j
zero_minus j = let back : suc j - 1 ≡ j = omega arith in rw (le-leb 1 (suc j) (omega arith), back)

-- what is so of a number that passes
record SomeDay (below : List ℕ) (k : ℕ) : Type 0 where
  pub number_lem : is_number below ≡ true
  pub least : 1 ≤ k
  pub same_number : value below ≡ k

module _ (word below : List ℕ) (minus : word ≡ 45 ∷ below) where
  no_below : None ≡ option_filter is_some_day (number below) → None ≡ day word
  unfolding number day is_day_word day_of_word
  no_below e = rw minus (by_test (is_number below) refl e)
    where
      by_zero : (z : Bool) → eqb (value below) 0 ≡ z → ◌≡◌ {A = std.Option ℕ} None (cond (not z) (Some (value below)) None) → is_decimal below && within 1 2147483648 (value below) ≡ false
      by_zero true z e = rw (eqb-true (value below) 0 z, and-false (is_decimal below))
      by_zero false z e = absurd (cc)

      by_test : (t : Bool) → is_number below ≡ t → None ≡ option_filter is_some_day (cond t (Some (value below)) None)
          → None ≡ cond (is_decimal below && within 1 2147483648 (value below)) (Some (negsuc (value below - 1))) None
      by_test true t e = rw (by_zero (eqb (value below) 0) refl e)
      by_test false t e =
          rw (with_least (is_decimal below) (leb 1 (value below)) (leb (value below) 2147483648) (no_number_below below 2147483648 (omega arith) t))

  some_day : (k : ℕ) → Some k ≡ option_filter is_some_day (number below) → SomeDay below k
  unfolding number
  some_day k e = by_test (is_number below) refl (eqb (value below) 0) refl e
    where
      by_test : (t : Bool) → is_number below ≡ t → (z : Bool) → eqb (value below) 0 ≡ z → Some k ≡ option_filter (λ v. not (eqb v 0)) (cond t (Some (value below)) None) → SomeDay below k
      by_test true t true z e = let none : Some k ≡ None = rw z at e in absurd (cc)
      by_test true t false z e =
          let some : Some k ≡ Some (value below) = rw z at e in
          let same : value below ≡ k = cc in
          record { number_lem = t; least = omega (arith, eqb-false (value below) 0 z); same_number = same }
      by_test false t z is e = absurd (cc)

  below_found : (k : ℕ) → Some k ≡ option_filter is_some_day (number below) → (o : std.Option ℤ) → SomeIff o (SFits w32 (pos 0 -ℤ pos k)) (pos 0 -ℤ pos k) → o ≡ day word
  unfolding day is_day_word day_of_word is_number
  below_found zero e o ok = let so = some_day 0 e in absurd (omega (arith, so.least))
  below_found (suc j) e o ok =
      let so = some_day (suc j) e in
      let dec = (and_split (is_decimal below) (leb (value below) 4294967295) so.number_lem).0 in
      rw (minus, so.same_number, dec, le-leb 1 (suc j) (omega arith), back) (by_test (leb (suc j) 2147483648) refl o (rw (zero_minus j) at ok))
    where
      back : suc j - 1 ≡ j
      back = omega arith

      by_test : (t : Bool) → leb (suc j) 2147483648 ≡ t → (o : std.Option ℤ) → SomeIff o (SFits w32 (negsuc j)) (negsuc j) → o ≡ cond t (Some (negsuc j)) None
      by_test true t (Some z) ok = ap Some ok.1
      by_test true t None ok = let small = leb-true (suc j) 2147483648 t in absurd (ok (record { sfits = omega arith }))
      by_test false t (Some z) ok = absurd (omega (arith, ok.0.sfits, leb-false (suc j) 2147483648 t))
      by_test false t None ok = refl

-- ---- by what `strip_prefix` finds

module _ (word : List ℕ) where
  pub day_plain_none : pointwise eqb (take 1 word) (45 ∷ []) ≡ false → None ≡ number word → None ≡ day word
  day_plain_none off = no_plain word (strip_prefix_is Decides-eqb word (45 ∷ []) None off)

  pub day_plain : pointwise eqb (take 1 word) (45 ∷ []) ≡ false → (v : ℕ) → Some v ≡ number word → {E : Type 0} (r : Result ℤ E) → OkIff r (SFits w32 (pos v)) (pos v)
      → (o : std.Option ℤ) → o ≡ result_ok r → o ≡ day word
  day_plain off v e r ok o is = is ∙ plain_found word (strip_prefix_is Decides-eqb word (45 ∷ []) None off) v e r ok

  pub day_minus_none : (below : Bor (List ℕ)) → (pointwise eqb (take 1 word) (45 ∷ []) ≡ true) × (below.now ≡ drop 1 word) × (length below.now + 1 ≡ length word)
      → None ≡ option_filter is_some_day (number below.now) → None ≡ day word
  day_minus_none below on e = no_below word below.now (strip_prefix_is Decides-eqb word (45 ∷ []) (Some below) on) e

  pub day_minus : (below : Bor (List ℕ)) → (pointwise eqb (take 1 word) (45 ∷ []) ≡ true) × (below.now ≡ drop 1 word) × (length below.now + 1 ≡ length word)
      → (k : ℕ) → Some k ≡ option_filter is_some_day (number below.now) → (o : std.Option ℤ) → SomeIff o (SFits w32 (pos 0 -ℤ pos k)) (pos 0 -ℤ pos k) → o ≡ day word
  day_minus below on k e o ok = below_found word below.now (strip_prefix_is Decides-eqb word (45 ∷ []) (Some below) on) k e o ok

pub ruleset days_read = (day_plain_none, day_plain, day_minus_none, day_minus)

-- ---- contents

same_by : (a b : List ℕ) → same a b ≡ pointwise eqb a b
same_by [] [] = refl
same_by [] (y ∷ ys) = refl
same_by (x ∷ xs) [] = refl
same_by (x ∷ xs) (y ∷ ys) = ap (λ (t : Bool). eqb x y && t) (same_by xs ys)

module _ (word other : List ℕ) (r : Bool) (is_text : other ≡ 111 ∷ 112 ∷ 101 ∷ 110 ∷ []) (tested : r ≡ pointwise eqb word other) where
  is_open : is "open" word ≡ r
  unfolding is
  is_open = same_by word (111 ∷ 112 ∷ 101 ∷ 110 ∷ []) ∙ ap (pointwise eqb word) (sym is_text) ∙ sym tested

  pub content_open : r ≡ true → Some Open ≡ content word
  unfolding content is_content_word content_of_word
  content_open t = rw (is_open ∙ t)

  pub content_day : r ≡ false → option_map Day (day word) ≡ content word
  unfolding content is_content_word content_of_word day
  content_day t = rw (is_open ∙ t) (by_test (is_day_word word))
    where
      by_test : (u : Bool) → option_map Day (cond u (Some (day_of_word word)) None) ≡ cond u (Some (Day (day_of_word word))) None
      by_test true = refl
      by_test false = refl

-- what `map` makes, where its function is this
pub mapped : {A B : Type 0} (f : A → B) (P : A → B → Type 0) (o : std.Option A) (r : std.Option B) → MatchOption o (r ≡ None) (λ x. IsSomeAnd r (P x)) → ((x : A) (y : B) → P x y → y ≡ f x)
    → r ≡ option_map f o
mapped f P None r m h = m
mapped f P (Some x) None m h = absurd m
mapped f P (Some x) (Some y) m h = ap Some (h x y m)
