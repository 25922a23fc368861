-- Laws of `parts` and `first_part` (specs/Separated.antt).
--   empty                               what has no bytes is []
--   part_here, part_on, part_past       the first part of what stands from a place on: at a separator, before another byte, past the end
--   part_goes_on                        where it is not empty, its first byte is the text's
--   part_taken                          it is as many bytes of the text
--   parts_split, parts_on               the parts are the first, and, where a separator ends it, those behind it: what a walk from part to part cites
--   part_short, part_room, part_within  how long it can be: a part that starts in the text ends in it
--   parts_are                           the library's word for the parts
--   first_is, found_from                the first part is as long as the first place of a separator, which `position` finds
-- Assumes nothing.
use Rattle.std.proofs.Common.{Option, None, Some}
use Rattle.std.specs.List as list
use Rattle.std.specs.List.{position_or_len, position, slice_range, slice_split}
use Rattle.std.specs.Option.{unwrap_or}
use mathlib.Core.Path.{◌≡◌, refl, sym, ap, ◌∙◌}
use mathlib.Core.List.{List, [], ◌∷◌}
use mathlib.Core.Bool.{Bool, true, false, cond, not}
use Prim.Native.Nat.{ℕ, suc, ◌+◌, ◌-◌, ◌<◌, ◌≤◌}
use native.Mathlib.Omega.{arith}
use native.Mathlib.Numerals.{add-one}
use lib.Dec.{eqb, ltb, leb-suc-suc}
use lib.ListN.{length, get_or, take, drop, length-drop, drop_of_length-le}
use lib.Seq.{drop-cons, drop-drop, take_all}
use borrow.Author.Tests.{lt-ltb, le-ltb, ltb-true, ltb-false}
use Rattle.text.specs.Separated.{onto_first, parts, first_part}

pub empty : (l : List ℕ) → length l ≡ 0 → l ≡ []
empty [] e = refl
empty (b ∷ bs) e = absurd (omega arith)

-- ---- the first part

module _ (sep b : ℕ) (bs : List ℕ) where
  first_here : eqb b sep ≡ true → first_part sep (b ∷ bs) ≡ []
  unfolding first_part
  first_here e = rw e

  first_on : eqb b sep ≡ false → first_part sep (b ∷ bs) ≡ b ∷ first_part sep bs
  unfolding first_part
  first_on e = rw e

module _ (sep : ℕ) (s : List ℕ) (i : ℕ) where
  pub part_past : length s ≤ i → first_part sep (drop i s) ≡ []
  unfolding first_part
  part_past h = rw (drop_of_length-le s h)

  module _ (h : i < length s) where
    cut : drop i s ≡ get_or s i 0 ∷ drop (i + 1) s
    cut = rw add-one (drop-cons s i 0 h)

    pub part_here : eqb (get_or s i 0) sep ≡ true → first_part sep (drop i s) ≡ []
    part_here e = ap (first_part sep) cut ∙ first_here sep (get_or s i 0) (drop (i + 1) s) e

    pub part_on : eqb (get_or s i 0) sep ≡ false → first_part sep (drop i s) ≡ get_or s i 0 ∷ first_part sep (drop (i + 1) s)
    part_on e = ap (first_part sep) cut ∙ first_on sep (get_or s i 0) (drop (i + 1) s) e

pub record GoesOn (sep : ℕ) (s : List ℕ) (i : ℕ) : Type 0 where
  pub before_end : i < length s
  pub part_is : first_part sep (drop i s) ≡ get_or s i 0 ∷ first_part sep (drop (i + 1) s)

module _ (sep : ℕ) (s : List ℕ) (i : ℕ) where
  pub part_goes_on : 0 < length (first_part sep (drop i s)) → GoesOn sep s i
  part_goes_on h = by_place (ltb i (length s)) refl
    where
      by_byte : (l : i < length s) (t : Bool) → eqb (get_or s i 0) sep ≡ t → GoesOn sep s i
      by_byte l true e = let none : length (first_part sep (drop i s)) ≡ 0 = ap length (part_here sep s i l e) in absurd (omega arith)
      by_byte l false e = record { before_end = l; part_is = part_on sep s i l e }

      by_place : (t : Bool) → ltb i (length s) ≡ t → GoesOn sep s i
      by_place true e = by_byte (ltb-true i (length s) e) (eqb (get_or s i 0) sep) refl
      by_place false e =
          let none : length (first_part sep (drop i s)) ≡ 0 = ap length (part_past sep s i (ltb-false i (length s) e)) in
          absurd (omega arith)

-- ---- it is as many bytes of the text

within_one_more : (b : ℕ) (f bs : List ℕ) → length f ≤ length bs → (t : Bool) → length (cond t [] (b ∷ f)) ≤ suc (length bs)
within_one_more b f bs l true = omega arith
within_one_more b f bs l false = omega arith

pub part_short : (sep : ℕ) (s : List ℕ) → length (first_part sep s) ≤ length s
unfolding first_part
part_short sep [] = omega arith
part_short sep (b ∷ bs) = within_one_more b (first_part sep bs) bs (part_short sep bs) (eqb b sep)

taken_one_more : (b : ℕ) (f bs : List ℕ) → f ≡ take (length f) bs → (t : Bool) → cond t [] (b ∷ f) ≡ take (length (cond t [] (b ∷ f))) (b ∷ bs)
taken_one_more b f bs e true = refl
taken_one_more b f bs e false = ap (λ (l : List ℕ). b ∷ l) e

pub part_taken : (sep : ℕ) (s : List ℕ) → first_part sep s ≡ take (length (first_part sep s)) s
unfolding first_part
part_taken sep [] = refl
part_taken sep (b ∷ bs) = taken_one_more b (first_part sep bs) bs (part_taken sep bs) (eqb b sep)

-- a part that starts in the text ends in it; one that starts past its end is empty
module _ (sep : ℕ) (s : List ℕ) (from : ℕ) where
  pub part_room : length (first_part sep (drop from s)) ≤ length s - from
  part_room = let short = part_short sep (drop from s) in rw (length-drop from s) at short

  pub part_within : from ≤ length s → from + length (first_part sep (drop from s)) ≤ length s
  part_within h = let room = part_room in omega arith

-- ---- the parts, one by one

-- what stands behind a part: more parts, if a separator ends it
abbrev pub behind : ℕ → List ℕ → ℕ → List (List ℕ)
behind sep s end = cond (ltb end (length s)) (parts sep (drop (end + 1) s)) []

behind_one_more : (sep b : ℕ) (bs : List ℕ) (k : ℕ) → behind sep (b ∷ bs) (suc k) ≡ behind sep bs k
behind_one_more sep b bs k = rw (leb-suc-suc (suc k) (length bs), add-one (suc k), add-one k)

onto_first_lem : (sep b : ℕ) (bs f : List ℕ) → parts sep bs ≡ f ∷ behind sep bs (length f) → (t : Bool)
    → cond t ([] ∷ parts sep bs) (onto_first b (parts sep bs)) ≡ cond t [] (b ∷ f) ∷ behind sep (b ∷ bs) (length (cond t [] (b ∷ f)))
onto_first_lem sep b bs f e true = rw (lt-ltb 0 (suc (length bs)) (omega arith))
onto_first_lem sep b bs f e false =
    ap (onto_first b) e ∙ ap (λ (l : List (List ℕ)). (b ∷ f) ∷ l) (sym (behind_one_more sep b bs (length f)))

pub parts_split : (sep : ℕ) (s : List ℕ) → parts sep s ≡ first_part sep s ∷ behind sep s (length (first_part sep s))
unfolding parts first_part
parts_split sep [] = refl
parts_split sep (b ∷ bs) = onto_first_lem sep b bs (first_part sep bs) (parts_split sep bs) (eqb b sep)

same_test : (k from n : ℕ) → ltb k (n - from) ≡ ltb (from + k) n
same_test k from n = by_test (ltb (from + k) n) refl
  where
    by_test : (t : Bool) → ltb (from + k) n ≡ t → ltb k (n - from) ≡ ltb (from + k) n
    by_test true e = let l = ltb-true (from + k) n e in lt-ltb k (n - from) (omega arith) ∙ sym e
    by_test false e = let l = ltb-false (from + k) n e in le-ltb k (n - from) (omega arith) ∙ sym e

behind_from : (sep : ℕ) (s : List ℕ) (from k : ℕ) → behind sep (drop from s) k ≡ behind sep s (from + k)
behind_from sep s from k =
    let place : from + (k + 1) ≡ from + k + 1 = omega arith in
    rw (length-drop from s, same_test k from (length s), drop-drop (k + 1) from s, place)

-- the parts from a place on, wherever it is
pub parts_on : (sep : ℕ) (s : List ℕ) (from : ℕ)
    → parts sep (drop from s)
    ≡ first_part sep (drop from s)
    ∷ cond
    (ltb (from + length (first_part sep (drop from s))) (length s))
    (parts sep (drop (from + length (first_part sep (drop from s)) + 1) s))
    []
parts_on sep s from =
    parts_split sep (drop from s)
    ∙ ap (λ (l : List (List ℕ)). first_part sep (drop from s) ∷ l) (behind_from sep s from (length (first_part sep (drop from s))))

-- ---- by the library's words

pub parts_are : (sep : ℕ) (s : List ℕ) → parts sep s ≡ slice_split (λ b. eqb b sep) s
unfolding parts
parts_are sep [] = refl
parts_are sep (b ∷ bs) =
    ap (λ (ps : List (List ℕ)). cond (eqb b sep) ([] ∷ ps) (onto_first b ps)) (parts_are sep bs)
    ∙ ap (cond (eqb b sep) ([] ∷ slice_split (λ c. eqb c sep) bs)) (onto (slice_split (λ c. eqb c sep) bs))
  where
    onto : (ps : List (List ℕ)) → onto_first b ps ≡ list.onto_first b ps
    onto [] = refl
    onto (p ∷ ps) = refl

pub first_is : (sep : ℕ) (s : List ℕ) → length (first_part sep s) ≡ position_or_len (λ b. eqb b sep) s
unfolding first_part
first_is sep [] = refl
first_is sep (b ∷ bs) = by_test (eqb b sep) (first_is sep bs)
  where
    by_test : (t : Bool) → length (first_part sep bs) ≡ position_or_len (λ b. eqb b sep) bs
        → length (cond t [] (b ∷ first_part sep bs)) ≡ cond (not t) (1 + position_or_len (λ b. eqb b sep) bs) 0
    by_test true e = refl
    by_test false e = omega (arith, e)

-- what `position` finds, or else the length
first_found : (sep : ℕ) (s : List ℕ) (r : Option ℕ) → r ≡ position (λ b. eqb b sep) s → unwrap_or r (length s) ≡ length (first_part sep s)
first_found sep s r e = ap (λ (o : Option ℕ). unwrap_or o (length s)) e ∙ by_place (ltb (position_or_len (λ b. eqb b sep) s) (length s)) refl
  where
    by_place : (t : Bool) → ltb (position_or_len (λ b. eqb b sep) s) (length s) ≡ t
        → unwrap_or (cond t (Some (position_or_len (λ b. eqb b sep) s)) None) (length s) ≡ length (first_part sep s)
    by_place true e = sym (first_is sep s)
    by_place false e =
        let past = ltb-false (position_or_len (λ b. eqb b sep) s) (length s) e in
        omega (arith, first_is sep s, part_short sep s)

-- the same of what stands from a place on
pub found_from : (sep : ℕ) (s : List ℕ) (from : ℕ) (rest : List ℕ) (r : Option ℕ) → from ≤ length s → rest ≡ slice_range s from (length s) → r ≡ position (λ b. eqb b sep) rest
    → unwrap_or r (length rest) ≡ length (first_part sep (drop from s))
found_from sep s from rest r h is found =
    let all : rest ≡ drop from s = is ∙ take_all (length s - from) (drop from s) (omega (arith, length-drop from s)) in
    first_found sep rest r found ∙ ap (λ (l : List ℕ). length (first_part sep l)) all
