-- Laws of `lines_of` (specs/Lines.antt).
--   no_lines, line_taken, line_ended, line_cut         the lines from a place on, one by one: what a walk from line to line cites
--   lines_counted, tested_last                         as many as there are line feeds, and one more if the last byte is none
-- Assumes nothing.
use Rattle.std.proofs.Common as std
use Rattle.std.proofs.Common.{None, Some, Bor}
use Rattle.std.specs.List.{count_by, slice_get}
use Rattle.std.specs.Option.{MatchOption, option_copied}
use Rattle.std.proofs.lemmas.List.Sums.{sum_by-cons}
use mathlib.Core.Path.{◌≡◌, refl, sym, ap, ◌∙◌}
use mathlib.Core.List.{List, [], ◌∷◌}
use mathlib.Core.Bool.{Bool, true, false, cond, not}
use Prim.Native.Nat.{ℕ, suc, ◌+◌, ◌-◌, ◌<◌, ◌≤◌}
use native.Mathlib.Omega.{arith}
use lib.Dec.{eqb}
use lib.ListN.{length, get_or, take, drop, length-drop}
use lib.Seq.{drop-cons, take_all}
use borrow.Author.Tests.{lt-ltb, le-ltb}
use mir.Val.{bool_byte}
use Rattle.text.specs.Separated.{parts, first_part, onto_first, line_feed}
use Rattle.text.proofs.Laws.Parts.{parts_split, parts_on, part_taken}
use Rattle.schedule.specs.Lines.{ended, cut, last_line, lines_in, lines_of}

-- ---- one by one

pub no_lines : lines_of [] ≡ []
unfolding lines_of parts
no_lines = refl

module _ (input : List ℕ) (from : ℕ) where
  -- where the line ends that starts at `from`
  abbrev line_end : ℕ
  line_end = from + length (first_part line_feed (drop from input))

  -- it is the bytes from there to its end
  pub line_taken : first_part line_feed (drop from input) ≡ take (from + length (first_part line_feed (drop from input)) - from) (drop from input)
  line_taken =
      let count : from + length (first_part line_feed (drop from input)) - from ≡ length (first_part line_feed (drop from input)) = omega arith in
      rw count (part_taken line_feed (drop from input))

  -- a line feed ends it: the rest of the lines starts behind that
  pub line_ended : from + length (first_part line_feed (drop from input)) < length input
      → lines_of (drop from input)
      ≡ ended (first_part line_feed (drop from input)) ∷ lines_of (drop (from + length (first_part line_feed (drop from input)) + 1) input)
  unfolding lines_of
  line_ended h =
      let next = parts_on line_feed input (line_end + 1) in
      ap lines_in (parts_on line_feed input from)
      ∙ ap (λ (t : Bool). lines_in (first_part line_feed (drop from input) ∷ cond t (parts line_feed (drop (line_end + 1) input)) [])) (lt-ltb line_end (length input) h)
      ∙ ap (λ (ps : List (List ℕ)). lines_in (first_part line_feed (drop from input) ∷ ps)) next
      ∙ ap (λ (ps : List (List ℕ)). ended (first_part line_feed (drop from input)) ∷ lines_in ps) (sym next)

  -- no line feed comes any more: what is left is a last line, cut
  pub line_cut : from < length input → from + length (first_part line_feed (drop from input)) ≡ length input → lines_of (drop from input) ≡ cut (drop from input) ∷ []
  unfolding lines_of
  line_cut h e =
      let rest = drop from input in
      let count : length rest ≤ length (first_part line_feed rest) = omega (arith, length-drop from input) in
      let all : first_part line_feed rest ≡ rest = part_taken line_feed rest ∙ take_all (length (first_part line_feed rest)) rest count in
      ap lines_in (parts_on line_feed input from)
      ∙ ap (λ (t : Bool). lines_in (first_part line_feed rest ∷ cond t (parts line_feed (drop (line_end + 1) input)) [])) (le-ltb line_end (length input) (omega arith))
      ∙ ap last_line (all ∙ rest_is)
      ∙ ap (λ (l : List ℕ). cut l ∷ []) (sym rest_is)
    where
      rest_is : drop from input ≡ get_or input from 0 ∷ drop (suc from) input
      rest_is = drop-cons input from 0 h

-- ---- how many

abbrev is_feed : ℕ → Bool
is_feed b = eqb b line_feed

-- the text has a last byte, and that ends no line
abbrev pub ends_cut : List ℕ → Bool
ends_cut [] = false
ends_cut (b ∷ []) = not (is_feed b)
ends_cut (b ∷ c ∷ bs) = ends_cut (c ∷ bs)

-- a byte in front of a line that has some makes no line more
onto_line : (b c : ℕ) (cs : List ℕ) → length (lines_in (onto_first b (parts line_feed (c ∷ cs)))) ≡ length (lines_in (parts line_feed (c ∷ cs)))
unfolding parts
onto_line b c cs = by_test (is_feed c) (parts line_feed cs) (parts_split line_feed cs)
  where
    by_test : (t : Bool) (ps : List (List ℕ)) {p : List ℕ} {qs : List (List ℕ)} → ps ≡ p ∷ qs
        → length (lines_in (onto_first b (cond t ([] ∷ ps) (onto_first c ps)))) ≡ length (lines_in (cond t ([] ∷ ps) (onto_first c ps)))
    by_test true [] e = absurd (cc)
    by_test true (p ∷ ps) e = refl
    by_test false [] e = absurd (cc)
    by_test false (p ∷ []) e = refl
    by_test false (p ∷ q ∷ ps) e = refl

pub lines_counted : (s : List ℕ) → length (lines_of s) ≡ count_by is_feed s + bool_byte (ends_cut s)
unfolding lines_of parts
lines_counted [] = refl
lines_counted (b ∷ []) = by_test (is_feed b)
  where
    by_test : (t : Bool) → length (lines_in (cond t ([] ∷ [] ∷ []) ((b ∷ []) ∷ []))) ≡ (0 + cond t 1 0) + bool_byte (not t)
    by_test true = refl
    by_test false = refl
lines_counted (b ∷ c ∷ cs) = by_test (is_feed b) refl (parts line_feed (c ∷ cs)) (parts_split line_feed (c ∷ cs)) (onto_line b c cs) (lines_counted (c ∷ cs)) (sum_by-cons (λ x. cond (is_feed x) 1 0) b (c ∷ cs))
  where
    by_test : (t : Bool) → is_feed b ≡ t → (ps : List (List ℕ)) {p : List ℕ} {qs : List (List ℕ)} → ps ≡ p ∷ qs → length (lines_in (onto_first b ps)) ≡ length (lines_in ps)
        → length (lines_in ps) ≡ count_by is_feed (c ∷ cs) + bool_byte (ends_cut (c ∷ cs))
        → count_by is_feed (b ∷ c ∷ cs) ≡ cond (is_feed b) 1 0 + count_by is_feed (c ∷ cs)
        → length (lines_in (cond t ([] ∷ ps) (onto_first b ps))) ≡ count_by is_feed (b ∷ c ∷ cs) + bool_byte (ends_cut (c ∷ cs))
    by_test true is [] e same so more = absurd (cc)
    by_test true is (p ∷ ps) e same so more = omega (arith, so, more, ap (λ (t : Bool). cond {A = ℕ} t 1 0) is)
    by_test false is ps e same so more = omega (arith, same, so, more, ap (λ (t : Bool). cond {A = ℕ} t 1 0) is)

-- the last byte, and what the code's test makes of it
module _ (b c : ℕ) (bs : List ℕ) where
  behind_first : slice_get (b ∷ c ∷ bs) (length (b ∷ c ∷ bs) - 1) ≡ slice_get (c ∷ bs) (length (c ∷ bs) - 1)
  behind_first =
      let one_less : suc (suc (length bs)) - 1 ≡ suc (suc (length bs) - 1) = omega arith in
      ap (slice_get (b ∷ c ∷ bs)) one_less

no_last : (s : List ℕ) → None ≡ slice_get s (length s - 1) → false ≡ ends_cut s
no_last [] e = refl
no_last (b ∷ []) e = absurd (cc)
no_last (b ∷ c ∷ bs) e = no_last (c ∷ bs) (e ∙ behind_first b c bs)

the_last : (s : List ℕ) (y : ℕ) → Some y ≡ slice_get s (length s - 1) → not (is_feed y) ≡ ends_cut s
the_last [] y e = absurd (cc)
the_last (b ∷ []) y e = let same : y ≡ b = cc in ap (λ (x : ℕ). not (is_feed x)) same
the_last (b ∷ c ∷ bs) y e = the_last (c ∷ bs) y (e ∙ behind_first b c bs)

pub tested_last : (P : Bor ℕ → Type 0) (s : List ℕ) (o : std.Option (Bor ℕ)) (r : Bool) → option_copied o ≡ slice_get s (length s - 1) → MatchOption o (r ≡ false) P
    → ((x : Bor ℕ) → P x → r ≡ not (is_feed x.now)) → r ≡ ends_cut s
tested_last P s None r is m h = m ∙ no_last s is
tested_last P s (Some x) r is m h = h x m ∙ the_last s x.now is
