-- A line is read as line 1 exactly if it is the line of a start within the limits (specs/Promises.antt).
--   starts_are_in_range : StartsAreInRange
--   one_line_per_start : OneLinePerStart
--   every_start_has_a_line : EveryStartHasALine
--   said_start_tells_apart : StartsApart
-- Assumes nothing.
use Rattle.std.proofs.Common as std
use Rattle.std.proofs.Common.{None, Some}
use mathlib.Core.Path.{◌≡◌, refl, sym, ap, ◌∙◌, subst}
use mathlib.Core.List.{List, [], ◌∷◌}
use mathlib.Core.Bool.{Bool, true, false, cond, ◌&&◌}
use mathlib.Core.Option.{Option, none, some}
use Prim.Native.Nat.{ℕ, ◌≤◌}
use native.Mathlib.Omega.{arith}
use lib.Dec.{eqb}
use borrow.Author.Tests.{eqb-true, eqb-false}
use Rattle.answer.proofs.Laws as answer
use Rattle.text.specs.Decimal.{value, decimal}
use Rattle.numbers.proofs.Tests.{and_split}
use Rattle.schedule.specs.declared.Shelf as declared
use Rattle.schedule.specs.Lines.{Line, ended, cut}
use Rattle.schedule.specs.Words.{words, is, is_number}
use Rattle.schedule.specs.Start.{Start, mode_in, start_with, start_of, start_in, said_start}
use Rattle.lines.specs.Line.{spaced, mode_word, start_line}
use Rattle.lines.specs.Promises.{StartInRange, StartsAreInRange, OneLinePerStart, EveryStartHasALine, StartsApart}
use Rattle.lines.proofs.Words.{apart, free, words_spaced, spaced_words, word_is, number_most, number_word, number_back, number_free, number_said}

-- ---- the mode's letter

record ModeRead (word : List ℕ) (mode : ℕ) : Type 0 where
  pub most : mode ≤ 3
  pub written : word ≡ mode_word mode

same_mode : (a b : ℕ) → ◌≡◌ {A = Option ℕ} (some a) (some b) → a ≡ b
same_mode a b e = cc

mode_read : (word : List ℕ) (mode : ℕ) → mode_in word ≡ some mode → ModeRead word mode
unfolding mode_in
mode_read word mode e = by_letter (is "s" word) (is "c" word) (is "k" word) (is "-" word) refl refl refl refl
  where
    by_letter : (s c k d : Bool) → is "s" word ≡ s → is "c" word ≡ c → is "k" word ≡ k → is "-" word ≡ d → ModeRead word mode
    by_letter true c k d s-is c_is k-is d_is =
        subst (ModeRead word) (same_mode 1 mode (rw s-is at e)) (record { most = omega arith; written = word_is "s" word s-is })
    by_letter false true k d s-is c_is k-is d_is =
        subst (ModeRead word) (same_mode 2 mode (rw (s-is, c_is) at e)) (record { most = omega arith; written = word_is "c" word c_is })
    by_letter false false true d s-is c_is k-is d_is =
        subst (ModeRead word) (same_mode 3 mode (rw (s-is, c_is, k-is) at e)) (record { most = omega arith; written = word_is "k" word k-is })
    by_letter false false false true s-is c_is k-is d_is =
        subst (ModeRead word) (same_mode 0 mode (rw (s-is, c_is, k-is, d_is) at e)) (record { most = omega arith; written = word_is "-" word d_is })
    by_letter false false false false s-is c_is k-is d_is =
        let no : ◌≡◌ {A = Option ℕ} none (some mode) = rw (s-is, c_is, k-is, d_is) at e in
        apart (cc)

record ModeSaid (mode : ℕ) : Type 0 where
  pub says_it : mode_in (mode_word mode) ≡ some mode
  pub without_spaces : free (mode_word mode) ≡ true

mode_said : (mode : ℕ) → mode ≤ 3 → ModeSaid mode
unfolding mode_in is
mode_said mode most = by_tests (eqb mode 1) (eqb mode 2) (eqb mode 3) refl refl refl
  where
    by_tests : (s c k : Bool) → eqb mode 1 ≡ s → eqb mode 2 ≡ c → eqb mode 3 ≡ k → ModeSaid mode
    by_tests true c k s-is c_is k-is = rw (eqb-true mode 1 s-is) (record { says_it = refl; without_spaces = refl })
    by_tests false true k s-is c_is k-is = rw (eqb-true mode 2 c_is) (record { says_it = refl; without_spaces = refl })
    by_tests false false true s-is c_is k-is = rw (eqb-true mode 3 k-is) (record { says_it = refl; without_spaces = refl })
    by_tests false false false s-is c_is k-is =
        let zero : mode ≡ 0 = omega (arith, eqb-false mode 1 s-is, eqb-false mode 2 c_is, eqb-false mode 3 k-is) in
        rw zero (record { says_it = refl; without_spaces = refl })

-- ---- read

record Tells (ws : List (List ℕ)) (x : Start) : Type 0 where
  pub in_range : StartInRange x
  pub words_are : ws ≡ decimal x.n ∷ decimal x.m ∷ mode_word x.mode ∷ []

module _ (x : Start) where
  if_so : (ws : List (List ℕ)) (t : Bool) (y : Start) → (t ≡ true → Tells ws y) → cond t (some y) none ≡ some x → Tells ws x
  if_so ws true y tells e = let same : y ≡ x = cc in subst (Tells ws) same (tells refl)
  if_so ws false y tells e = apart (cc)

  tells : (ws : List (List ℕ)) → start_of ws ≡ some x → Tells ws x
  tells [] e = apart (cc)
  tells (n ∷ []) e = apart (cc)
  tells (n ∷ m ∷ []) e = apart (cc)
  tells (n ∷ m ∷ mode ∷ []) e = by_mode (mode_in mode) refl e
    where
      never : (t : Bool) → cond t none none ≡ some x → Tells (n ∷ m ∷ mode ∷ []) x
      never true e = apart (cc)
      never false e = apart (cc)

      by_mode : (o : Option ℕ) → mode_in mode ≡ o → cond (is_number n && is_number m) (start_with (value n) (value m) o) none ≡ some x → Tells (n ∷ m ∷ mode ∷ []) x
      by_mode none reads e = never (is_number n && is_number m) e
      by_mode (some k) reads e =
          if_so _ (is_number n && is_number m) (record { n = value n; m = value m; mode = k }) (λ t.
          let both = and_split (is_number n) (is_number m) t in
          let letter = mode_read mode k reads in
          record {
            in_range = record { desks = omega (arith, number_most n both.0); cells = omega (arith, number_most m both.1); mode = omega (arith, letter.most) };
            words_are = cc (number_word n both.0, number_word m both.1, letter.written);
          }) e
  tells (n ∷ m ∷ mode ∷ word ∷ ws) e = apart (cc)

  record TellsIn (l : Line) : Type 0 where
    pub in_range : StartInRange x
    pub line_is : l ≡ ended (start_line x)

  tells_in : (l : Line) → start_in l ≡ some x → TellsIn l
  unfolding start_in
  tells_in (ended line) e =
      let so = tells (words line) e in
      record { in_range = so.in_range; line_is = ap ended (sym (spaced_words line) ∙ ap spaced so.words_are) }
  tells_in (cut line) e = apart (cc)

pub starts_are_in_range : StartsAreInRange
starts_are_in_range l x says = (tells_in x l says).in_range

pub one_line_per_start : OneLinePerStart
one_line_per_start l x says = (tells_in x l says).line_is

-- ---- written

pub every_start_has_a_line : EveryStartHasALine
unfolding start_in
every_start_has_a_line x range =
    let n_small : x.n ≤ 4294967295 = omega (arith, range.desks) in
    let m_small : x.m ≤ 4294967295 = omega (arith, range.cells) in
    let said = mode_said x.mode (omega (arith, range.mode)) in
    ap start_of (words_spaced (decimal x.n) (decimal x.m ∷ mode_word x.mode ∷ []) (rw (number_free x.n n_small, number_free x.m m_small, said.without_spaces)))
    ∙ rw (number_said x.n n_small, number_said x.m m_small, (number_back x.n n_small).same_number, (number_back x.m m_small).same_number, said.says_it)

-- ---- the code's struct

starting : Option Start → std.Option declared.Shelf
starting none = None
starting (some x) = Some (record { n = x.n; m = x.m; mode = x.mode })

found : (a : std.Option declared.Shelf) → starting (said_start a) ≡ a
unfolding starting
found None = refl
found (Some shelf) = refl

pub said_start_tells_apart : StartsApart
said_start_tells_apart a b = answer.apart said_start starting found
