-- What std says of `ends_with` is `ends_in` (specs/Refused.antt).
--   ends_same                                  of any bytes and any text
--   refused_first, refused_second, by_third    which of the three ends of `is_refused` a text has
-- Assumes nothing.
use mathlib.Core.Path.{◌≡◌, refl, sym, ◌∙◌}
use mathlib.Core.List.{List, [], ◌∷◌}
use mathlib.Core.Bool.{Bool, true, false, ◌&&◌, ◌||◌}
use Prim.Native.Nat.{ℕ, ◌-◌, ◌<◌}
use native.Mathlib.Omega.{arith}
use borrow.Author.Tests.{leb-true, leb-false, eqb-true, eqb-false, eq-eqb, ne_eqb}
use lib.Dec.{eqb, leb}
use lib.ListN.{length, drop, length-drop}
use Rattle.std.specs.Cmp.Lexicographic.{pointwise}
use Rattle.std.specs.List.{ends_with}
use Rattle.text.specs.Text.{text}
use Rattle.rounds.specs.Refused.{begins_with, ends_in, is_refused}

eqb_turned : (a b : ℕ) → eqb a b ≡ eqb b a
eqb_turned a b = by_test (eqb a b) refl
  where
    by_test : (t : Bool) → eqb a b ≡ t → eqb a b ≡ eqb b a
    by_test true e = e ∙ sym (eq-eqb b a (sym (eqb-true a b e)))
    by_test false e = e ∙ sym (ne_eqb b a (λ same. eqb-false a b e (sym same)))

-- bytes that are as many as the text's are the text's exactly if it begins with them
same_begins : (bs s : List ℕ) → length bs ≡ length s → pointwise eqb bs s ≡ begins_with bs s
same_begins [] [] e = refl
same_begins [] (x ∷ s) e = absurd (omega arith)
same_begins (b ∷ bs) [] e = refl
same_begins (b ∷ bs) (x ∷ s) e = rw (eqb_turned b x, same_begins bs s (omega arith)) refl

more_than : (bs s : List ℕ) → length s < length bs → pointwise eqb bs s ≡ false
more_than [] s h = absurd (omega arith)
more_than (b ∷ bs) [] h = refl
more_than (b ∷ bs) (x ∷ s) h = rw (more_than bs s (omega arith)) (by_test (eqb b x))
  where
    by_test : (t : Bool) → t && false ≡ false
    by_test true = refl
    by_test false = refl

pub ends_same : (bs s : List ℕ) → ends_with eqb s bs ≡ ends_in bs s
unfolding ends_in
ends_same bs s = by_test (leb (length bs) (length s)) refl
  where
    by_test : (t : Bool) → leb (length bs) (length s) ≡ t → pointwise eqb bs (drop (length s - length bs) s) ≡ leb (length bs) (length s) && begins_with bs (drop (length s - length bs) s)
    by_test true e = rw e (same_begins bs (drop (length s - length bs) s) (omega (arith, leb-true (length bs) (length s) e, length-drop (length s - length bs) s)))
    by_test false e =
        let none : length s - length bs ≡ 0 = omega (arith, leb-false (length bs) (length s) e) in
        rw (e, none) (more_than bs s (omega (arith, leb-false (length bs) (length s) e)))

module _ (printed : List ℕ) (a b c : Bool) where
  pub refused_first : a ≡ ends_with eqb printed (text "too long\n") → a ≡ true → true ≡ is_refused printed
  unfolding is_refused
  refused_first x on = rw (sym (ends_same (text "too long\n") printed), sym x, on) refl

  pub refused_second : b ≡ ends_with eqb printed (text "bad start\n") → b ≡ true → true ≡ is_refused printed
  unfolding is_refused
  refused_second y on = rw (sym (ends_same (text "bad start\n") printed), sym y, on) (by_test (ends_in (text "too long\n") printed))
    where
      by_test : (t : Bool) → true ≡ (t || true) || ends_in (text " bad line\n") printed
      by_test true = refl
      by_test false = refl

  pub by_third : a ≡ ends_with eqb printed (text "too long\n") → a ≡ false → b ≡ ends_with eqb printed (text "bad start\n") → b ≡ false
      → c ≡ ends_with eqb printed (text " bad line\n") → c ≡ is_refused printed
  unfolding is_refused
  by_third x off y none z =
      rw (sym (ends_same (text "too long\n") printed), sym x, off, sym (ends_same (text "bad start\n") printed), sym y, none) (z ∙ ends_same (text " bad line\n") printed)
