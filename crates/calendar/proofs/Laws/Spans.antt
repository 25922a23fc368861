-- Laws of `before` and `span_of` (specs/Spans.antt), over any row of spans: they serve the years and the months of a year alike.
--   before_first, before_next     the first span begins at 0, and each next one where the one before it ends
--   before_grows                  a later span begins no earlier
--   before_orders                 so a span that begins earlier is earlier
--   span_found                    the span in which a day falls is the one that `span_of` gives
--   span_falls                    and the day does fall in the span that `span_of` gives, if it lies before the end of the row
--   span_within                   which is one of the row
-- Assumes nothing.
use mathlib.Core.Path.{◌≡◌, refl, ap, sym}
use mathlib.Core.Bool.{Bool, true, false, cond}
use mathlib.Core.Logic.{⊎_elim}
use Prim.Native.Nat.{ℕ, zero, suc, ◌+◌, ◌≤◌, ◌<◌, zero-le}
use native.Mathlib.Nat.{eq-or-lt_of_le, le_of_eq, lt_of_not-le, not-le_of_lt, not-suc-le-zero}
use native.Mathlib.Omega.{arith}
use lib.Dec.{leb}
use borrow.Author.Tests.{leb-true, leb-false, le-leb, lt-leb}
use Rattle.calendar.specs.Spans.{before, span_of}

-- day i falls in span k: k begins on it or earlier, and the next begins later
pub record Falls (len : ℕ → ℕ) (i k : ℕ) : Type 0 where
  pub begins : before len k ≤ i
  pub ends : i < before len (suc k)

module _ (len : ℕ → ℕ) where
  pub before_first : before len 0 ≡ 0
  unfolding before
  before_first = refl

  pub before_next : (k : ℕ) → before len (suc k) ≡ before len k + len k
  unfolding before
  before_next k = refl

  pub before_grows : (k m : ℕ) → k ≤ m → before len k ≤ before len m
  unfolding before
  before_grows zero m h = zero-le
  before_grows (suc k) zero h = absurd (not-suc-le-zero h)
  before_grows (suc k) (suc m) h =
      ⊎_elim (λ e. le_of_eq (ap (before len) e)) (λ l. omega (arith, before_grows (suc k) m (omega arith))) (eq-or-lt_of_le h)

  pub before_orders : (k m : ℕ) → before len k < before len m → k < m
  before_orders k m h = lt_of_not-le (λ g. not-le_of_lt h (before_grows m k g))

  pub span_found : (n k i : ℕ) → k ≤ n → Falls len i k → span_of len n i ≡ k
  unfolding span_of
  span_found zero k i h f = omega arith
  span_found (suc n) k i h f =
      ⊎_elim
      (λ e. rw (le-leb (before len (suc n)) i (rw e at f.begins)) (sym e))
      (λ l. rw (lt-leb (before len (suc n)) i (omega (arith, f.ends, before_grows (suc k) (suc n) l))) (span_found n k i (omega arith) f))
      (eq-or-lt_of_le h)

  -- by the test of whether the last span begins no later
  by_last : (n i : ℕ) (b : Bool) → leb (before len (suc n)) i ≡ b → i < before len (suc (suc n)) → (i < before len (suc n) → Falls len i (span_of len n i)) → Falls len i (cond b (suc n) (span_of len n i))
  by_last n i true e h earlier = record { begins = leb-true _ _ e; ends = h }
  by_last n i false e h earlier = earlier (leb-false _ _ e)

  pub span_falls : (n i : ℕ) → i < before len (suc n) → Falls len i (span_of len n i)
  unfolding before span_of
  span_falls zero i h = record { begins = zero-le; ends = h }
  span_falls (suc n) i h = by_last n i (leb (before len (suc n)) i) refl h (span_falls n i)

  one_of : (n k : ℕ) (b : Bool) → k ≤ n → cond b (suc n) k ≤ suc n
  one_of n k true h = omega arith
  one_of n k false h = omega arith

  pub span_within : (n i : ℕ) → span_of len n i ≤ n
  unfolding span_of
  span_within zero i = zero-le
  span_within (suc n) i = one_of n (span_of len n i) (leb (before len (suc n)) i) (span_within n i)
