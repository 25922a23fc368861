-- Tests of many parts, taken apart. They stand in this crate, which stands on no other, for all crates above it.
--   and_split, neither            both parts of `a && b` that holds, and of `a || b` that does not; each part alone: and_left, or_left and the like
--   tested                        a set for `search`: each part of a chain of tests as the fact that it tests, wherever in the chain it stands
-- Assumes nothing.
use mathlib.Core.Path.{◌≡◌, refl, sym}
use mathlib.Core.Bool.{Bool, true, false, ◌&&◌, ◌||◌, false≢true, and-eq-true_iff}
use borrow.Author.Tests.{eqb-true, leb-true, ltb-true, eqb-false, leb-false, ltb-false, not-true, not-false}

module _ (a b : Bool) where
  pub and_split : a && b ≡ true → (a ≡ true) × (b ≡ true)
  and_split = (and-eq-true_iff a b).0

  pub and_left : a && b ≡ true → a ≡ true
  and_left e = (and_split e).0

  pub and_right : a && b ≡ true → b ≡ true
  and_right e = (and_split e).1

pub neither : (a b : Bool) → a || b ≡ false → (a ≡ false) × (b ≡ false)
neither true b e = absurd (false≢true (sym e))
neither false b e = (refl, e)

module _ (a b : Bool) where
  pub or_left : a || b ≡ false → a ≡ false
  or_left e = (neither a b e).0

  pub or_right : a || b ≡ false → b ≡ false
  or_right e = (neither a b e).1

pub ruleset tested =
    (and_left, and_right, or_left, or_right, eqb-true, leb-true, ltb-true, eqb-false, leb-false, ltb-false, not-true, not-false)
