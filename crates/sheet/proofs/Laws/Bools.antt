-- Tests of many parts, put in another order. They are taken apart by crates/numbers/proofs/Tests.antt.
--   in_any_order                   a set for `simp`: two conjunctions of the same tests are equal, in whatever order and bracketing
-- Assumes nothing.
use mathlib.Core.Path.{◌≡◌, refl}
use mathlib.Core.Bool.{Bool, true, false, ◌&&◌, and_assoc, and_comm}

pub and_left_comm : (a b c : Bool) → a && (b && c) ≡ b && (a && c)
and_left_comm true true c = refl
and_left_comm true false c = refl
and_left_comm false true c = refl
and_left_comm false false c = refl

pub ruleset in_any_order = (and_assoc, and_comm, and_left_comm)
