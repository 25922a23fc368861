-- Laws of `standing_on`, `cleared`, `past` and `said_standing` (specs/Standing.antt), as specs/Promises.antt states them.
--   said_standing_tells_apart : StandingsApart
--   on_the_day : OnEachDay, on_the_next_day : OnEachNextDay, past_after : PastExactlyAfter, no_day : WithoutADay, both_ends : BothEnds
-- Assumes nothing.
use mathlib.Core.Path.{◌≡◌, refl, ap, sym, ◌∙◌}
use mathlib.Core.Bool.{Bool, true, false, not, cond}
use Prim.Native.Nat.{ℕ, zero, suc}
use native.Mathlib.Omega.{arith}
use lib.Dec.{ltb}
use lib.IntN.{ℤ, pos, negsuc, suc_ℤ, pred_ℤ, neg_ℤ, ◌+ℤ◌, ◌-ℤ◌, neg_ℤ-suc_ℤ, +ℤ-pred_ℤ, +ℤ_invr}
use lib.Signed.{lt_z}
use borrow.Author.Tests.{le-ltb, lt-ltb, ltb-true, ltb-false}
use Rattle.answer.proofs.Laws.{again, apart}
use Rattle.content.specs.declared.Content.TheVariants.{Day}
use Rattle.content.specs.declared.Standing.{Standing}
use Rattle.content.specs.declared.Standing.TheVariants as standing
use Rattle.content.specs.Standing.{Stands, unknown, no_end, left, standing_on, cleared, past, said_standing}
use Rattle.content.specs.Promises.{OnEachDay, OnEachNextDay, PastExactlyAfter, WithoutADay, BothEnds, StandingsApart}

-- ---- the answer

-- a standing is never refused, so it does not matter which case stands for that
case : Stands → Standing
case unknown = standing.Unknown
case no_end = standing.Open
case (left n) = standing.Left n

found : (a : Standing) → again (λ k. standing.Unknown) case (said_standing a) ≡ a
unfolding case
found standing.Unknown = refl
found standing.Open = refl
found (standing.Left n) = refl

pub said_standing_tells_apart : StandingsApart
said_standing_tells_apart a b = apart said_standing (again (λ k. standing.Unknown) case) found

-- ---- on the day and on the next

pub on_the_day : OnEachDay
on_the_day d =
    let none : d -ℤ d ≡ pos 0 = +ℤ_invr d in
    record { none_left = ap left none; still_cleared = ap (λ (z : ℤ). cleared (left z)) none; not_past = ap (λ (z : ℤ). past (left z)) none }

pub on_the_next_day : OnEachNextDay
on_the_next_day d =
    let one : d -ℤ suc_ℤ d ≡ negsuc 0 = ap (λ (z : ℤ). d +ℤ z) (neg_ℤ-suc_ℤ d) ∙ +ℤ-pred_ℤ d (neg_ℤ d) ∙ ap pred_ℤ (+ℤ_invr d) in
    record { one_less = ap left one; not_cleared = ap (λ (z : ℤ). cleared (left z)) one; is_past = ap (λ (z : ℤ). past (left z)) one }

-- ---- on any day

by_less : (b : Bool) (x y : ℕ) → past (left (cond b (negsuc x) (pos y))) ≡ b
by_less true x y = refl
by_less false x y = refl

past_is_after : (d today : ℤ) → past (standing_on (Day d) today) ≡ lt_z d today
past_is_after (pos a) (pos zero) = sym (le-ltb a 0 (omega arith))
past_is_after (pos a) (pos (suc b)) = by_less (ltb a (suc b)) _ _
past_is_after (pos a) (negsuc b) = refl
past_is_after (negsuc a) (pos zero) = by_less (ltb 0 (suc a)) _ _ ∙ lt-ltb 0 (suc a) (omega arith)
past_is_after (negsuc a) (pos (suc b)) = refl
past_is_after (negsuc a) (negsuc b) = by_less (ltb (suc b) (suc a)) _ _ ∙ one_off (ltb b a) refl
  where
    one_off : (t : Bool) → ltb b a ≡ t → ltb (suc b) (suc a) ≡ ltb b a
    one_off true p = lt-ltb (suc b) (suc a) (let h = ltb-true b a p in omega arith) ∙ sym p
    one_off false p = le-ltb (suc b) (suc a) (let h = ltb-false b a p in omega arith) ∙ sym p

cleared_or_past : (z : ℤ) → cleared (left z) ≡ not (past (left z))
cleared_or_past (pos n) = refl
cleared_or_past (negsuc n) = refl

pub past_after : PastExactlyAfter
past_after d today =
    record { past_after = past_is_after d today; else_cleared = cleared_or_past (d -ℤ today) ∙ ap not (past_is_after d today) }

pub no_day : WithoutADay
no_day today = record { blank_not_cleared = refl; blank_not_past = refl; open_cleared = refl; open_not_past = refl }

pub both_ends : BothEnds
both_ends = record { greatest_on_least = refl; least_on_greatest = refl }
