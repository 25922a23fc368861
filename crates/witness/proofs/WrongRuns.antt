-- The runs of specs/WrongRuns.antt by computing, and after each the part of the demand that is false.
--   each_part_bites : EachPartBites
-- Assumes nothing.
use mathlib.Core.Path.{◌≡◌, refl, sym, ◌∙◌}
use mathlib.Core.Logic.{◌⊎◌, inl, inr}
use mathlib.Core.List.{List, [], ◌∷◌}
use Prim.Native.Nat.{ℕ, ◌<◌}
use native.Mathlib.Omega.{arith}
use borrow.Author.Tests.{ltb-true, leb-true}
use Rattle.answer.specs.Answer.{refused}
use Rattle.answer.proofs.Laws.{refused_is_not_answered}
use Rattle.refusals.specs.Rules.{last_turn}
use Rattle.runs.specs.Call.{Call, reads, sends, delivers, takes, sheet_room}
use Rattle.runs.specs.Run.{State, start, made, after, reached}
use Rattle.runs.specs.TurnRules.{turn_of, OneTurn, OneSheet, Never, GoesOn, WaitEnds, Untaken, CanSend, CanTake, takes_by}
use Rattle.witness.specs.RunsPlayed.{two_desks, three_desks, three_sheets}
use Rattle.witness.specs.WrongRuns.{Bites, send_keeping_turn, send_keeps_turn, sent_and_taken, sent_twice, deliver_refusing_early, refuses17_early, take_leaving_sheet, take_leaves_sheet, round_and_on, take_ending_no_read, send_ending_read, read_ends_late, one_written, EachPartBites}
use Rattle.witness.proofs.Laws.Tested.{computing, below_two, below_three, is_possible, is_run, no_take, no_answer}
use Rattle.witness.proofs.RunsPlayed.{on_two, on_three}

zero_is_not_one : ◌≡◌ {A = ℕ} 0 1 → ⊥
zero_is_not_one e = omega arith

one_turn : Bites OneTurn send_keeps_turn two_desks sent_and_taken
unfolding computing sheet_room send_keeping_turn sent_and_taken
one_turn =
    record {
      run = on_two send_keeps_turn sent_and_taken refl;
      is_false = λ part. zero_is_not_one (part 0 1 (omega arith) (omega arith) refl refl);
    }

one_sheet : Bites OneSheet send_keeps_turn two_desks sent_twice
unfolding computing sheet_room send_keeping_turn sent_twice
one_sheet =
    record {
      run = on_two send_keeps_turn sent_twice refl;
      is_false = λ part. zero_is_not_one (part 1 0 (omega arith) zero_is_not_one 0 1 refl refl (untaken 0 (omega arith)) (untaken 1 (omega arith)));
    }
  where
    untaken : (k : ℕ) → k < 2 → Untaken send_keeps_turn two_desks sent_twice 1 k
    untaken k h = record { sent = h; untaken = no_take send_keeps_turn 1 _ (start send_keeps_turn two_desks) sent_twice refl }

no_17 : Bites (Never 17) refuses17_early three_desks three_sheets
unfolding computing sheet_room deliver_refusing_early three_sheets
no_17 =
    record {
      run = on_three refuses17_early three_sheets refl;
      is_false = λ part. part (delivers 0 2) (is_possible 3 (reached refuses17_early three_desks three_sheets) (delivers 0 2) refl) refl;
    }

-- neither desk has its turn; and whichever sheet is delivered, the place of the desk whose turn it is still holds what was taken from it
stuck : State
stuck = reached take_leaves_sheet two_desks round_and_on

no_send : (p : ℕ) → p < 2 → (made take_leaves_sheet stuck (sends p sheet_room)).answer ≡ refused 9
unfolding computing sheet_room take_leaving_sheet round_and_on stuck
no_send = below_two (λ p. (made take_leaves_sheet stuck (sends p sheet_room)).answer ≡ refused 9) refl refl

abbrev NoNext : ℕ → ℕ → Type 0
NoNext p k = (made take_leaves_sheet (after take_leaves_sheet stuck (delivers p k)) (takes p)).answer ≡ refused 21

no_next : (p : ℕ) → p < 2 → (k : ℕ) → k < 3 → NoNext p k
unfolding computing sheet_room take_leaving_sheet round_and_on stuck
no_next =
    below_two (λ p. (k : ℕ) → k < 3 → NoNext p k)
    (below_three (NoNext 0) refl refl refl)
    (below_three (NoNext 1) refl refl refl)

goes_on : Bites GoesOn take_leaves_sheet two_desks round_and_on
unfolding computing sheet_room take_leaving_sheet round_and_on stuck
goes_on =
    record {
      run = on_two take_leaves_sheet round_and_on refl;
      is_false = λ part. let can = part before_the_end in neither can.0 can.1 can.2;
    }
  where
    before_the_end : (p : ℕ) → p < 2 → turn_of stuck p < last_turn
    before_the_end = below_two (λ p. turn_of stuck p < last_turn) (ltb-true 3 last_turn refl) (ltb-true 2 last_turn refl)

    neither : (p : ℕ) → p < 2 → CanSend take_leaves_sheet stuck p ⊎ CanTake take_leaves_sheet stuck p → ⊥
    neither p h (inl can) = refused_is_not_answered 9 _ (sym (no_send p h) ∙ (can sheet_room (omega arith)).1)
    neither p h (inr can) = refused_is_not_answered 21 _ (sym (no_next p h can.k can.sent) ∙ can.taken_then)

wait_ends : Bites WaitEnds read_ends_late two_desks one_written
unfolding computing sheet_room send_ending_read take_ending_no_read one_written
wait_ends =
    record {
      run = on_two read_ends_late one_written refl;
      is_false =
          λ part.
          let said = part 1 1 (omega arith) refl onwards (is_run read_ends_late 2 s onwards refl) (leb-true 1 (takes_by read_ends_late 1 s onwards) refl) in
          no_answer read_ends_late 1 1 s onwards refl said;
    }
  where
    s : State
    s = after read_ends_late (reached read_ends_late two_desks one_written) (reads 1 1)

    -- desk 1's accepted take number 1, and its next send
    onwards : List Call
    onwards = sends 0 sheet_room ∷ delivers 1 0 ∷ takes 1 ∷ sends 1 sheet_room ∷ []

pub each_part_bites : EachPartBites
each_part_bites = record { one_turn = one_turn; one_sheet = one_sheet; no_17 = no_17; goes_on = goes_on; wait_ends = wait_ends }
