-- The runs of specs/RunsPlayed.antt, by computing; that a desk can take comes from `can_take`.
--   runs_played : RunsPlayed
--   on_two, on_three      calls of which a test that computes says that they are a run on two desks, or on three
-- Assumes nothing.
use mathlib.Core.Path.{◌≡◌, refl, sym, ◌∙◌}
use mathlib.Core.Bool.{true, false, not, ◌&&◌, false≢true}
use mathlib.Core.List.{List, [], ◌∷◌, ◌++◌}
use Prim.Native.Nat.{ℕ, zero, suc, ◌%◌, ◌<◌}
use native.Mathlib.Omega.{arith}
use lib.Dec.{eqb, ltb}
use lib.IntN.{pos}
use lib.ListN.{length}
use borrow.Author.Tests.{ltb-true}
use Rattle.answer.proofs.Laws.{refused_is_not_answered}
use Rattle.content.specs.declared.Content.TheVariants.{Open, Day}
use Rattle.numbers.proofs.Tests.{tested}
use Rattle.tray.specs.Tray.{sheet_at}
use Rattle.refusals.specs.Rules.{last_turn}
use Rattle.runs.specs.Call.{Call, writes, reads, delivers, takes, sheet_room}
use Rattle.desk.specs.Calls.{Calls, document01}
use Rattle.runs.specs.Run.{Shelf, State, sheet_no, start, Run, RunOn, reached}
use Rattle.runs.specs.TurnRules.{turn_of, HasTurn, CanSend, CanTake, answers_it}
use Rattle.witness.specs.RunsPlayed.{two_desks, three_desks, HoldsUntaken, one_sheet, two_sheets, TwoHold, before_the_read, while_it_waits, until_answered, wait_answers, since_the_read, LongestWait, sheet_on_the_line, NobodySends, three_sheets, three_sheets_answers, Furthest, full_shelf, written, FullSheet, RunsPlayed}
use Rattle.runs.proofs.Laws.Fresh.{in_order}
use Rattle.runs.proofs.Laws.Going.{can_take}
use Rattle.runs.proofs.Laws.Shelves.{sized}
use Rattle.runs.proofs.Laws.Lists.{run_append}
use Rattle.witness.proofs.Laws.Tested.{computing, below_two, below_three, is_possible, all_possible, is_run, answered_last, some_seen, sees_take, no_take, no_answer}

pub on_two : (calls : Calls) (cs : List Call) → all_possible calls 2 (start calls two_desks) cs ≡ true → RunOn calls two_desks cs
on_two calls cs e = record { within = sized 2 2 1 refl; run = is_run calls 2 (start calls two_desks) cs e }

pub on_three : (calls : Calls) (cs : List Call) → all_possible calls 3 (start calls three_desks) cs ≡ true → RunOn calls three_desks cs
on_three calls cs e = record { within = sized 3 2 1 refl; run = is_run calls 3 (start calls three_desks) cs e }

-- an empty sheet of 3 desks and 2 cells, by the desk and with the turn number k
empty : ℕ → List ℕ
empty k = 0x00 ∷ 0x00 ∷ 0x00 ∷ k ∷ 0x03 ∷ 0x02 ∷ 0x00 ∷ 0x00 ∷ k ∷ 0x00 ∷ 0x00 ∷ 0x00 ∷ []

-- desk p holds sheet k, which is that one, and has taken none
module _ (cs : List Call) (p k : ℕ) where
  abbrev s : State
  s = reached document01 three_desks cs

  holds_untaken : sheet_at (s.tray p) (sheet_no s k).from ≡ empty k
      → (sheet_no s k).bytes ≡ empty k
      → ltb k (length s.line) ≡ true
      → some_seen document01 (sees_take p) (start document01 three_desks) cs ≡ false
      → HoldsUntaken three_desks cs p k
  holds_untaken in_tray bytes is_sent no_takes =
      record {
        in_tray = in_tray ∙ sym bytes;
        untaken =
            record {
              sent = ltb-true k (length s.line) is_sent;
              untaken = no_take document01 p k (start document01 three_desks) cs no_takes;
            };
      }

-- a desk whose turn number is below the line and not its own can take
takes_next : (shelf : Shelf) (cs : List Call) (p : ℕ) → RunOn document01 shelf cs
    → (let k = turn_of (reached document01 shelf cs) p in ltb p shelf.n && ltb k (length (reached document01 shelf cs).line) && not (eqb (k % shelf.n) p) && ltb k last_turn ≡ true)
    → CanTake document01 (reached document01 shelf cs) p
takes_next shelf cs p r e = can_take (in_order shelf cs r) p (search tested) (search tested) (search tested) (search tested)

two_hold : TwoHold
unfolding computing sheet_room one_sheet two_sheets empty
two_hold =
    record {
      one_plays = record { run = on_three document01 one_sheet refl; answers_are = refl };
      desk_1 = holds_untaken one_sheet 1 0 refl refl refl refl;
      desk_2 = holds_untaken one_sheet 2 0 refl refl refl refl;
      no_turn = below_three (λ p. HasTurn (reached document01 three_desks one_sheet) p → ⊥) false≢true false≢true false≢true;
      there_already = refl;
      can_take = takes_next three_desks one_sheet 1 (on_three document01 one_sheet refl) refl;
      two_play = record { run = on_three document01 two_sheets refl; answers_are = refl };
      from_desk_0 = refl;
      from_desk_1 = refl;
      sheet_0 = holds_untaken two_sheets 2 0 refl refl refl refl;
      sheet_1 = holds_untaken two_sheets 2 1 refl refl refl refl;
    }

longest_wait : LongestWait
unfolding computing sheet_room before_the_read while_it_waits until_answered wait_answers
longest_wait =
    record {
      plays =
          record { run = on_three document01 (before_the_read ++ reads 0 1 ∷ until_answered) refl; answers_are = refl };
      read_waits = refl;
      one_take = refl;
      not_yet = no_answer document01 0 1 since_the_read while_it_waits refl;
      two_takes = refl;
      at_last =
          answered_last document01 0 1 since_the_read while_it_waits (takes 0) refl (answers_it 2 1 1 (Day (pos 9)) refl refl refl);
    }

nobody_sends : NobodySends
unfolding computing sheet_room sheet_on_the_line
nobody_sends =
    let s = reached document01 two_desks sheet_on_the_line in
    record {
      fresh = refl;
      plays = record { run = on_two document01 sheet_on_the_line refl; answers_are = refl };
      before_the_end = below_two (λ p. turn_of s p < last_turn) (ltb-true 1 last_turn refl) (ltb-true 0 last_turn refl);
      no_turn = below_two (λ p. HasTurn s p → ⊥) false≢true false≢true;
      no_send =
          below_two (λ p. CanSend document01 s p → ⊥)
          (λ can. refused_is_not_answered 9 _ (can sheet_room (omega arith)).1)
          (λ can. refused_is_not_answered 9 _ (can sheet_room (omega arith)).1);
      next_sheet = takes_next two_desks sheet_on_the_line 1 (on_two document01 sheet_on_the_line refl) refl;
    }

furthest : Furthest
unfolding computing sheet_room three_sheets three_sheets_answers
furthest =
    record {
      plays = record { run = on_three document01 three_sheets refl; answers_are = refl };
      turn = refl;
      number = refl;
      possible = is_possible 3 (reached document01 three_desks three_sheets) (delivers 0 2) refl;
      is_held = refl;
    }

written_runs : (k : ℕ) → Run document01 1 (start document01 full_shelf) (written k)
unfolding Run written
written_runs zero = tt
written_runs (suc k) =
    run_append document01 1 (start document01 full_shelf) (written k) (writes 0 k Open ∷ []) (written_runs k) ((omega arith, record { sfits = omega arith }), tt)

full_sheet : FullSheet
unfolding computing written
full_sheet =
    record {
      run = record { within = sized 1 64 2 refl; run = written_runs 64 };
      too_few = refl;
      enough = refl;
    }

pub runs_played : RunsPlayed
runs_played =
    record {
      two_hold = two_hold;
      longest_wait = longest_wait;
      nobody_sends = nobody_sends;
      furthest = furthest;
      full_sheet = full_sheet;
    }
