-- The end of the turn numbers comes (specs/TheEndComes.antt): two desks that send and take in turn get there, one turn number after the other.
--   the_end_comes : TheEndComes
-- Assumes nothing.
use Prim.Native.Nat.{ℕ, zero, suc, ◌+◌, ◌%◌, ◌≤◌, ◌<◌}
use mathlib.Core.Path.{◌≡◌, refl, ap, ◌∙◌, sym}
use mathlib.Core.Logic.{◌≢◌}
use mathlib.Core.List.{List, [], ◌∷◌, ◌++◌}
use native.Mathlib.Omega.{arith}
use native.Mathlib.Nat.{mod-lt}
use native.Mathlib.Numerals.{add-one}
use native.Mathlib.Decide.{ℕ_discrete}
use lib.ListN.{length-replicate}
use borrow.Author.Tests.{eq-eqb, ne_eqb}
use Rattle.answer.specs.Answer.{answered}
use Rattle.sound.specs.Head.{turn_desk}
use Rattle.refusals.specs.Rules.{last_turn}
use Rattle.desk.specs.declared.Desk.{Desk}
use Rattle.desk.specs.Answers.{sent}
use Rattle.desk.specs.Calls.{document01, open_of, send_of}
use Rattle.keeping.proofs.Keeping.{numbers_stay}
use Rattle.runs.specs.Call.{Call, sends, delivers, takes, sheet_room}
use Rattle.runs.specs.Run.{State, sheet_no, start, after, Run, after_all, RunOn, reached}
use Rattle.runs.specs.TurnRules.{turn_of, CanTake}
use Rattle.witness.specs.TheEndComes.{one_cell, TheEndComes}
use Rattle.runs.proofs.Laws.InOrder.{InOrder}
use Rattle.runs.proofs.Laws.Keeps.{step_in_order}
use Rattle.runs.proofs.Laws.Fresh.{in_order}
use Rattle.runs.proofs.Laws.Lists.{after_all_append, run_append}
use Rattle.runs.proofs.Laws.Steps.{own_record, other_record, step}
use Rattle.runs.proofs.Laws.Order.{own_last, turn_desk_lem}
use Rattle.runs.proofs.Laws.Shelves.{sized}
use Rattle.runs.proofs.Laws.Going.{can_send, can_take}
use Rattle.runs.proofs.AtTheEnd.{nothing_breaks}

-- the calls so far bring both desks to a turn number
record Brings (turn : ℕ) : Type 0 where
  calls : List Call
  run : RunOn document01 one_cell calls
  desk_0 : turn_of (reached document01 one_cell calls) 0 ≡ turn
  desk_1 : turn_of (reached document01 one_cell calls) 1 ≡ turn

abbrev turn_in : Desk → ℕ
turn_in d = d.head.turn

-- desk p, whose turn it is, sends, and desk q takes that sheet
module _ (turn : ℕ) (low : turn < last_turn) (s : State) (o : InOrder one_cell s) (p q : ℕ) (here : p < 2) (there : q < 2) (apart : q ≢ p)
    (has : turn % 2 ≡ p) (at_p : turn_of s p ≡ turn) (at_q : turn_of s q ≡ turn) where
  s₁ : State
  s₁ = after document01 s (sends p sheet_room)

  o₁ : InOrder one_cell s₁
  unfolding s₁
  o₁ = step_in_order o here (step s (sends p sheet_room))

  can : (entries : ℕ) × ((send_of (s.desk p) sheet_room).answer ≡ answered (sent (turn_of s p) entries))
  unfolding sheet_room
  can =
      let own = ap (λ (k : ℕ). k % 2) at_p ∙ has in
      let far = own_last (o.desks p here) own in
      can_send o p here (ap (λ (k : ℕ). k % 2) (sym far) ∙ own) (omega (arith, at_p)) far sheet_room (omega (arith, length-replicate {A = ℕ} 396 0))

  p₁ : turn_of s₁ p ≡ turn + 1
  unfolding s₁
  p₁ = ap turn_in (own_record document01 s (sends p sheet_room)) ∙ numbers_stay.send_turn (s.desk p) sheet_room (sent (turn_of s p) can.0) can.1 ∙ ap (λ (k : ℕ). k + 1) at_p

  q₁ : turn_of s₁ q ≡ turn
  unfolding s₁
  q₁ = ap turn_in (other_record document01 s (sends p sheet_room) q apart) ∙ at_q

  took : CanTake document01 s₁ q
  took =
      can_take o₁ q there (omega (arith, p₁, q₁, (o₁.desks p here).no_further)) (λ own. apart (sym own ∙ ap (λ (k : ℕ). k % 2) q₁ ∙ has)) (omega (arith, q₁))

  s₂ : State
  s₂ = after document01 s₁ (delivers q took.k)

  round : List Call
  round = sends p sheet_room ∷ delivers q took.k ∷ takes q ∷ []

  round_run : Run document01 2 s round
  unfolding round s₁ Run
  round_run = (here, ((there, took.sent), (there, tt)))

  q₃ : turn_of (after_all document01 s round) q ≡ turn + 1
  unfolding round s₁ s₂ after_all
  q₃ =
      ap turn_in (own_record document01 s₂ (takes q))
      ∙ numbers_stay.take_turn (s₂.desk q) (s₂.tray q) _ took.taken_then
      ∙ ap (λ (k : ℕ). k + 1) (ap turn_in (own_record document01 s₁ (delivers q took.k)) ∙ ap turn_in (numbers_stay.deliver (s₁.desk q) (s₁.tray q) (sheet_no s₁ took.k).bytes) ∙ q₁)

  p₃ : turn_of (after_all document01 s round) p ≡ turn + 1
  unfolding round s₁ s₂ after_all
  p₃ =
      ap turn_in (other_record document01 s₂ (takes q) p (λ e. apart (sym e)))
      ∙ ap turn_in (other_record document01 s₁ (delivers q took.k) p (λ e. apart (sym e)))
      ∙ p₁

one_more : (turn : ℕ) → turn < last_turn → Brings turn → Brings (turn + 1)
one_more turn low b = by_turn (ℕ_discrete (turn % 2) 0)
  where
    s : State
    s = reached document01 one_cell b.calls

    o : InOrder one_cell s
    o = in_order one_cell b.calls b.run

    on : (cs : List Call) → Run document01 2 s cs → turn_of (after_all document01 s cs) 0 ≡ turn + 1 → turn_of (after_all document01 s cs) 1 ≡ turn + 1 → Brings (turn + 1)
    on cs r zero_is one_is =
        let both = after_all_append document01 (start document01 one_cell) b.calls cs in
        record {
          calls = b.calls ++ cs;
          run = record { within = b.run.within; run = run_append document01 2 (start document01 one_cell) b.calls cs b.run.run r };
          desk_0 = ap (λ (t : State). turn_of t 0) both ∙ zero_is;
          desk_1 = ap (λ (t : State). turn_of t 1) both ∙ one_is;
        }

    by_turn : Dec (turn % 2 ≡ 0) → Brings (turn + 1)
    by_turn (yes e) =
        let apart : ◌≢◌ {A = ℕ} 1 0 = λ z. omega (arith, z) in
        on (round turn low s o 0 1 (omega arith) (omega arith) apart e b.desk_0 b.desk_1)
        (round_run turn low s o 0 1 (omega arith) (omega arith) apart e b.desk_0 b.desk_1)
        (p₃ turn low s o 0 1 (omega arith) (omega arith) apart e b.desk_0 b.desk_1)
        (q₃ turn low s o 0 1 (omega arith) (omega arith) apart e b.desk_0 b.desk_1)
    by_turn (no e) =
        let apart : ◌≢◌ {A = ℕ} 0 1 = λ z. omega (arith, z) in
        let h : turn % 2 < 2 = mod-lt turn (omega arith) in
        let odd : turn % 2 ≡ 1 = omega arith in
        on (round turn low s o 1 0 (omega arith) (omega arith) apart odd b.desk_1 b.desk_0)
        (round_run turn low s o 1 0 (omega arith) (omega arith) apart odd b.desk_1 b.desk_0)
        (q₃ turn low s o 1 0 (omega arith) (omega arith) apart odd b.desk_1 b.desk_0)
        (p₃ turn low s o 1 0 (omega arith) (omega arith) apart odd b.desk_1 b.desk_0)

none_yet : Brings 0
unfolding Run after_all start open_of
none_yet = record { calls = []; run = record { within = sized 2 1 2 refl; run = tt }; desk_0 = refl; desk_1 = refl }

brings : (turn : ℕ) → turn ≤ last_turn → Brings turn
brings zero h = none_yet
brings (suc turn) h = rw (← (add-one turn)) (one_more turn (omega arith) (brings turn (omega arith)))

-- both desks are there
ended : Brings last_turn → TheEndComes
ended b =
    let s = reached document01 one_cell b.calls in
    let o = in_order one_cell b.calls b.run in
    let none = o.desks 0 (omega arith) in
    let one = o.desks 1 (omega arith) in
    let turn_0 : turn_desk (s.desk 0).head ≡ 1 = turn_desk_lem none ∙ ap (λ (k : ℕ). k % 2) b.desk_0 in
    let turn-1 : turn_desk (s.desk 1).head ≡ 1 = turn_desk_lem one ∙ ap (λ (k : ℕ). k % 2) b.desk_1 in
    record {
      calls = b.calls;
      run = b.run;
      desk_0 = b.desk_0;
      desk_1 = b.desk_1;
      send_10 = (nothing_breaks one_cell b.calls b.run 1 (omega arith) b.desk_1).own_send (eq-eqb (turn_desk (s.desk 1).head) (s.desk 1).head.own (turn-1 ∙ sym one.as_opened.own));
      take_10 = (nothing_breaks one_cell b.calls b.run 0 (omega arith) b.desk_0).other_take (ne_eqb (turn_desk (s.desk 0).head) (s.desk 0).head.own (λ e. omega (arith, e, turn_0, none.as_opened.own)));
    }

pub the_end_comes : TheEndComes
the_end_comes = ended (brings last_turn (omega arith))
