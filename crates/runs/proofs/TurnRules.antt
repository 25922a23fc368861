-- Demand 3 (specs/TurnRules.antt) of document 01's calls: after every run all is in order, and then each part follows.
--   turn_rules : Demand3 document01
-- Assumes nothing.
use Prim.Native.Nat.{ℕ, ◌+◌, ◌%◌, ◌≤◌, ◌<◌}
use mathlib.Core.Path.{◌≡◌, refl, sym, ap, ◌∙◌}
use mathlib.Core.Logic.{◌≢◌}
use mathlib.Core.List.{List}
use native.Mathlib.Omega.{arith}
use native.Mathlib.Decide.{dec_lt}
use lib.ListN.{length}
use borrow.Author.Tests.{eqb-true}
use Rattle.answer.specs.Answer.{Answer, answered}
use Rattle.answer.proofs.Laws.{refused_is_not_answered}
use Rattle.desk.specs.declared.Desk.{Desk}
use Rattle.desk.specs.Answers.{Value, waits}
use Rattle.desk.specs.Calls.{document01, waiting_desk}
use Rattle.runs.specs.Call.{Call, reads}
use Rattle.runs.specs.Run.{Shelf, State, sheet_no, start, after, RunOn, reached}
use Rattle.runs.specs.TurnRules.{turn_of, HasTurn, Untaken, OneTurn, OneSheet, WaitEnds, Demand3}
use Rattle.runs.proofs.Laws.InOrder.{InOrder}
use Rattle.runs.proofs.Laws.Cyclic.{window, Next, next}
use Rattle.runs.proofs.Laws.Steps.{put_same, Step, is_refused, is_read, is_waiting, step}
use Rattle.runs.proofs.Laws.Order.{desk_sound, own_last, near, turn_desk_lem}
use Rattle.runs.proofs.Laws.Keeps.{step_in_order}
use Rattle.runs.proofs.Laws.Fresh.{fresh, in_order}
use Rattle.runs.proofs.Laws.Never.{never}
use Rattle.runs.proofs.Laws.Taken.{gone_past}
use Rattle.runs.proofs.Laws.Going.{going}
use Rattle.runs.proofs.Laws.Waiting.{wait_ended}

-- a desk that has its turn is the one whose turn the next sheet is
has_turn : {shelf : Shelf} {s : State} → InOrder shelf s → (p : ℕ) → p < shelf.n → HasTurn s p → p ≡ length s.line % shelf.n
has_turn {shelf} o p here e =
    let mine = o.desks p here in
    let own = sym (turn_desk_lem mine) ∙ eqb-true _ _ e ∙ mine.as_opened.own in
    sym own ∙ ap (λ (k : ℕ). k % shelf.n) (own_last mine own)

-- after a read that waits, it does
now_waits : {s : State} {p cell : ℕ} {a : Answer Value} {t : State} → a ≡ answered waits → Step s (reads p cell) a t → (t.desk p).head.wait ≡ cell + 1
now_waits e (is_refused c k f) = absurd (refused_is_not_answered k waits e)
now_waits e (is_read q i silent w) = absurd (let z : ◌≡◌ {A = ℕ} 0 1 = cc in omega arith)
now_waits {s} e (is_waiting q i silent w) = ap (λ (x : Desk). x.head.wait) (put_same s.desk q (waiting_desk (s.desk q) i))

module _ (shelf : Shelf) (cs : List Call) (r : RunOn document01 shelf cs) where
  o : InOrder shelf (reached document01 shelf cs)
  o = in_order shelf cs r

  one_turn : OneTurn document01 shelf cs
  one_turn p q here there a b = has_turn o p here a ∙ sym (has_turn o q there b)

  -- a sheet of another desk that was not taken is not below the turn number
  not_past : (p k : ℕ) → p < shelf.n → k % shelf.n ≢ p → Untaken document01 shelf cs p k → turn_of (reached document01 shelf cs) p ≤ k
  unfolding start
  not_past p k here other z = by_test (dec_lt k (turn_of (reached document01 shelf cs) p))
    where
      by_test : Dec (k < turn_of (reached document01 shelf cs) p) → turn_of (reached document01 shelf cs) p ≤ k
      by_test (yes l) =
          let clear = fresh shelf r.within in
          let none_sent = (clear.desks p here).no_further in
          absurd (z.untaken (gone_past shelf p here (start document01 shelf) cs clear r.run k (omega (arith, none_sent)) l other))
      by_test (no l) = omega arith

  one_sheet : OneSheet document01 shelf cs
  one_sheet p q here apart j k from_j from_k a b = by_test (dec_lt j k)
    where
      remainder : (i : ℕ) → i < length (reached document01 shelf cs).line → (sheet_no (reached document01 shelf cs) i).from ≡ q → i % shelf.n ≡ q
      remainder i sent e = sym (o.sheets i sent).from ∙ e

      same : j % shelf.n ≡ k % shelf.n
      same = remainder j a.sent from_j ∙ sym (remainder k b.sent from_k)

      j_due : turn_of (reached document01 shelf cs) p ≤ j
      j_due = not_past p j here (λ e. apart (sym (remainder j a.sent from_j) ∙ e)) a

      k_due : turn_of (reached document01 shelf cs) p ≤ k
      k_due = not_past p k here (λ e. apart (sym (remainder k b.sent from_k) ∙ e)) b

      by_test : Dec (j < k) → j ≡ k
      by_test (yes l) = window shelf.n j k (omega arith) (omega (arith, j_due, b.sent, near (o.desks p here))) same
      by_test (no l) = sym (window shelf.n k j (omega arith) (omega (arith, k_due, a.sent, near (o.desks p here))) (sym same))

  wait_ends : WaitEnds document01 shelf cs
  wait_ends p cell here e ds run takes = wait_ended shelf p here cell mine.k mine.leaves t ds later_order run waiting (omega (arith, mine.least, apart)) (omega (arith, mine.near, takes))
    where
      t : State
      t = after document01 (reached document01 shelf cs) (reads p cell)

      later_order : InOrder shelf t
      later_order = step_in_order o here (step (reached document01 shelf cs) (reads p cell))

      waiting : (t.desk p).head.wait ≡ cell + 1
      waiting = now_waits e (step (reached document01 shelf cs) (reads p cell))

      mine : Next shelf.n p (turn_of t p)
      mine = next shelf.n p (turn_of t p) here

      apart : turn_of t p ≢ mine.k
      apart z =
          let at = later_order.desks p here in
          ((desk_sound at).waits (λ none. omega (arith, none, waiting))).elsewhere (turn_desk_lem at ∙ ap (λ (k : ℕ). k % shelf.n) z ∙ mine.leaves ∙ sym at.as_opened.own)

pub turn_rules : Demand3 document01
turn_rules shelf cs r =
    record {
      one_turn = one_turn shelf cs r;
      one_sheet = one_sheet shelf cs r;
      no_17 = never _ refl (in_order shelf cs r);
      goes_on = λ before. going (in_order shelf cs r) 0 r.within.desks_least (before 0 r.within.desks_least);
      wait_ends = wait_ends shelf cs r;
    }
