-- No call changes n, m, own number or mode, and the turn number goes up by 1 in a send and a take that are carried out, and else stays: the next
-- record of each call says so.
--   write_numbers, read_numbers, send_numbers, take_numbers
--   write_turn, read_turn, send_turn, take_turn
-- That a delivery keeps the whole record is proved in proofs/Laws/Deliver.antt.
-- Assumes nothing.
use mathlib.Core.Path.{◌≡◌, refl, sym, subst}
use mathlib.Core.Bool.{Bool, true, false, cond}
use mathlib.Core.List.{List}
use Prim.Native.Nat.{ℕ, ◌+◌}
use Rattle.answer.specs.Answer.{Rule, answered, answer, leaves}
use Rattle.answer.proofs.Laws.{answered_only_if, changed_if}
use Rattle.content.specs.declared.Content.{Content}
use Rattle.desk.specs.declared.Desk.{Desk}
use Rattle.desk.specs.Answers.{Value}
use Rattle.desk.specs.Calls.{write_rules, written_desk, write_of, read_rules, must_wait, waiting_desk, read_of, send_rules, sent_desk, send_of, take_rules, entries_taken, taken_desk, take_of}
use Rattle.keeping.proofs.Laws.Kept.{SameNumbers, SameTurn, NextTurn}
use Rattle.keeping.proofs.Laws.Rules.{kept}

same : {d : Desk} → SameNumbers d d
same = record { n = refl; m = refl; own = refl; mode = refl }

-- a call whose next record has the turn number after this one's
next_turn : (rules : List Rule) (d after : Desk) (value : Value) → after.head.turn ≡ d.head.turn + 1
    → (v : Value) → answer rules value ≡ answered v → (leaves rules d after).head.turn ≡ d.head.turn + 1
next_turn rules d after value next v e =
    subst (λ (x : Desk). x.head.turn ≡ d.head.turn + 1) (sym (changed_if rules d after (answered_only_if rules value v e).0)) next

module _ (d : Desk) (cell : ℕ) (c : Content) where
  pub write_numbers : SameNumbers d (write_of d cell c).desk
  unfolding write_of
  write_numbers = kept (SameNumbers d) (write_rules d cell c) d (written_desk d cell c) same (λ silent. record { n = refl; m = refl; own = refl; mode = refl })

  pub write_turn : SameTurn d (write_of d cell c).desk
  unfolding write_of
  write_turn = kept (SameTurn d) (write_rules d cell c) d (written_desk d cell c) refl (λ silent. refl)

module _ (d : Desk) (cell : ℕ) where
  by_wait : (P : Desk → Type 0) → P (waiting_desk d cell) → P d → (t : Bool) → P (cond t (waiting_desk d cell) d)
  by_wait P p q true = p
  by_wait P p q false = q

  pub read_numbers : SameNumbers d (read_of d cell).desk
  unfolding read_of
  read_numbers =
      kept (SameNumbers d) (read_rules d cell) d (cond (must_wait d cell) (waiting_desk d cell) d) same
      (λ silent. by_wait (SameNumbers d) (record { n = refl; m = refl; own = refl; mode = refl }) same (must_wait d cell))

  pub read_turn : SameTurn d (read_of d cell).desk
  unfolding read_of
  read_turn = kept (SameTurn d) (read_rules d cell) d (cond (must_wait d cell) (waiting_desk d cell) d) refl (λ silent. by_wait (SameTurn d) refl refl (must_wait d cell))

module _ (d : Desk) (buf : List ℕ) where
  pub send_numbers : SameNumbers d (send_of d buf).desk
  unfolding send_of
  send_numbers = kept (SameNumbers d) (send_rules d buf) d (sent_desk d) same (λ silent. record { n = refl; m = refl; own = refl; mode = refl })

  pub send_turn : NextTurn d (send_of d buf)
  unfolding send_of
  send_turn = next_turn (send_rules d buf) d (sent_desk d) _ refl

module _ (d : Desk) (tray : List ℕ) where
  pub take_numbers : SameNumbers d (take_of d tray).desk
  unfolding take_of
  take_numbers = kept (SameNumbers d) (take_rules d tray) d (taken_desk d (entries_taken d tray)) same (λ silent. record { n = refl; m = refl; own = refl; mode = refl })

  pub take_turn : NextTurn d (take_of d tray)
  unfolding take_of
  take_turn = next_turn (take_rules d tray) d (taken_desk d (entries_taken d tray)) _ refl
