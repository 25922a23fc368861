-- Document 01's slips are ruled out (specs/Slips.antt): that of example 4 by computing the definitions, the others by the rules of a call,
-- none of which applies where it is answered.
-- Assumes nothing.
use mathlib.Core.Path.{◌≡◌, refl, sym, ap, ◌∙◌}
use mathlib.Core.Bool.{Bool, true, false, cond, not, ◌&&◌, and-false}
use mathlib.Core.List.{List, [], ◌++◌}
use mathlib.Core.Option.{Option, some}
use Prim.Native.Nat.{ℕ, zero, suc, ◌≤◌, ◌<◌}
use native.Mathlib.Omega.{arith}
use lib.IntN.{ℤ}
use lib.ListN.{length, drop}
use borrow.Author.Tests.{eqb-true, eqb-false, ne_eqb, le-ltb, not-true}
use Rattle.answer.specs.Answer.{answered}
use Rattle.answer.specs.Promises.{Silent}
use Rattle.answer.proofs.Laws.{answered_only_if, answered_if, changed_if}
use Rattle.content.specs.declared.Content.{Content}
use Rattle.content.specs.declared.Content.TheVariants.{Open}
use Rattle.numbers.proofs.Tests.{neither}
use Rattle.layout.specs.declared.Entry.{Entry}
use Rattle.layout.specs.Layout.{sheet_bytes, trailer_for}
use Rattle.laying.specs.Laying.{laid_over}
use Rattle.sheet.specs.Good.{good}
use Rattle.cells.specs.Cells.{place_at, kind_at, content_at, blank, filled, each, put_if, anywhere}
use Rattle.sound.specs.Head.{sequential, own_turn, read_waits, wait_cell}
use Rattle.sound.specs.Sound.{sound_of}
use Rattle.tray.specs.Tray.{holds_good, held_in, cleared_in}
use Rattle.pending.specs.Pending.{pending_below, pending_entries, numbers_for, sheet_of}
use Rattle.applying.specs.Applying.{laid, went_of}
use Rattle.refusals.specs.Rules.{last_turn}
use Rattle.desk.specs.declared.Desk.{Desk}
use Rattle.desk.specs.Answers.{Value, holds, waits, sent, taken}
use Rattle.desk.specs.Calls.{sound, next_head, read_ends, entries_taken, taken_desk, waited_for, sent_desk, read_rules, send_rules, take_rules, must_wait, open_of, write_of, read_of, send_of, deliver_of, take_of}
use Rattle.desk.proofs.Laws.Allowed.{desk_says, send_allows}
use Rattle.edges.specs.Examples.{opened_desk, written_to, sent_into, delivered_to, taken_from, takes_nine}
use Rattle.edges.specs.Slips.{FiveIsSent, EmptySheetSent, ReadEnded, SlipsRuledOut}

-- example 4, by computing
five_is_sent : FiveIsSent
unfolding opened_desk written_to sent_into delivered_to taken_from takes_nine
    open_of write_of must_wait read_of send_of deliver_of take_of
    sound_of place_at each anywhere put_if sheet_of pending_below laid went_of holds_good held_in cleared_in laid_over good
five_is_sent = record { answers = refl; sheet = refl }

-- an empty sheet, where nothing is pending
none_pending : (pkind : List ℕ) (pday : List ℤ) (n : ℕ) → anywhere n (filled pkind) ≡ false → pending_below pkind pday n ≡ []
unfolding anywhere pending_below
none_pending pkind pday zero e = refl
none_pending pkind pday (suc n) e =
    let both = neither (anywhere n (filled pkind)) (filled pkind n) e in
    rw (none_pending pkind pday n both.0, both.1)

module _ (d : Desk) (buf : List ℕ) (s : sound d ≡ true) (own : own_turn d.head ≡ true) (more : d.head.turn < last_turn)
    (room : 12 ≤ length buf) (nothing : anywhere 64 (filled d.pkind) ≡ false) where
  no_entries : pending_entries d.pkind d.pday ≡ []
  no_entries = none_pending d.pkind d.pday 64 nothing

  empty_sheet : sheet_of d.head d.pkind d.pday ≡ sheet_bytes [] (trailer_for (numbers_for d.head 0))
  unfolding sheet_of
  empty_sheet = ap (λ (es : List Entry). sheet_bytes es (trailer_for (numbers_for d.head (length es)))) no_entries

  no_refusal : Silent (send_rules d buf)
  no_refusal = (
    ap not s,
    (
      ap not own,
      (
        ne_eqb d.head.turn last_turn (omega arith),
        (rw empty_sheet (le-ltb (length buf) 12 room), tt),
      ),
    ),
  )

  empty_sheet_sent : EmptySheetSent d buf
  unfolding send_of
  empty_sheet_sent =
      record {
        answers =
            answered_if (send_rules d buf) _ no_refusal
            ∙ ap (λ (es : List Entry). answered (sent d.head.turn (length es))) no_entries;
        sheet =
            changed_if (send_rules d buf) buf _ no_refusal
            ∙ ap (λ (l : List ℕ). l ++ drop (length l) buf) empty_sheet;
        turn = ap (λ (after : Desk). after.head.turn) (changed_if (send_rules d buf) d (sent_desk d) no_refusal);
      }

-- what an answered read says
pub waits_is_no_content : (c : Content) → waits ≡ holds c → ⊥
waits_is_no_content c e = let n : ◌≡◌ {A = ℕ} 0 1 = cc in omega arith

same_content : (c c' : Content) → holds c ≡ holds c' → c ≡ c'
same_content c c' e = cc

module _ (d : Desk) (i : ℕ) where
  pub read_as_said : (v : Value) → (read_of d i).answer ≡ answered v → cond (must_wait d i) waits (holds (content_at d.kind d.day i)) ≡ v
  unfolding read_of
  read_as_said v e = (answered_only_if (read_rules d i) _ v e).1

  pending_answers : filled d.pkind i ≡ true → must_wait d i ≡ false
  unfolding must_wait
  pending_answers f = rw (not-true (blank d.pkind i) f, and-false (sequential d.head && anywhere 64 (filled d.pkind)))

  pending_cell_answers : filled d.pkind i ≡ true → (read_of d i).answer ≡ answered waits → ⊥
  pending_cell_answers f e = waits_is_no_content _ (sym (rw (pending_answers f) at (read_as_said waits e)))

  kind_1_is_open : (c : Content) → kind_at d.kind i ≡ 1 → (read_of d i).answer ≡ answered (holds c) → c ≡ Open
  kind_1_is_open c one e = by_test (must_wait d i) refl
    where
      by_test : (t : Bool) → must_wait d i ≡ t → c ≡ Open
      by_test true p = absurd (waits_is_no_content c (rw p at (read_as_said (holds c) e)))
      by_test false p = sym (same_content (content_at d.kind d.day i) c (rw p at (read_as_said (holds c) e))) ∙ rw one

-- a waiting read has the turn elsewhere, and a send its own
no_send_while_waiting : (d : Desk) (buf : List ℕ) (v : Value) → read_waits d.head ≡ true → (send_of d buf).answer ≡ answered v → ⊥
unfolding send_of
no_send_while_waiting d buf v w e =
    let allowed = send_allows d buf (answered_only_if (send_rules d buf) _ v e).0 in
    ((desk_says d allowed.is_sound).waits (eqb-false d.head.wait 0 (not-true _ w))).elsewhere (eqb-true _ _ allowed.own_turn_lem)

-- what an answered take says
same_waited_for : (t t' n n' k k' : ℕ) (w w' : Option Content) → taken t n k w ≡ taken t' n' k' w' → w' ≡ w
same_waited_for t t' n n' k k' w w' e = cc

module _ (d : Desk) (tray : List ℕ) (t n k : ℕ) (w : Option Content) (waiting : read_waits d.head ≡ true)
    (own : own_turn (next_head d.head 0) ≡ true) (e : (take_of d tray).answer ≡ answered (taken t n k w)) where
  wait_ends_with_turn : ReadEnded d tray w
  unfolding take_of
  wait_ends_with_turn =
      let said = answered_only_if (take_rules d tray) _ (taken t n k w) e in
      let next = taken_desk d (entries_taken d tray) in
      let after = changed_if (take_rules d tray) d next said.0 in
      let ends : read_ends d.head ≡ true = rw (waiting, own) in
      let given : waited_for d.head next ≡ some (content_at next.kind next.day (wait_cell d.head)) = rw ends in
      record {
        answers = same_waited_for _ t _ n _ k _ w said.1 ∙ given ∙ ap (λ (x : Desk). some (content_at x.kind x.day (wait_cell d.head))) (sym after);
        over = ap (λ (x : Desk). read_waits x.head) after ∙ rw ends;
      }

pub slips_ruled_out : SlipsRuledOut
slips_ruled_out =
    record {
      five_is_sent = five_is_sent;
      empty_sheet_sent = empty_sheet_sent;
      pending_cell_answers = pending_cell_answers;
      kind_1_is_open = kind_1_is_open;
      no_send_while_waiting = no_send_while_waiting;
      wait_ends_with_turn = wait_ends_with_turn;
    }
