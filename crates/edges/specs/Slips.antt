-- 01, "Examples at the edges": "Slips to rule out: keeping one value per cell for shelf and pending, which sends 9 in example 4; sending no
-- sheet when nothing is pending, so the turn stops; making a strict read wait although its own cell is pending; treating kind 1 as a day of
-- zero; letting a waiting read answer after its desk's next send." Document 01's definitions do none of it: the first is shown on example 4,
-- the others are at no record. proofs/Slips.antt proves it. That demand 2 is false of a desk that does so is stated in
-- crates/witness/specs/WrongDesks.antt.
-- Assumes nothing.
use Rattle.std.specs.Prelude.{◌≡◌, true, false, List, [], ◌∷◌, ◌++◌, ℕ, ◌+◌, ◌≤◌, ◌<◌, length, drop}
use Rattle.std.proofs.Math.Option.{Option, some}
use Rattle.answer.specs.Answer.{answered}
use Rattle.content.specs.declared.Content.{Content}
use Rattle.content.specs.declared.Content.TheVariants.{Open}
use Rattle.layout.specs.Layout.{sheet_bytes, trailer_for}
use Rattle.cells.specs.Cells.{kind_at, content_at, filled, anywhere}
use Rattle.sound.specs.Head.{own_turn, read_waits, wait_cell}
use Rattle.pending.specs.Pending.{numbers_for}
use Rattle.refusals.specs.Rules.{last_turn}
use Rattle.desk.specs.declared.Desk.{Desk}
use Rattle.desk.specs.Answers.{Value, Done, holds, waits, sent, taken}
use Rattle.desk.specs.Calls.{sound, next_head, read_of, send_of, take_of}
use Rattle.edges.specs.Examples.{sent_into, takes_nine}

-- the causal desk of example 4 sends its pending 5 next, after it took 9
pub record FiveIsSent : Type 0 where
  pub answers : (sent_into (takes_nine 2).desk 18).answer ≡ answered (sent 1 1)
  pub sheet :
      (sent_into (takes_nine 2).desk 18).lent
      ≡ 0x00 ∷ 0x02 ∷ 0x05 ∷ 0x00 ∷ 0x00 ∷ 0x00 ∷ 0x06 ∷ 0x00 ∷ 0x01 ∷ 0x01 ∷ 0x02 ∷ 0x02 ∷ 0x00 ∷ 0x00 ∷ 0x01 ∷ 0x00 ∷ 0x00 ∷ 0x00 ∷ []

-- a send with nothing pending gives an empty sheet, and the turn goes on
pub record EmptySheetSent (d : Desk) (buf : List ℕ) : Type 0 where
  pub answers : (send_of d buf).answer ≡ answered (sent d.head.turn 0)
  pub sheet : (send_of d buf).lent ≡ sheet_bytes [] (trailer_for (numbers_for d.head 0)) ++ drop 12 buf
  pub turn : (send_of d buf).desk.head.turn ≡ d.head.turn + 1

-- what a cell holds on the shelf after a call
abbrev pub shelf_after : Done → ℕ → Content
shelf_after done i = content_at done.desk.kind done.desk.day i

-- a take that ends the read that waits: it answers what the shelf has after it
pub record ReadEnded (d : Desk) (tray : List ℕ) (w : Option Content) : Type 0 where
  pub answers : w ≡ some (shelf_after (take_of d tray) (wait_cell d.head))
  pub over : read_waits (take_of d tray).desk.head ≡ false

pub record SlipsRuledOut : Type 0 where
  -- "keeping one value per cell for shelf and pending, which sends 9 in example 4"
  pub five_is_sent : FiveIsSent
  -- "sending no sheet when nothing is pending, so the turn stops"
  pub empty_sheet_sent :
      (d : Desk) (buf : List ℕ) → sound d ≡ true → own_turn d.head ≡ true → d.head.turn < last_turn → 12 ≤ length buf
      → anywhere 64 (filled d.pkind) ≡ false → EmptySheetSent d buf
  -- "making a strict read wait although its own cell is pending"
  pub pending_cell_answers : (d : Desk) (i : ℕ) → filled d.pkind i ≡ true → (read_of d i).answer ≡ answered waits → ⊥
  -- "treating kind 1 as a day of zero"
  pub kind_1_is_open : (d : Desk) (i : ℕ) (c : Content) → kind_at d.kind i ≡ 1 → (read_of d i).answer ≡ answered (holds c) → c ≡ Open
  -- "letting a waiting read answer after its desk's next send": while a read waits no send is carried out, and the take that brings
  -- the desk's own turn ends it
  pub no_send_while_waiting : (d : Desk) (buf : List ℕ) (v : Value) → read_waits d.head ≡ true → (send_of d buf).answer ≡ answered v → ⊥
  pub wait_ends_with_turn :
      (d : Desk) (tray : List ℕ) (t n k : ℕ) (w : Option Content) → read_waits d.head ≡ true → own_turn (next_head d.head 0) ≡ true
      → (take_of d tray).answer ≡ answered (taken t n k w) → ReadEnded d tray w
