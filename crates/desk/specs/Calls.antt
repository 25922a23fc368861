-- 01, "A desk, call by call", and the table of "Numbers given back": a definition for each call, which gives its answer, the next record
-- and the lent bytes for every input. `open_rules` to `take_rules` are each call's rules, whole and in 01's order; they are made of what can be
-- tested in one place (`open_tests` and the others, crates/refusals/specs/Rules.antt), of 13 and of that of a buffer, 11
-- (crates/pending/specs/Pending.antt).
-- Assumes nothing.
use Rattle.std.specs.Prelude.{ℕ, ◌+◌, Bool, true, cond, not, ◌&&◌, List, [], ◌∷◌, ◌++◌, eqb, pos, length, drop, replicate}
use Rattle.std.proofs.Math.Option.{Option, none, some}
use Rattle.answer.specs.Answer.{Rule, ◌if◌}
use Rattle.content.specs.declared.Content.{Content}
use Rattle.content.specs.Content.{kind_of, day_of}
use Rattle.layout.specs.declared.Entry.{Entry}
use Rattle.layout.specs.Layout.{entries_of, trailer_in, numbers_of}
use Rattle.sheet.specs.Good.{good}
use Rattle.cells.specs.Cells.{content_at, blank, filled, put_if, anywhere}
use Rattle.sound.specs.declared.Head.{Head}
use Rattle.sound.specs.Head.{sequential, causal, turn_desk, own_turn, read_waits, wait_cell}
use Rattle.sound.specs.Sound.{sound_of}
use Rattle.tray.specs.Tray.{free, sheet_at, held_in, cleared_in}
use Rattle.pending.specs.Pending.{pending_entries, sheet_of, room_rules}
use Rattle.applying.specs.Applying.{goes, laid, kind_on, day_on, went_of}
use Rattle.refusals.specs.Rules.{open_tests, write_tests, read_tests, send_tests, tray_tests, sheet_tests, turn_tests, place_tests}
use Rattle.desk.specs.declared.Desk.{Desk}
use Rattle.desk.specs.Answers.{opened, stored, holds, waits, sent, held, taken, Done, call}

-- "A record is sound if .." (crates/sound/specs/Sound.antt)
abbrev pub sound : Desk → Bool
sound d = sound_of d.head d.kind d.day d.pkind d.pday

-- what the shelf has in a cell, as an answer carries it
abbrev pub shown_at : Desk → ℕ → Content
shown_at d cell = content_at d.kind d.day cell

-- the record with this head
abbrev pub with_head : Head → Desk → Desk
with_head h d = record { head = h; kind = d.kind; day = d.day; pkind = d.pkind; pday = d.pday }

-- ---- Open

-- "Open: 1, 2, 3, 4."
abbrev pub open_rules : ℕ → ℕ → ℕ → ℕ → List Rule
open_rules n m own mode = open_tests n m own mode

-- "Mode 0 means the default: causal."
abbrev pub mode_for : ℕ → ℕ
mode_for mode = cond (eqb mode 0) 2 mode

-- a record with this head, "All cells blank, nothing pending"
abbrev pub blank_desk : Head → Desk
blank_desk h =
    record {
      head = h;
      kind = replicate 64 0;
      day = replicate 64 (pos 0);
      pkind = replicate 64 0;
      pday = replicate 64 (pos 0);
    }

-- "turn number 0", and no read waits
abbrev pub fresh_head : ℕ → ℕ → ℕ → ℕ → Head
fresh_head n m own mode = record { n = n; m = m; own = own; mode = mode; turn = 0; wait = 0 }

-- "A refused open gives a record of zeros."
abbrev pub zero_desk : Desk
zero_desk = blank_desk (fresh_head 0 0 0 0)

unfoldable pub open_of : ℕ → ℕ → ℕ → ℕ → Done
open_of n m own mode = call (open_rules n m own mode) zero_desk [] opened (blank_desk (fresh_head n m own (mode_for mode))) []

-- ---- Write

-- "Write: 5, 6, 7, 8."
abbrev pub write_rules : Desk → ℕ → Content → List Rule
write_rules d cell c = write_tests (sound d) d.head cell (kind_of c)

-- "The cell takes the content; the content becomes that cell's pending entry, replacing an earlier one."
abbrev pub written_desk : Desk → ℕ → Content → Desk
written_desk d cell c =
    record {
      head = d.head;
      kind = put_if true d.kind cell (kind_of c);
      day = put_if true d.day cell (day_of c);
      pkind = put_if true d.pkind cell (kind_of c);
      pday = put_if true d.pday cell (day_of c);
    }

unfoldable pub write_of : Desk → ℕ → Content → Done
write_of d cell c = call (write_rules d cell c) d [] stored (written_desk d cell c) []

-- ---- Read

-- "Read: 5, 6, 8."
abbrev pub read_rules : Desk → ℕ → List Rule
read_rules d cell = read_tests (sound d) d.head cell

-- "It waits exactly if the mode is sequential, something is pending, this cell is not, and the turn is elsewhere."
unfoldable pub must_wait : Desk → ℕ → Bool
must_wait d cell = sequential d.head && anywhere 64 (filled d.pkind) && blank d.pkind cell && not (own_turn d.head)

-- the record with a read of this cell that waits
abbrev pub waiting_desk : Desk → ℕ → Desk
waiting_desk d cell =
    let h = d.head in
    with_head (record { n = h.n; m = h.m; own = h.own; mode = h.mode; turn = h.turn; wait = cell + 1 }) d

-- "Otherwise it answers the cell."
unfoldable pub read_of : Desk → ℕ → Done
read_of d cell =
    call (read_rules d cell) d []
    (cond (must_wait d cell) waits (holds (shown_at d cell)))
    (cond (must_wait d cell) (waiting_desk d cell) d)
    []

-- ---- Send

-- "Send: 5, 9, 10, 11."
abbrev pub send_rules : Desk → List ℕ → List Rule
send_rules d buf = send_tests (sound d) d.head ++ room_rules (sheet_of d.head d.pkind d.pday) buf

-- the head with the next turn number and this waiting read
abbrev pub next_head : Head → ℕ → Head
next_head h wait = record { n = h.n; m = h.m; own = h.own; mode = h.mode; turn = h.turn + 1; wait = wait }

-- "empties the pending set, adds 1 to the turn number"
abbrev pub sent_desk : Desk → Desk
sent_desk d =
    record {
      head = next_head d.head d.head.wait;
      kind = d.kind;
      day = d.day;
      pkind = replicate 64 0;
      pday = replicate 64 (pos 0);
    }

-- "Writes one sheet with every pending entry .. Bytes of the lent buffer past the sheet stay."
unfoldable pub send_of : Desk → List ℕ → Done
send_of d buf =
    let sheet = sheet_of d.head d.pkind d.pday in
    call (send_rules d buf) d buf
    (sent d.head.turn (length (pending_entries d.pkind d.pday)))
    (sent_desk d)
    (sheet ++ drop (length sheet) buf)

-- ---- Deliver

-- "Deliver: 5, 12, 13, 14, 15, 16, 17, 18." 13 is "sheet not good"
abbrev pub deliver_rules : Desk → List ℕ → List ℕ → List Rule
deliver_rules d tray s =
    let h = d.head in
    let x = numbers_of (trailer_in s) in
    tray_tests (sound d) h (length tray) ++ 13 if not (good s) ∷ sheet_tests h x (free tray x.sender)

-- "Puts a sheet in the sender's place in the lent tray. The record stays."
unfoldable pub deliver_of : Desk → List ℕ → List ℕ → Done
deliver_of d tray s = call (deliver_rules d tray s) d tray held d (held_in tray (trailer_in s).sender s)

-- ---- Take

-- "Take: 5, 12, 19, 10, 20, 21."
abbrev pub take_rules : Desk → List ℕ → List Rule
take_rules d tray =
    let h = d.head in
    tray_tests (sound d) h (length tray) ++ turn_tests h ++ place_tests h tray (turn_desk h)

-- "Takes the sheet of the desk whose turn it is": the entries of the sheet in that desk's place
abbrev pub entries_taken : Desk → List ℕ → List Entry
entries_taken d tray = let s = sheet_at tray (turn_desk d.head) in entries_of (trailer_in s).entries s

-- "If the turn is now the desk's own and a read waits": the read is over
abbrev pub read_ends : Head → Bool
read_ends h = read_waits h && own_turn (next_head h 0)

-- the record after these entries: "Pending entries never change", "the turn number goes up by 1"
abbrev pub taken_desk : Desk → List Entry → Desk
taken_desk d es =
    let h = d.head in
    let going = goes (causal h) d.pkind in
    record {
      head = next_head h (cond (read_ends h) 0 h.wait);
      kind = laid going kind_on d.kind es;
      day = laid going day_on d.day es;
      pkind = d.pkind;
      pday = d.pday;
    }

-- "the answer carries that cell's content", as the shelf has it after the entries
abbrev pub waited_for : Head → Desk → Option Content
waited_for h after = cond (read_ends h) (some (shown_at after (wait_cell h))) none

-- "The place becomes zeros"
unfoldable pub take_of : Desk → List ℕ → Done
take_of d tray =
    let h = d.head in
    let es = entries_taken d tray in
    let after = taken_desk d es in
    call (take_rules d tray) d tray
    (taken h.turn (length es) (went_of (goes (causal h) d.pkind) es) (waited_for h after))
    after
    (cleared_in tray (turn_desk h))

-- ---- the six calls

-- a definition for each call: its answer, the next record and the lent bytes, from the record and what it is given. What is demanded of a desk is
-- stated of any such calls (crates/figure/specs/Demand2.antt, crates/runs/specs/TurnRules.antt), so that it can be shown false of wrong ones
pub record Calls : Type 0 where
  pub opening : (n m own mode : ℕ) → Done
  pub write : Desk → ℕ → Content → Done
  pub read : Desk → ℕ → Done
  pub send : Desk → List ℕ → Done
  pub deliver : Desk → List ℕ → List ℕ → Done
  pub take : Desk → List ℕ → Done

-- document 01's: the definitions above, which the code's contracts cite
abbrev pub document01 : Calls
document01 =
    record {
      opening = open_of;
      write = write_of;
      read = read_of;
      send = send_of;
      deliver = deliver_of;
      take = take_of;
    }
