-- Wrong calls: for each part of demand 3 (crates/runs/specs/TurnRules.antt), calls that are 01's but for what is said of each here, and a
-- run of them after which that part is false. So each part says something of the calls. proofs/WrongRuns.antt proves it.
-- Assumes nothing.
use Rattle.std.specs.Prelude.{Bool, cond, not, ◌&&◌, List, [], ◌∷◌, ℕ, ◌+◌, leb, pos}
use Rattle.std.proofs.Math.Option.{none, some}
use Rattle.answer.specs.Answer.{refused, accepted}
use Rattle.content.specs.declared.Content.TheVariants.{Day}
use Rattle.layout.specs.Layout.{trailer_in}
use Rattle.cells.specs.Cells.{filled, anywhere}
use Rattle.sound.specs.Head.{sequential, own_turn, read_waits, wait_cell}
use Rattle.desk.specs.declared.Desk.{Desk}
use Rattle.desk.specs.Answers.{Done}
use Rattle.desk.specs.Calls.{Calls, shown_at, with_head, write_of, read_of, send_of, deliver_of, take_of}
use Rattle.runs.specs.Call.{Call, writes, sends, delivers, takes, sheet_room}
use Rattle.runs.specs.Run.{Shelf, RunOn}
use Rattle.runs.specs.TurnRules.{OneTurn, OneSheet, Never, GoesOn, WaitEnds}
use Rattle.witness.specs.Changed.{calls_with, with_answer, with_desk, with_lent, with_wait, carrying}
use Rattle.witness.specs.RunsPlayed.{two_desks, three_desks, three_sheets}

-- such a run, after which this part is false
pub record Bites (part : Calls → Shelf → List Call → Type 0) (calls : Calls) (shelf : Shelf) (cs : List Call) : Type 0 where
  pub run : RunOn calls shelf cs
  pub is_false : part calls shelf cs → ⊥

-- ---- 1 and 2, "at most one desk has its own turn", "at most one sent and untaken sheet from each other desk"

-- a send after which the turn number is what it was
unfoldable pub send_keeping_turn : Desk → List ℕ → Done
send_keeping_turn d buf = with_desk (with_head d.head) (send_of d buf)

abbrev pub send_keeps_turn : Calls
send_keeps_turn = calls_with write_of read_of send_keeping_turn deliver_of take_of

-- desk 0 sends and keeps its turn; desk 1 takes that sheet and has its own turn, too
unfoldable pub sent_and_taken : List Call
sent_and_taken = sends 0 sheet_room ∷ delivers 1 0 ∷ takes 1 ∷ []

-- desk 0 sends twice, and desk 1 has two sheets from it to take
unfoldable pub sent_twice : List Call
sent_twice = sends 0 sheet_room ∷ sends 0 sheet_room ∷ []

-- ---- 3, "refusal 17 never comes"

-- a delivery that is refused with 17, before any other test, from turn number + n - 2 on, two numbers before 01's: with a bound one number before
-- 01's no sheet of a run would be refused either (crates/runs/specs/EveryRun.antt, `NotFarAhead`)
unfoldable pub deliver_refusing_early : Desk → List ℕ → List ℕ → Done
deliver_refusing_early d tray s =
    cond (leb (d.head.turn + d.head.n) ((trailer_in s).turn + 2)) (record { answer = refused 17; desk = d; lent = tray })
    (deliver_of d tray s)

abbrev pub refuses17_early : Calls
refuses17_early = calls_with write_of read_of send_of deliver_refusing_early take_of

-- ---- 4, "some desk can send into 396 bytes, or can take its next sheet, one already sent, once delivered"

-- a take after which the place is as it was: "The place becomes zeros" is left out
unfoldable pub take_leaving_sheet : Desk → List ℕ → Done
take_leaving_sheet d tray = with_lent tray (take_of d tray)

abbrev pub take_leaves_sheet : Calls
take_leaves_sheet = calls_with write_of read_of send_of deliver_of take_leaving_sheet

-- the turn has gone round once and desk 0 has sent again: this is desk 1's next sheet, and there is no free place for it
unfoldable pub round_and_on : List Call
round_and_on = sends 0 sheet_room ∷ delivers 1 0 ∷ takes 1 ∷ sends 1 sheet_room ∷ delivers 0 1 ∷ takes 0 ∷ sends 0 sheet_room ∷ []

-- ---- 5, "A read that waits is answered by its desk's accepted take number n-1 at the latest"

-- this outcome, and where it is a refusal this record
abbrev pub keeping_refused : Desk → Done → Done
keeping_refused d done = record { answer = done.answer; desk = cond (accepted done.answer) done.desk d; lent = done.lent }

-- 01, "Slips to rule out": "letting a waiting read answer after its desk's next send". The take that brings the desk's own turn lets the
-- read wait; the send is carried out all the same; and the take after it answers the read. In between the record is not sound to 01, since
-- "a waiting read has .. something pending, and the turn elsewhere": on such a record, and on no other, this desk's send and take are 01's
-- as if no read waited

-- the turn has come, and the read still waits
abbrev pub read_is_late : Desk → Bool
read_is_late d = sequential d.head && read_waits d.head && own_turn d.head

-- the sheet was sent, and the read still waits
abbrev pub read_is_later : Desk → Bool
read_is_later d = sequential d.head && read_waits d.head && not (anywhere 64 (filled d.pkind))

unfoldable pub take_ending_no_read : Desk → List ℕ → Done
take_ending_no_read d tray =
    let later = take_of (with_wait 0 d) tray in
    cond (read_is_later d) (with_answer (carrying (some (shown_at later.desk (wait_cell d.head)))) (keeping_refused d later))
    (with_answer (carrying none) (with_desk (with_wait d.head.wait) (take_of d tray)))

unfoldable pub send_ending_read : Desk → List ℕ → Done
send_ending_read d buf =
    cond (read_is_late d) (keeping_refused d (with_desk (with_wait d.head.wait) (send_of (with_wait 0 d) buf))) (send_of d buf)

abbrev pub read_ends_late : Calls
read_ends_late = calls_with write_of read_of send_ending_read deliver_of take_ending_no_read

-- as 01's listing begins: desk 1 writes cell 0. It then reads cell 1 and waits, and its next take answers no content
unfoldable pub one_written : List Call
one_written = writes 1 0 (Day (pos 0)) ∷ []

-- ---- all five

pub record EachPartBites : Type 0 where
  pub one_turn : Bites OneTurn send_keeps_turn two_desks sent_and_taken
  pub one_sheet : Bites OneSheet send_keeps_turn two_desks sent_twice
  -- the run of `Furthest`, and the delivery that is held there
  pub no_17 : Bites (Never 17) refuses17_early three_desks three_sheets
  pub goes_on : Bites GoesOn take_leaves_sheet two_desks round_and_on
  pub wait_ends : Bites WaitEnds read_ends_late two_desks one_written
