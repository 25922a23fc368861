-- 01, "What the contracts have to say": "Test these: a desk that refuses everything, one that answers blank always, one that keeps its
-- record unchanged, one that does its first take truly and afterwards only moves the turn, one that reports invented applied counts. Demand
-- 2 shuts out all five". And "Examples at the edges", "Slips to rule out".
-- Each is made here as calls, and demand 2 (crates/figure/specs/Demand2.antt) is false of them. What the sentence does not name is as 01
-- says. proofs/WrongDesks.antt proves it.
-- Assumes nothing.
use Rattle.std.specs.Prelude.{Bool, cond, not, ◌&&◌, List, [], ℕ, eqb}
use Rattle.answer.specs.Answer.{refused}
use Rattle.content.specs.declared.Content.TheVariants.{Blank}
use Rattle.cells.specs.Cells.{filled, anywhere}
use Rattle.layout.specs.declared.Entry.{Entry}
use Rattle.sound.specs.declared.Head.{Head}
use Rattle.sound.specs.Head.{sequential, causal, own_turn, wait_cell}
use Rattle.applying.specs.Applying.{goes, laid, kind_on, day_on}
use Rattle.desk.specs.declared.Desk.{Desk}
use Rattle.desk.specs.Answers.{holds, waits, Done, call}
use Rattle.desk.specs.Calls.{Calls, shown_at, write_of, read_rules, waiting_desk, read_of, send_of, deliver_of, entries_taken, take_of}
use Rattle.figure.specs.Demand2.{Demand2}
use Rattle.witness.specs.Changed.{calls_with, with_answer, with_desk, with_lent, with_shelf_of, with_pending_of, answering, contents}
use Rattle.witness.specs.WrongRuns.{read_ends_late}

-- these calls do not meet demand 2
abbrev pub ShutOut : Calls → Type 0
ShutOut calls = Demand2 calls → ⊥

-- ---- "a desk that refuses everything"

-- once it is open, with the first number that the call has
abbrev pub refusal : Desk → List ℕ → Done
refusal d lent = record { answer = refused 5; desk = d; lent = lent }

unfoldable pub refuses_everything : Calls
refuses_everything =
    calls_with (λ d cell c. refusal d []) (λ d cell. refusal d []) (λ d buf. refusal d buf) (λ d tray s. refusal d tray) (λ d tray. refusal d tray)

-- ---- "one that answers blank always"

-- whatever content the answer has, that of a read that waited too
unfoldable pub answers_blank : Calls
answers_blank =
    calls_with write_of (λ d cell. with_answer (contents (λ c. Blank)) (read_of d cell)) send_of deliver_of
    (λ d tray. with_answer (contents (λ c. Blank)) (take_of d tray))

-- ---- "one that keeps its record unchanged"

unfoldable pub keeps_its_record : Calls
keeps_its_record =
    calls_with (λ d cell c. with_desk (λ after. d) (write_of d cell c)) (λ d cell. with_desk (λ after. d) (read_of d cell))
    (λ d buf. with_desk (λ after. d) (send_of d buf)) deliver_of (λ d tray. with_desk (λ after. d) (take_of d tray))

-- ---- "one that does its first take truly and afterwards only moves the turn"

-- A record does not count its takes. But turn numbers begin with 0, and only sends and takes move them: desk 0 has the turn then, sends, and
-- makes its first take at turn number 1; every other desk makes its first take at turn number 0
abbrev pub is_first_take : Head → Bool
is_first_take h = eqb h.turn (cond (eqb h.own 0) 1 0)

-- afterwards the shelf is as it was, and a read that waited is answered from it; turn number and place are as 01 says
abbrev pub turn_moved : Desk → List ℕ → Done
turn_moved d tray = with_answer (contents (λ c. shown_at d (wait_cell d.head))) (with_desk (with_shelf_of d) (take_of d tray))

unfoldable pub first_take_true : Calls
first_take_true = calls_with write_of read_of send_of deliver_of (λ d tray. cond (is_first_take d.head) (take_of d tray) (turn_moved d tray))

-- ---- "one that reports invented applied counts"

-- every entry of the sheet is said to have gone to the shelf
unfoldable pub invents_counts : Calls
invents_counts =
    calls_with write_of read_of send_of deliver_of
    (λ d tray. with_answer (answering (record { content = λ c. c; applied = λ entries applied. entries; waited = λ c. c })) (take_of d tray))

-- ---- the five

pub record WrongDesksShutOut : Type 0 where
  pub refuses_everything_is_out : ShutOut refuses_everything
  pub answers_blank_is_out : ShutOut answers_blank
  pub keeps_its_record_is_out : ShutOut keeps_its_record
  pub first_take_true_is_out : ShutOut first_take_true
  pub invents_counts_is_out : ShutOut invents_counts

-- ---- "keeping one value per cell for shelf and pending, which sends 9 in example 4"

-- an entry that goes to the shelf goes to its cell's pending entry, too, where there is one
abbrev pub goes_to_pending : Desk → Entry → Bool
goes_to_pending d e = goes (causal d.head) d.pkind e && filled d.pkind e.cell

abbrev pub pending_after : Desk → List Entry → Desk
pending_after d es =
    record {
      head = d.head;
      kind = d.kind;
      day = d.day;
      pkind = laid (goes_to_pending d) kind_on d.pkind es;
      pday = laid (goes_to_pending d) day_on d.pday es;
    }

unfoldable pub one_value_per_cell : Calls
one_value_per_cell =
    calls_with write_of read_of send_of deliver_of (λ d tray. with_desk (with_pending_of (pending_after d (entries_taken d tray))) (take_of d tray))

-- ---- "sending no sheet when nothing is pending, so the turn stops"

-- it answers as if it had sent
unfoldable pub sends_no_empty_sheet : Calls
sends_no_empty_sheet =
    calls_with write_of read_of
    (λ d buf. cond (anywhere 64 (filled d.pkind)) (send_of d buf) (with_lent buf (with_desk (λ after. d) (send_of d buf))))
    deliver_of take_of

-- ---- "making a strict read wait although its own cell is pending"

-- "the mode is sequential, something is pending, .. and the turn is elsewhere", without "this cell is not". (The record is then not sound, since "a
-- waiting read has .. a cell .. that is not pending", and every further call gets 5)
abbrev pub must_wait_too_often : Desk → Bool
must_wait_too_often d = sequential d.head && anywhere 64 (filled d.pkind) && not (own_turn d.head)

unfoldable pub own_cell_waits : Calls
own_cell_waits =
    calls_with write_of
    (λ d cell.
    call (read_rules d cell) d []
    (cond (must_wait_too_often d) waits (holds (shown_at d cell)))
    (cond (must_wait_too_often d) (waiting_desk d cell) d)
    [])
    send_of deliver_of take_of

-- ---- "treating kind 1 as a day of zero"

-- every entry of a sheet is taken for a day, and open has the day 0 there
abbrev pub shelf_of_days : Desk → List Entry → Desk
shelf_of_days d es =
    let going = goes (causal d.head) d.pkind in
    record { head = d.head; kind = laid going (λ e. 2) d.kind es; day = laid going day_on d.day es; pkind = d.pkind; pday = d.pday }

unfoldable pub kind1_is_day0 : Calls
kind1_is_day0 = calls_with write_of read_of send_of deliver_of (λ d tray. with_desk (with_shelf_of (shelf_of_days d (entries_taken d tray))) (take_of d tray))

-- ---- the five slips; the last, "letting a waiting read answer after its desk's next send", is made in specs/WrongRuns.antt

pub record SlipsShutOut : Type 0 where
  pub one_value_per_cell_is_out : ShutOut one_value_per_cell
  pub sends_no_empty_sheet_is_out : ShutOut sends_no_empty_sheet
  pub own_cell_waits_is_out : ShutOut own_cell_waits
  pub kind_1_is_day_0 : ShutOut kind1_is_day0
  pub read_ends_late_is_out : ShutOut read_ends_late
