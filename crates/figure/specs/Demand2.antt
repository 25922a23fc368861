-- 00, demand 2: "Every call answers and changes its desk as Figure 1 of the source paper and document 01's calls say, counts included, in
-- all three modes. Sheets follow document 01 byte for byte: a written sheet reads back as the entries sent, and a good sheet's entries and
-- trailer numbers write the same bytes again."
-- `Demand2 calls`, at the end, is the whole of it, stated of any calls of a desk: of each call by which rules it is refused, that it then
-- changes nothing, and which piece of Figure 1 (specs/Figure1.antt) it is where it is carried out, under the map of specs/Map.antt. It is
-- proved of document 01's calls in proofs/Demand2.antt, leaves a call one outcome (specs/Settled.antt), and is false of the wrong desks
-- that 01 names (crates/witness/specs/WrongDesks.antt). The premises `DeskFits`, `SFits w32` and `AreBytes` are so of every value of the
-- code, by its types.
-- Assumes nothing.
use Rattle.std.specs.Prelude.{◌≡◌, true, List, [], ◌++◌, ◌≢◌, ℕ, ◌+◌, length, drop}
use Rattle.std.proofs.Math.Option.{Option, none, some}
use Rattle.std.specs.Int.{w32}
use Rattle.std.proofs.Common.{SFits}
use Rattle.answer.specs.Answer.{Rule, refused, answered}
use Rattle.answer.specs.Promises.{Silent, First}
use Rattle.content.specs.declared.Content.{Content}
use Rattle.content.specs.Content.{day_of}
use Rattle.layout.specs.Layout.{trailer_in}
use Rattle.layout.specs.Values.{AreBytes}
use Rattle.sheet.specs.Reading.{reading_of}
use Rattle.writer.specs.Promises.{WrittenReadsBack, ReadWritesBack}
use Rattle.sound.specs.Head.{turn_desk}
use Rattle.tray.specs.Tray.{sheet_at, held_in, cleared_in}
use Rattle.pending.specs.Pending.{numbers_for, pending_entries}
use Rattle.desk.specs.declared.Desk.{Desk}
use Rattle.desk.specs.Answers.{Value, Done, opened, stored, holds, waits, sent, held, taken}
use Rattle.desk.specs.Calls.{Calls, sound, zero_desk, mode_for, open_rules, write_rules, read_rules, send_rules, deliver_rules, take_rules}
use Rattle.desk.specs.Values.{DeskFits}
use Rattle.figure.specs.Figure1.{Process, Event, writes, reads, blocks, broadcasts, applies_updates, initial, Step}
use Rattle.figure.specs.Map.{model_of, never_written, updates_of, process_of, carried, received}

-- ---- what every call has

-- 01, "Numbers given back": "the first that applies is given, and none otherwise. The answer is then that number alone, and the record and
-- all lent bytes are as before." Where none applies, the call is carried out, and this is so of what it settles
pub record ByRules (rules : List Rule) (d : Desk) (lent : List ℕ) (CarriedOut : Done → Type 0) (done : Done) : Type 0 where
  pub refused_with : (k : ℕ) → First k rules → done ≡ record { answer = refused k; desk = d; lent = lent }
  pub carried_out : Silent rules → CarriedOut done

-- a step of this desk's process, in its model
abbrev pub StepOf : Desk → Process Content → Event Content → Process Content → Type 0
StepOf d = Step d.head.n d.head.own (model_of d.head.mode)

-- what a process leaves out of a record: the numbers that it was opened with, and the turn number, of which `process_of` has what n leaves
pub record Rest : Type 0 where
  pub desks : ℕ
  pub cells : ℕ
  pub own_number : ℕ
  pub mode_number : ℕ
  pub turn_number : ℕ

-- the rest of this record, with this turn number
abbrev pub rest_at : Desk → ℕ → Rest
rest_at d turn = record { desks = d.head.n; cells = d.head.m; own_number = d.head.own; mode_number = d.head.mode; turn_number = turn }

-- a sound record, and one of the code, with this rest
pub record SoundWith (rest : Rest) (d : Desk) : Type 0 where
  pub rest_is : rest_at d d.head.turn ≡ rest
  pub is_sound : sound d ≡ true
  pub fits : DeskFits d

-- ---- Open

-- "All cells blank, nothing pending, turn number 0. Mode 0 means the default: causal.": Figure 1's "Initialization", of process `own` of n,
-- with nothing in its tray
pub record Initialization (n m own mode : ℕ) (done : Done) : Type 0 where
  pub process : process_of done.desk [] ≡ initial never_written
  pub next : SoundWith (record { desks = n; cells = m; own_number = own; mode_number = mode_for mode; turn_number = 0 }) done.desk
  pub none_lent : done.lent ≡ []
  pub answer : done.answer ≡ answered opened

-- ---- Write

-- "The cell takes the content; the content becomes that cell's pending entry, replacing an earlier one.": w_p(x)v, whatever is in the tray,
-- which stays
pub record WriteStep (d : Desk) (cell : ℕ) (c : Content) (done : Done) : Type 0 where
  pub step : (tray : List ℕ) → StepOf d (process_of d tray) (writes cell c) (process_of done.desk tray)
  pub next : SoundWith (rest_at d d.head.turn) done.desk
  pub none_lent : done.lent ≡ []
  pub answer : done.answer ≡ answered stored

-- ---- Read

-- "It waits exactly if the mode is sequential, something is pending, this cell is not, and the turn is elsewhere. Otherwise it answers the
-- cell.": r_p(x) blocks, by Figure 1's test, or returns what is answered
pub data ReadShows (cell : ℕ) : Event Content → Value → Type 0 where
  begins_to_wait : ReadShows cell (blocks cell) waits
  returns : (c : Content) → ReadShows cell (reads cell c) (holds c)

pub record ReadStep (d : Desk) (cell : ℕ) (done : Done) : Type 0 where
  pub event : Event Content
  pub step : (tray : List ℕ) → StepOf d (process_of d tray) event (process_of done.desk tray)
  pub next : SoundWith (rest_at d d.head.turn) done.desk
  pub none_lent : done.lent ≡ []
  pub value : Value
  pub shows : ReadShows cell event value
  pub answer : done.answer ≡ answered value

-- ---- Send

-- "Writes one sheet with every pending entry, an empty sheet if there are none, empties the pending set, adds 1 to the turn number. Bytes of
-- the lent buffer past the sheet stay. The answer gives the sheet's turn number and its number of entries.": send_updates()
pub record SendStep (d : Desk) (buf : List ℕ) (done : Done) : Type 0 where
  pub entries : ℕ
  pub sheet : List ℕ
  pub are_bytes : AreBytes sheet
  -- "a written sheet reads back as the entries sent": these bytes and no others do (`read_writes_back`, below)
  pub reads_back : reading_of sheet ≡ answered (record { numbers = numbers_for d.head entries; entries = pending_entries d.pkind d.pday })
  -- so what is broadcast is what the sheet carries
  pub carries : carried sheet ≡ updates_of d.pkind d.pday
  -- no read is blocked then: `Step` has no other way to send
  pub step : (tray : List ℕ) → StepOf d (process_of d tray) (broadcasts (updates_of d.pkind d.pday)) (process_of done.desk tray)
  pub next : SoundWith (rest_at d (d.head.turn + 1)) done.desk
  pub buffer : done.lent ≡ sheet ++ drop (length sheet) buf
  pub answer : done.answer ≡ answered (sent d.head.turn entries)

-- ---- Deliver

-- "Puts a sheet in the sender's place in the lent tray. The record stays.": the message comes into the receiving buffer, which is the line's
-- part and no step of the process
pub record Arrival (d : Desk) (tray s : List ℕ) (done : Done) : Type 0 where
  pub place : done.lent ≡ held_in tray (trailer_in s).sender s
  pub same : done.desk ≡ d
  pub answer : done.answer ≡ answered held
  -- so there was no message from this sender, there is this one, and those of the others are as before
  pub was_free : received tray (trailer_in s).sender ≡ none
  pub arrives : received done.lent (trailer_in s).sender ≡ some (carried s)
  pub others : (q : ℕ) → q ≢ (trailer_in s).sender → received done.lent q ≡ received tray q

-- ---- Take

-- "If the turn is now the desk's own and a read waits, the answer carries that cell's content and the read is over.": the blocked read
-- finishes, from the copies as they are when the turn comes, and before any send_updates(). Where the answer carries none, no read is
-- blocked whose turn has come
pub data ThenFinishes (d : Desk) (between : Process Content) : Option Content → Process Content → Type 0 where
  nothing_to_finish : {after : Process Content} → after ≡ between → (after.turn ≡ d.head.own → after.blocked ≡ none)
      → ThenFinishes d between none after
  finishes : {after : Process Content} (x : ℕ) (c : Content) → between.blocked ≡ some x → StepOf d between (reads x c) after
      → ThenFinishes d between (some c) after

-- "Takes the sheet of the desk whose turn it is. Each entry goes to the shelf in causal mode always, in the other modes only if that cell is
-- not pending. Pending entries never change. The place becomes zeros, the turn number goes up by 1. .. The answer always gives the sheet's
-- turn number, its number of entries and how many of them went to the shelf.": apply_updates(), of the set in the receiving buffer
pub record TakeSteps (d : Desk) (tray : List ℕ) (done : Done) : Type 0 where
  pub entries : ℕ
  pub applied : ℕ
  pub between : Process Content
  pub step : StepOf d (process_of d tray) (applies_updates (turn_desk d.head) (carried (sheet_at tray (turn_desk d.head))) entries applied) between
  pub place : done.lent ≡ cleared_in tray (turn_desk d.head)
  pub next : SoundWith (rest_at d (d.head.turn + 1)) done.desk
  pub waited : Option Content
  pub then : ThenFinishes d between waited (process_of done.desk done.lent)
  pub answer : done.answer ≡ answered (taken d.head.turn entries applied waited)
  -- so the numbers that are given are the sheet's own
  pub sheet_turn : (trailer_in (sheet_at tray (turn_desk d.head))).turn ≡ d.head.turn
  pub sheet_entries : (trailer_in (sheet_at tray (turn_desk d.head))).entries ≡ entries

-- ---- the demand

pub record Demand2 (calls : Calls) : Type 0 where
  -- "A refused open gives a record of zeros."
  pub opening : (n m own mode : ℕ) → ByRules (open_rules n m own mode) zero_desk [] (Initialization n m own mode) (calls.opening n m own mode)
  pub write : (d : Desk) (cell : ℕ) (c : Content) → DeskFits d → SFits w32 (day_of c)
      → ByRules (write_rules d cell c) d [] (WriteStep d cell c) (calls.write d cell c)
  pub read : (d : Desk) (cell : ℕ) → DeskFits d → ByRules (read_rules d cell) d [] (ReadStep d cell) (calls.read d cell)
  pub send : (d : Desk) (buf : List ℕ) → DeskFits d → ByRules (send_rules d buf) d buf (SendStep d buf) (calls.send d buf)
  pub deliver : (d : Desk) (tray s : List ℕ) → ByRules (deliver_rules d tray s) d tray (Arrival d tray s) (calls.deliver d tray s)
  pub take : (d : Desk) (tray : List ℕ) → DeskFits d → AreBytes tray
      → ByRules (take_rules d tray) d tray (TakeSteps d tray) (calls.take d tray)
  -- and of every sheet, sent or not. Reading a sheet and writing one from given entries are no desk's calls, so these two are the same for
  -- all `calls`: they are of 01's reading and writing, to which the contracts of `sheet::read` and `writer::write` hold the code
  pub written_reads_back : WrittenReadsBack
  pub read_writes_back : ReadWritesBack
