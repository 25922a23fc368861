-- What every call keeps of a record, as laws that others cite: an open that is carried out gives a sound record, and every other call, refused or not,
-- hands a sound record on. Demand 2 says so of any calls (crates/figure/specs/Demand2.antt); here it is of document 01's, each alone.
--   KeptSound, KeepsSound, OpenIsSound                        sound records
--   KeptFits, KeepsFits                                       records that fit
--   SameNumbers, SameTurn, NextTurn, NumbersStay              the numbers of a record
-- Assumes nothing.
use mathlib.Core.Path.{◌≡◌}
use mathlib.Core.Bool.{true}
use mathlib.Core.List.{List}
use Prim.Native.Nat.{ℕ, ◌+◌}
use mir.Syntax.{w32}
use mir.Val.{SFits}
use Rattle.answer.specs.Answer.{answered}
use Rattle.content.specs.declared.Content.{Content}
use Rattle.content.specs.Content.{day_of}
use Rattle.layout.specs.Values.{AreBytes}
use Rattle.desk.specs.declared.Desk.{Desk}
use Rattle.desk.specs.Answers.{Value, opened, Done}
use Rattle.desk.specs.Calls.{sound, open_of, write_of, read_of, send_of, deliver_of, take_of}
use Rattle.desk.specs.Values.{DeskFits}

-- ---- sound records

-- "All cells blank, nothing pending, turn number 0." (A refused open "gives a record of zeros", which fits too.)
pub record OpenIsSound : Type 0 where
  pub sound_record : (n m own mode : ℕ) → (open_of n m own mode).answer ≡ answered opened → sound (open_of n m own mode).desk ≡ true
  pub record_fits : (n m own mode : ℕ) → DeskFits (open_of n m own mode).desk

-- a sound record before a call, and a sound one after it, whatever the call answers: one that is refused hands the same record back
abbrev pub KeptSound : Desk → Done → Type 0
KeptSound d done = DeskFits d → sound d ≡ true → sound done.desk ≡ true

pub record KeepsSound : Type 0 where
  pub write : (d : Desk) (cell : ℕ) (c : Content) → KeptSound d (write_of d cell c)
  pub read : (d : Desk) (cell : ℕ) → KeptSound d (read_of d cell)
  pub send : (d : Desk) (buf : List ℕ) → KeptSound d (send_of d buf)
  pub deliver : (d : Desk) (tray s : List ℕ) → KeptSound d (deliver_of d tray s)
  pub take : (d : Desk) (tray : List ℕ) → KeptSound d (take_of d tray)

-- ---- records that fit: 64 places in each array, days of 32 bits, and a turn number of 4,294,967,295 at most, at which sends and takes get 10

abbrev pub KeptFits : Desk → Done → Type 0
KeptFits d done = DeskFits d → DeskFits done.desk

pub record KeepsFits : Type 0 where
  pub write : (d : Desk) (cell : ℕ) (c : Content) → SFits w32 (day_of c) → KeptFits d (write_of d cell c)
  pub read : (d : Desk) (cell : ℕ) → KeptFits d (read_of d cell)
  pub send : (d : Desk) (buf : List ℕ) → KeptFits d (send_of d buf)
  pub deliver : (d : Desk) (tray s : List ℕ) → KeptFits d (deliver_of d tray s)
  pub take : (d : Desk) (tray : List ℕ) → AreBytes tray → KeptFits d (take_of d tray)

-- ---- the numbers of a record

-- "A record holds n, m, the desk's own number, mode ..": what an open gave, no call changes
pub record SameNumbers (before after : Desk) : Type 0 where
  pub n : after.head.n ≡ before.head.n
  pub m : after.head.m ≡ before.head.m
  pub own : after.head.own ≡ before.head.own
  pub mode : after.head.mode ≡ before.head.mode

-- the turn number stays
abbrev pub SameTurn : Desk → Desk → Type 0
SameTurn before after = after.head.turn ≡ before.head.turn

-- Send "adds 1 to the turn number", Take: "the turn number goes up by 1", where the call is carried out
abbrev pub NextTurn : Desk → Done → Type 0
NextTurn d done = (v : Value) → done.answer ≡ answered v → done.desk.head.turn ≡ d.head.turn + 1

pub record NumbersStay : Type 0 where
  pub write : (d : Desk) (cell : ℕ) (c : Content) → SameNumbers d (write_of d cell c).desk
  pub read : (d : Desk) (cell : ℕ) → SameNumbers d (read_of d cell).desk
  pub send : (d : Desk) (buf : List ℕ) → SameNumbers d (send_of d buf).desk
  -- Deliver: "The record stays."
  pub deliver : (d : Desk) (tray s : List ℕ) → (deliver_of d tray s).desk ≡ d
  pub take : (d : Desk) (tray : List ℕ) → SameNumbers d (take_of d tray).desk
  pub write_turn : (d : Desk) (cell : ℕ) (c : Content) → SameTurn d (write_of d cell c).desk
  pub read_turn : (d : Desk) (cell : ℕ) → SameTurn d (read_of d cell).desk
  pub send_turn : (d : Desk) (buf : List ℕ) → NextTurn d (send_of d buf)
  pub take_turn : (d : Desk) (tray : List ℕ) → NextTurn d (take_of d tray)
