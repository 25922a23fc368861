-- What is so after every run, beside the turn rules: every record is sound and has the numbers that it was opened with; the sheets sent have
-- the turn numbers 0, 1, 2 and so on, each from the desk whose turn that is; how far ahead of a desk a sheet can be; and which refusals never come.
-- proofs/EveryRun.antt proves it.
-- Assumes nothing.
use Rattle.std.specs.Prelude.{◌≡◌, true, List, ℕ, ◌+◌, ◌%◌, ◌≤◌, ◌<◌, length}
use Rattle.answer.specs.Answer.{answered}
use Rattle.layout.specs.Layout.{trailer_in}
use Rattle.layout.specs.Values.{AreBytes}
use Rattle.sheet.specs.Good.{good}
use Rattle.desk.specs.declared.Desk.{Desk}
use Rattle.desk.specs.Answers.{opened}
use Rattle.desk.specs.Calls.{document01, sound, mode_for, open_of}
use Rattle.desk.specs.Values.{DeskFits}
use Rattle.runs.specs.Call.{Call}
use Rattle.runs.specs.Run.{Shelf, Within, SentSheet, sheet_no, RunOn, reached}
use Rattle.runs.specs.TurnRules.{turn_of, Never}

-- "Open all desks of a shelf once": every open is carried out
abbrev pub EveryDeskOpens : Type 0
EveryDeskOpens =
    (shelf : Shelf) → Within shelf → (p : ℕ) → p < shelf.n → (open_of shelf.n shelf.m p (shelf.mode p)).answer ≡ answered opened

-- desk p's record is sound, each of its numbers fits its place, and n, m, own number and mode are those that it was opened with
pub record AsOpened (shelf : Shelf) (p : ℕ) (d : Desk) : Type 0 where
  pub is_sound : sound d ≡ true
  pub fits : DeskFits d
  pub n : d.head.n ≡ shelf.n
  pub m : d.head.m ≡ shelf.m
  pub own : d.head.own ≡ p
  pub mode : d.head.mode ≡ mode_for (shelf.mode p)

-- so is every desk's, whatever calls were made
abbrev pub RecordsAsOpened : Type 0
RecordsAsOpened =
    (shelf : Shelf) (cs : List Call) → RunOn document01 shelf cs → (p : ℕ) → p < shelf.n → AsOpened shelf p ((reached document01 shelf cs).desk p)

-- the sheet before which k were sent: 00, "Desks take turns in the order of their numbers."
pub record SheetInOrder (shelf : Shelf) (k : ℕ) (sheet : SentSheet) : Type 0 where
  pub from : sheet.from ≡ k % shelf.n
  pub is_good : good sheet.bytes ≡ true
  pub are_bytes : AreBytes sheet.bytes
  pub sender : (trailer_in sheet.bytes).sender ≡ k % shelf.n
  pub desks : (trailer_in sheet.bytes).desks ≡ shelf.n
  pub cells : (trailer_in sheet.bytes).cells ≡ shelf.m
  pub turn : (trailer_in sheet.bytes).turn ≡ k

-- so is every sheet of the line
abbrev pub SheetsInOrder : Type 0
SheetsInOrder =
    (shelf : Shelf) (cs : List Call) → RunOn document01 shelf cs
    → (let s = reached document01 shelf cs in (k : ℕ) → k < length s.line → SheetInOrder shelf k (sheet_no s k))

-- how far ahead of a desk a sheet can be: of the n numbers from its turn number on one is the desk's own and not sent, and sheets are sent in the order
-- of their numbers; so turn number + n - 2 is the most. That is two below where 17 begins
abbrev pub NotFarAhead : Type 0
NotFarAhead =
    (shelf : Shelf) (cs : List Call) → RunOn document01 shelf cs
    → (let s = reached document01 shelf cs in (p k : ℕ) → p < shelf.n → k < length s.line → k + 2 ≤ turn_of s p + shelf.n)

-- beside 17, 5 "record not sound", 12 "tray length not 398 × n", 13 "sheet not good", 14 "sheet's desks or cells differ from the record's", 21 "place does
-- not hold a good sheet of this shelf with that sender and turn number, followed by zeros"
pub record NeverComes (shelf : Shelf) (cs : List Call) : Type 0 where
  pub never_5 : Never 5 document01 shelf cs
  pub never_12 : Never 12 document01 shelf cs
  pub never_13 : Never 13 document01 shelf cs
  pub never_14 : Never 14 document01 shelf cs
  pub never_21 : Never 21 document01 shelf cs

abbrev pub TheseNeverCome : Type 0
TheseNeverCome = (shelf : Shelf) (cs : List Call) → RunOn document01 shelf cs → NeverComes shelf cs
