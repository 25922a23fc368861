-- 00, demand 3: "Open all desks of a shelf once, with clear trays. Then make any list of other calls, refused ones too; each uses its desk's latest
-- record and own tray, which nothing else changes; only sheets sent on this shelf are delivered, unaltered, in any order and any number of
-- times."
-- Assumes nothing.
use Rattle.std.specs.Prelude.{ℕ, ◌+◌, ◌*◌, ◌≤◌, ◌<◌, cond, List, [], ◌∷◌, ◌++◌, eqb, length, get_or, take, replicate}
use Rattle.std.specs.Int.{w32}
use Rattle.std.proofs.Common.{SFits}
use Rattle.answer.specs.Answer.{Answer, refused, answered}
use Rattle.content.specs.Content.{day_of}
use Rattle.desk.specs.declared.Desk.{Desk}
use Rattle.desk.specs.Answers.{Value, opened, stored, holds, waits, sent, held, taken, Done}
use Rattle.desk.specs.Calls.{Calls}
use Rattle.runs.specs.Call.{Call, writes, reads, sends, delivers, takes}

-- ---- a shelf

-- 01, "Open": "The desks of one shelf share n and m and have the own numbers 0 to n-1, one each." Each has a mode of its own
pub record Shelf : Type 0 where
  pub n : ℕ
  pub m : ℕ
  pub mode : ℕ → ℕ

-- 01's table: desks 1 to 16, cells 1 to 64; a mode is 0, the default, to 3
pub record Within (shelf : Shelf) : Type 0 where
  pub desks_least : 1 ≤ shelf.n
  pub desks_most : shelf.n ≤ 16
  pub cells_least : 1 ≤ shelf.m
  pub cells_most : shelf.m ≤ 64
  pub modes_most : (p : ℕ) → p < shelf.n → shelf.mode p ≤ 3

-- ---- what there is at some time

-- a sheet that was sent, and which desk sent it
pub record SentSheet : Type 0 where
  pub from : ℕ
  pub bytes : List ℕ

-- each desk's latest record and own tray, by the desk's own number; and the line: all sheets sent so far, in the order in which they were
pub record State : Type 0 where
  pub desk : ℕ → Desk
  pub tray : ℕ → List ℕ
  pub line : List SentSheet

-- the sheet before which k were sent (an empty one where there is none; no run delivers that)
abbrev pub sheet_on : List SentSheet → ℕ → SentSheet
sheet_on line k = get_or line k (record { from = 0; bytes = [] })

abbrev pub sheet_no : State → ℕ → SentSheet
sheet_no s = sheet_on s.line

-- "Open all desks of a shelf once, with clear trays"
unfoldable pub start : Calls → Shelf → State
start calls shelf =
    record {
      desk = λ p. (calls.opening shelf.n shelf.m p (shelf.mode p)).desk;
      tray = λ p. replicate (398 * shelf.n) 0;
      line = [];
    }

-- ---- a call

-- what a call gives: "each uses its desk's latest record and own tray"
abbrev pub made : Calls → State → Call → Done
made calls s (writes p cell c) = calls.write (s.desk p) cell c
made calls s (reads p cell) = calls.read (s.desk p) cell
made calls s (sends p buffer) = calls.send (s.desk p) buffer
made calls s (delivers p k) = calls.deliver (s.desk p) (s.tray p) (sheet_no s k).bytes
made calls s (takes p) = calls.take (s.desk p) (s.tray p)

-- "which nothing else changes": desk p has this now, the others what they had
unfoldable pub put : {A : Type 0} → (ℕ → A) → ℕ → A → ℕ → A
put f p a q = cond (eqb q p) a (f q)

-- the sheet that a send left in the bytes lent to it, if it was carried out: its answer gives "its number of entries", 6 bytes each, and then
-- there is "the trailer of 12 bytes"
abbrev pub sheet_left : ℕ → Answer Value → List ℕ → List SentSheet
sheet_left p (refused k) lent = []
sheet_left p (answered opened) lent = []
sheet_left p (answered stored) lent = []
sheet_left p (answered (holds c)) lent = []
sheet_left p (answered waits) lent = []
sheet_left p (answered (sent turn entries)) lent = record { from = p; bytes = take (6 * entries + 12) lent } ∷ []
sheet_left p (answered held) lent = []
sheet_left p (answered (taken turn entries applied waited)) lent = []

-- what there is after a call: the desk's next record; its tray, where that was lent; and the sheet, where one was sent
unfoldable pub after : Calls → State → Call → State
after calls s (writes p cell c) =
    let done = made calls s (writes p cell c) in
    record { desk = put s.desk p done.desk; tray = s.tray; line = s.line }
after calls s (reads p cell) =
    let done = made calls s (reads p cell) in
    record { desk = put s.desk p done.desk; tray = s.tray; line = s.line }
after calls s (sends p buffer) =
    let done = made calls s (sends p buffer) in
    record { desk = put s.desk p done.desk; tray = s.tray; line = s.line ++ sheet_left p done.answer done.lent }
after calls s (delivers p k) =
    let done = made calls s (delivers p k) in
    record { desk = put s.desk p done.desk; tray = put s.tray p done.lent; line = s.line }
after calls s (takes p) =
    let done = made calls s (takes p) in
    record { desk = put s.desk p done.desk; tray = put s.tray p done.lent; line = s.line }

-- ---- a list of calls

-- a call that a run may have next: its desk is there, a day is a "signed 32-bit number", and what is delivered was sent
abbrev pub Possible : ℕ → State → Call → Type 0
Possible n s (writes p cell c) = (p < n) × SFits w32 (day_of c)
Possible n s (reads p cell) = p < n
Possible n s (sends p buffer) = p < n
Possible n s (delivers p k) = (p < n) × (k < length s.line)
Possible n s (takes p) = p < n

-- "any list of other calls, refused ones too", made one after the other from s on
unfoldable pub Run : Calls → ℕ → State → List Call → Type 0
Run calls n s [] = Unit {0}
Run calls n s (c ∷ cs) = Possible n s c × Run calls n (after calls s c) cs

-- what there is after them
unfoldable pub after_all : Calls → State → List Call → State
after_all calls s [] = s
after_all calls s (c ∷ cs) = after_all calls (after calls s c) cs

-- what they answered
unfoldable pub answers_of : Calls → State → List Call → List (Answer Value)
answers_of calls s [] = []
answers_of calls s (c ∷ cs) = (made calls s c).answer ∷ answers_of calls (after calls s c) cs

-- ---- on a fresh shelf

-- these calls are a run on this shelf: the premises of demand 3, whole
pub record RunOn (calls : Calls) (shelf : Shelf) (cs : List Call) : Type 0 where
  pub within : Within shelf
  pub run : Run calls shelf.n (start calls shelf) cs

-- what there is after these calls
abbrev pub reached : Calls → Shelf → List Call → State
reached calls shelf cs = after_all calls (start calls shelf) cs
