-- 01, "Numbers given back": "Order within a call is left to right; the first that applies is given, and none otherwise."
-- The rules of a desk's calls as they can be tested, over what they look at: `ok` is whether the record is sound, h the numbers of the record.
-- A call with a sheet or a tray has them in parts. `open_rules` to `take_rules` (crates/desk/specs/Calls.antt) are each call's whole list, with 11
-- and 13, which are found where a sheet is written or read.
-- Assumes nothing.
use Rattle.std.specs.Prelude.{ℕ, ◌+◌, ◌*◌, Bool, not, ◌&&◌, List, [], ◌∷◌, eqb, leb, ltb}
use Rattle.answer.specs.Answer.{Answer, Rule, ◌if◌, answer}
use Rattle.numbers.specs.Limits.{desks_within, cells_within}
use Rattle.layout.specs.declared.Numbers.{Numbers}
use Rattle.layout.specs.Layout.{trailer_in, numbers_of}
use Rattle.sound.specs.declared.Head.{Head}
use Rattle.sound.specs.Head.{turn_desk, own_turn, read_waits}
use Rattle.tray.specs.Tray.{free, sheet_at, holds_good}

-- the greatest turn number
abbrev pub last_turn : ℕ
last_turn = 4294967295

-- Open. 1, 2, 3, 4: "desks, cells, own number, mode (above 3) outside its range"
abbrev pub open_tests : ℕ → ℕ → ℕ → ℕ → List Rule
open_tests n m own mode =
    1 if not (desks_within n)
    ∷ 2 if not (cells_within m)
    ∷ 3 if leb n own
    ∷ 4 if ltb 3 mode
    ∷ []

-- Write. 5 "record not sound", 6 "cell not below m", 7 "write of blank", 8 "a read waits at this desk"
abbrev pub write_tests : Bool → Head → ℕ → ℕ → List Rule
write_tests ok h cell kind =
    5 if not ok
    ∷ 6 if leb h.m cell
    ∷ 7 if eqb kind 0
    ∷ 8 if read_waits h
    ∷ []

-- Read. 5, 6, 8
abbrev pub read_tests : Bool → Head → ℕ → List Rule
read_tests ok h cell =
    5 if not ok
    ∷ 6 if leb h.m cell
    ∷ 8 if read_waits h
    ∷ []

-- Send, before the sheet is written. 5, 9 "turn not this desk's", 10 "turn number is 4,294,967,295"
abbrev pub send_tests : Bool → Head → List Rule
send_tests ok h =
    5 if not ok
    ∷ 9 if not (own_turn h)
    ∷ 10 if eqb h.turn last_turn
    ∷ []

-- a tray of this length has 398 bytes for each desk
abbrev pub tray_fits : Head → ℕ → Bool
tray_fits h size = eqb size (398 * h.n)

-- Deliver and take, of a tray of this length. 5, 12 "tray length not 398 × n"
abbrev pub tray_tests : Bool → Head → ℕ → List Rule
tray_tests ok h size =
    5 if not ok
    ∷ 12 if not (tray_fits h size)
    ∷ []

-- Deliver, of a good sheet with these numbers, whose sender's place is free or not. 14 "sheet's desks or cells differ from the record's",
-- 15 "sheet's sender is this desk", 16 "sheet's number below the desk's turn number", 17 "sheet's number at or above turn number + n",
-- 18 "sender's place not free"
abbrev pub sheet_tests : Head → Numbers → Bool → List Rule
sheet_tests h x is_free =
    14 if not (eqb x.desks h.n && eqb x.cells h.m)
    ∷ 15 if eqb x.sender h.own
    ∷ 16 if ltb x.turn h.turn
    ∷ 17 if leb (h.turn + h.n) x.turn
    ∷ 18 if not is_free
    ∷ []

-- Take, behind 5 and 12. 19 "take on the desk's own turn", 10
abbrev pub turn_tests : Head → List Rule
turn_tests h =
    19 if own_turn h
    ∷ 10 if eqb h.turn last_turn
    ∷ []

-- 21, of a good sheet's numbers: "of this shelf with that sender and turn number"
abbrev pub is_next : Head → Numbers → Bool
is_next h x = (eqb x.desks h.n && eqb x.cells h.m) && (eqb x.sender (turn_desk h) && eqb x.turn h.turn)

-- Take, of the turn desk q. 20 "first two bytes of the turn desk's place are zero", 21 "place does not hold a good sheet of this shelf with
-- that sender and turn number, followed by zeros"
abbrev pub place_tests : Head → List ℕ → ℕ → List Rule
place_tests h tray q =
    20 if free tray q
    ∷ 21 if not (holds_good tray q && is_next h (numbers_of (trailer_in (sheet_at tray q))))
    ∷ []

-- what a look at that place finds: the number, or the sheet's number of entries
unfoldable pub looked_at : Head → List ℕ → ℕ → Answer ℕ
looked_at h tray q = answer (place_tests h tray q) (trailer_in (sheet_at tray q)).entries
