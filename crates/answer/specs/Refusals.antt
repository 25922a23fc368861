-- The code's refusals, and what a `Result` with one says: 01, "Numbers given back", and 02, K1, which adds 23. "The answer is then that
-- number alone".
-- Assumes nothing.
use Rattle.std.specs.Prelude.{ℕ, Bool, cond, List, ◌++◌, codes}
use Rattle.std.specs.Prelude.{Result, Ok, Err}
use Rattle.std.specs.Fmt.{decimal}
use Rattle.answer.specs.declared.Refusal.{Refusal}
use Rattle.answer.specs.declared.Refusal.TheVariants as refusal
use Rattle.answer.specs.Answer.{Answer, Rule, refused, answered, answer}

-- a refusal's number
abbrev pub number_of : Refusal → ℕ
number_of refusal.DesksOutside = 1
number_of refusal.CellsOutside = 2
number_of refusal.OwnNumberOutside = 3
number_of refusal.ModeOutside = 4
number_of refusal.NotSound = 5
number_of refusal.CellNotBelow = 6
number_of refusal.BlankWritten = 7
number_of refusal.ReadWaits = 8
number_of refusal.TurnElsewhere = 9
number_of refusal.LastTurn = 10
number_of refusal.BufferShort = 11
number_of refusal.TrayLength = 12
number_of refusal.SheetNotGood = 13
number_of refusal.OtherShelf = 14
number_of refusal.OwnSheet = 15
number_of refusal.NumberBelow = 16
number_of refusal.NumberFarAbove = 17
number_of refusal.PlaceNotFree = 18
number_of refusal.OwnTurn = 19
number_of refusal.NoSheet = 20
number_of refusal.NotThatSheet = 21
number_of refusal.OutsideCalendar = 22
number_of refusal.BookNotGood = 23

-- what the code's answer says: its refusal's number, or the values that its own answer stands for
abbrev pub said : {A B : Type 0} → (A → B) → Result A Refusal → Answer B
said values (Ok a) = answered (values a)
said values (Err r) = refused (number_of r)

-- what a test of rules says: the number of the first that applies, or that none does
abbrev pub first_of : List Rule → Answer (Unit {0})
first_of rs = answer rs tt

-- a refusal, where its rule applies
abbrev pub refused_when : Refusal → Bool → Result (Unit {0}) Refusal
refused_when r applies = cond applies (Err r) (Ok tt)

-- a refusal as the programs print it: 01, "The program `rounds`": "`refused` and number"
abbrev pub shown : Refusal → List ℕ
shown r = codes "refused " ++ decimal (number_of r)
