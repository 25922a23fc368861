-- The end of the turn numbers. 00, demand 3: "While no desk's turn number has reached its end". 01's table has 4,294,967,295 as the greatest, and
-- 10 is "turn number is 4,294,967,295". A desk whose turn number is that sends and takes no more, and nothing breaks: every call keeps records sound
-- (specs/EveryRun.antt), parts 1, 2, 3 and 5 of the demand hold as before, having no premise on turn numbers (specs/TurnRules.antt), and what is
-- left of part 4 is that some desk can go on until all are at their end. Part 5 counts accepted takes, and there are none any more: a read that
-- waits at a desk at its end goes on waiting. proofs/AtTheEnd.antt proves it; that the end comes is shown by a run (crates/witness/specs/TheEndComes.antt).
-- Assumes nothing.
use Rattle.std.specs.Prelude.{◌≡◌, ◌≢◌, true, false, List, ℕ, ◌<◌, length}
use Rattle.answer.specs.Answer.{refused}
use Rattle.sound.specs.Head.{own_turn}
use Rattle.refusals.specs.Rules.{last_turn}
use Rattle.runs.specs.Call.{Call, sends, delivers, takes}
use Rattle.desk.specs.Calls.{document01}
use Rattle.runs.specs.Run.{Shelf, State, sheet_no, made, after, Possible, RunOn, reached}
use Rattle.runs.specs.TurnRules.{turn_of, SomeGoesOn, ReadWaits}

-- what desk p, at its end, answers
pub record AtItsEnd (n : ℕ) (s : State) (p : ℕ) : Type 0 where
  -- 10, after 9 "turn not this desk's" in a send and 19 "take on the desk's own turn" in a take
  pub own_send : own_turn (s.desk p).head ≡ true → (buffer : List ℕ) → (made document01 s (sends p buffer)).answer ≡ refused 10
  pub other_send : own_turn (s.desk p).head ≡ false → (buffer : List ℕ) → (made document01 s (sends p buffer)).answer ≡ refused 9
  pub own_take : own_turn (s.desk p).head ≡ true → (made document01 s (takes p)).answer ≡ refused 19
  pub other_take : own_turn (s.desk p).head ≡ false → (made document01 s (takes p)).answer ≡ refused 10
  -- 15 "sheet's sender is this desk"; every other sheet sent has a number below its turn number: 16
  pub own_delivery : (k : ℕ) → k < length s.line → (sheet_no s k).from ≡ p → (made document01 s (delivers p k)).answer ≡ refused 15
  pub other_delivery : (k : ℕ) → k < length s.line → (sheet_no s k).from ≢ p → (made document01 s (delivers p k)).answer ≡ refused 16
  -- and its turn number stays, whichever call is next
  pub stays : (c : Call) → Possible n s c → turn_of (after document01 s c) p ≡ last_turn
  -- and a read that waits goes on waiting: no take is accepted any more
  pub waits_on : (cell : ℕ) → ReadWaits s p cell → (c : Call) → Possible n s c → ReadWaits (after document01 s c) p cell

-- it is so of every desk that a run has brought there
abbrev pub NothingBreaks : Type 0
NothingBreaks =
    (shelf : Shelf) (cs : List Call) → RunOn document01 shelf cs
    → (let s = reached document01 shelf cs in (p : ℕ) → p < shelf.n → turn_of s p ≡ last_turn → AtItsEnd shelf.n s p)

-- as long as one desk is not at its end, some desk can send or take
abbrev pub OthersGoOn : Type 0
OthersGoOn =
    (shelf : Shelf) (cs : List Call) → RunOn document01 shelf cs
    → (let s = reached document01 shelf cs in (q : ℕ) → q < shelf.n → turn_of s q < last_turn → SomeGoesOn document01 shelf.n s)
