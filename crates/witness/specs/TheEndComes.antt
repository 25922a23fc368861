-- The end of the turn numbers comes (crates/runs/specs/AtTheEnd.antt): two desks that send and take in turn get there. proofs/TheEndComes.antt
-- proves it.
-- Assumes nothing.
use Rattle.std.specs.Prelude.{◌≡◌, List, ℕ}
use Rattle.answer.specs.Answer.{refused}
use Rattle.refusals.specs.Rules.{last_turn}
use Rattle.runs.specs.Call.{Call, sends, takes}
use Rattle.desk.specs.Calls.{document01}
use Rattle.runs.specs.Run.{Shelf, made, RunOn, reached}
use Rattle.runs.specs.TurnRules.{turn_of}

abbrev pub one_cell : Shelf
one_cell = record { n = 2; m = 1; mode = λ p. 2 }

-- 4,294,967,295 is odd, so the turn is then at desk 1: its send gets 10, and so does desk 0's take
pub record TheEndComes : Type 0 where
  pub calls : List Call
  pub run : RunOn document01 one_cell calls
  pub desk_0 : turn_of (reached document01 one_cell calls) 0 ≡ last_turn
  pub desk_1 : turn_of (reached document01 one_cell calls) 1 ≡ last_turn
  pub send_10 : (buffer : List ℕ) → (made document01 (reached document01 one_cell calls) (sends 1 buffer)).answer ≡ refused 10
  pub take_10 : (made document01 (reached document01 one_cell calls) (takes 0)).answer ≡ refused 10
