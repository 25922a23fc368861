-- What the functions of src/first.rt find. Nobody need believe it: the public promise is that of specs/Rounds.antt.
-- Assumes nothing.
use Rattle.std.specs.Prelude.{ℕ, ◌<◌, ◌≡◌, List, [], ◌∷◌, length}
use Rattle.std.proofs.Math.Option.{none, some}
use Rattle.schedule.specs.Lines.{Line, ended, last_line, lines_of}
use Rattle.schedule.specs.Step.{Step, step_in, said_act}
use Rattle.schedule.specs.declared.Step as declared

-- no line feed ends a line of this text: it is one line, that is cut, or none
abbrev pub NoneEnded : List ℕ → Type 0
NoneEnded text = lines_of text ≡ last_line text

-- the first line of a text, which a line feed ends, and what is behind that
pub record FirstLine (text line rest : List ℕ) : Type 0 where
  pub lines : lines_of text ≡ ended line ∷ lines_of rest
  pub shorter : length rest < length text

-- what a step of the code says
abbrev pub said : declared.Step → Step
said step = record { desk = step.desk; act = said_act step.act }

-- the first line, if there is one, says no step
abbrev pub BadFirst : ℕ → List Line → Type 0
BadFirst n [] = Unit {0}
BadFirst n (line ∷ lines) = step_in n line ≡ none

-- the first line says this step; and what is behind the line
pub record FirstStep (n : ℕ) (text : List ℕ) (step : Step) (rest : List ℕ) : Type 0 where
  pub line : Line
  pub says : step_in n line ≡ some step
  pub lines : lines_of text ≡ line ∷ lines_of rest
  pub shorter : length rest < length text
