-- What is promised of a run of `rounds` beside its contract: that its steps are calls of the run of demand 3. proofs/Runs.antt proves it.
-- Assumes nothing.
use Rattle.std.specs.Prelude.{ℕ, ◌<◌, ◌≡◌, true, false, List, [], ◌∷◌, ◌++◌}
use Rattle.std.proofs.Math.Option.{Option, none, some}
use Rattle.answer.specs.Answer.{Answer}
use Rattle.desk.specs.Answers.{Value}
use Rattle.desk.specs.Calls.{document01, mode_for, open_of}
use Rattle.runs.specs.Call.{Call}
use Rattle.runs.specs.Run.{State, start, after, answers_of, RunOn}
use Rattle.runs.specs.TurnRules.{TurnRules}
use Rattle.schedule.specs.Lines.{Line, lines_of}
use Rattle.schedule.specs.Start.{Start, start_in}
use Rattle.schedule.specs.Step.{Step, step_in}
use Rattle.printing.specs.StepAnswer.{StepAnswer, of_call, nothing_sent, bad_line}
use Rattle.printing.specs.Printing.{header_text}
use Rattle.play.specs.Steps.{call_of}
use Rattle.play.specs.Rounds.{too_long, step_answers, numbered, shelf_of, opens, printed}

-- ---- the desks

-- 01: "if .. a desk can't be opened": the desks of a shelf can be opened all or none, and the first of them says which
abbrev pub FirstAsAll : Type 0
FirstAsAll = (n m mode p : ℕ) → p < n → (open_of n m p mode).answer ≡ (open_of n m 0 mode).answer

-- ---- the steps

-- the call that a step is, and those of the rest; `d` "before the sender has sent" is none
abbrev pub calls_then : State → Option Call → (State → List Call) → List Call
calls_then s none rest = rest s
calls_then s (some c) rest = c ∷ rest (after document01 s c)

-- a bad line ends the run
abbrev pub step_then : State → Option Step → (State → List Call) → List Call
step_then s none rest = []
step_then s (some step) rest = calls_then s (call_of s step) rest

-- the calls that the steps of lines are, from s on
unfoldable pub calls_in : ℕ → State → List Line → List Call
calls_in n s [] = []
calls_in n s (line ∷ lines) = step_then s (step_in n line) (λ t. calls_in n t lines)

-- the answers of calls among what steps come to
abbrev pub call_answers : List StepAnswer → List (Answer Value)
call_answers [] = []
call_answers (of_call a ∷ rest) = a ∷ call_answers rest
call_answers (nothing_sent ∷ rest) = call_answers rest
call_answers (bad_line ∷ rest) = call_answers rest

-- ---- a schedule is a run

-- a schedule that is not too long, with a line 1 that says a shelf whose desks can be opened, and these lines behind it
pub record Playable (input : List ℕ) (x : Start) (lines : List Line) : Type 0 where
  pub fits : too_long input ≡ false
  pub first : Line
  pub all_lines : lines_of input ≡ first ∷ lines
  pub says : start_in first ≡ some x
  pub can_open : opens x ≡ true

-- its steps are calls of a run of demand 3, from all desks opened once, with clear trays; what is printed are that run's answers, line by line; and
-- the turn rules hold after each of its calls
pub record IsARun (input : List ℕ) (x : Start) (lines : List Line) : Type 0 where
  pub is_run : RunOn document01 (shelf_of x) (calls_in x.n (start document01 (shelf_of x)) lines)
  pub same_answers : call_answers (step_answers x.n (start document01 (shelf_of x)) lines) ≡ answers_of document01 (start document01 (shelf_of x)) (calls_in x.n (start document01 (shelf_of x)) lines)
  pub prints : printed input ≡ header_text x.n x.m (mode_for x.mode) ++ numbered 1 (step_answers x.n (start document01 (shelf_of x)) lines)
  pub turn_rules : (cs ds : List Call) → calls_in x.n (start document01 (shelf_of x)) lines ≡ cs ++ ds → TurnRules document01 (shelf_of x) cs

abbrev pub SchedulesAreRuns : Type 0
SchedulesAreRuns = (input : List ℕ) (x : Start) (lines : List Line) → Playable input x lines → IsARun input x lines
