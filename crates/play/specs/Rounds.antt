-- 01, "The program `rounds`": what it prints, whole, for every input.
-- Assumes nothing.
use Rattle.std.specs.Prelude.{ℕ, ◌+◌, ◌≤◌, ◌≡◌, Bool, cond, ◌||◌, List, [], ◌∷◌, ◌++◌, ltb, length}
use Rattle.std.proofs.Math.Option.{Option, none, some}
use Rattle.answer.specs.Answer.{accepted}
use Rattle.laying.specs.Laying.{laid_over}
use Rattle.desk.specs.Calls.{document01, mode_for, open_of}
use Rattle.runs.specs.Run.{Shelf, State, start}
use Rattle.text.specs.Text.{text}
use Rattle.schedule.specs.Lines.{Line, lines_of}
use Rattle.schedule.specs.Start.{Start, start_in}
use Rattle.schedule.specs.Step.{Step, step_in}
use Rattle.printing.specs.StepAnswer.{StepAnswer, bad_line}
use Rattle.printing.specs.Printing.{line_text, header_text}
use Rattle.play.specs.Steps.{step_answer, after_step}

-- "16,384 bytes and 1,000 steps (lines after the first) at most": 1,001 lines
unfoldable pub too_long : List ℕ → Bool
too_long input = ltb 16384 (length input) || ltb 1001 (length (lines_of input))

-- ---- the steps

-- what a line's step comes to, and what those of the rest do. A bad line is one that says no step: "A line of another form, a number beyond 32 bits ..,
-- or a desk that isn't there, prints its step number and `bad line` and ends the run"
abbrev pub answers_then : State → Option Step → (State → List StepAnswer) → List StepAnswer
answers_then s none rest = bad_line ∷ []
answers_then s (some step) rest = step_answer s step ∷ rest (after_step s step)

-- what the steps of lines come to, of n desks that have come to this state
unfoldable pub step_answers : ℕ → State → List Line → List StepAnswer
step_answers n s [] = []
step_answers n s (line ∷ lines) = answers_then s (step_in n line) (λ t. step_answers n t lines)

-- "Then step number and answer": a line each, numbered from k on
unfoldable pub numbered : ℕ → List StepAnswer → List ℕ
numbered k [] = []
numbered k (a ∷ rest) = line_text k a ++ numbered (k + 1) rest

-- ---- the start

-- all desks have the mode of line 1
abbrev pub shelf_of : Start → Shelf
shelf_of x = record { n = x.n; m = x.m; mode = λ p. x.mode }

-- its desks can be opened; the first of them can exactly if all can (`FirstAsAll`, crates/ruled/specs/Promises.antt)
abbrev pub opens : Start → Bool
opens x = accepted (open_of x.n x.m 0 x.mode).answer

abbrev pub bad_start : List ℕ
bad_start = text "bad start\n"

-- the header, and the steps; "if it has another form or a desk can't be opened, `bad start` alone"
abbrev pub run_text : Option Start → List Line → List ℕ
run_text none lines = bad_start
run_text (some x) lines = cond (opens x) (header_text x.n x.m (mode_for x.mode) ++ numbered 1 (step_answers x.n (start document01 (shelf_of x)) lines)) bad_start

-- an input without a line has no line 1 of that form
abbrev pub lines_text : List Line → List ℕ
lines_text [] = bad_start
lines_text (line ∷ lines) = run_text (start_in line) lines

-- ---- whole

-- "else it prints `too long` alone, before any other test"
unfoldable pub printed : List ℕ → List ℕ
printed input = cond (too_long input) (text "too long\n") (lines_text (lines_of input))

-- ---- what is lent

-- this text at the front of a buffer, the bytes behind it as they were; how long it is; and that it has room
pub record Prints (x out out' : List ℕ) (size : ℕ) : Type 0 where
  pub bytes : out' ≡ laid_over out 0 x
  pub long : size ≡ length x
  pub room : size ≤ length out'
