-- What a step of a schedule comes to: a call's answer, or neither call nor answer.
-- Assumes nothing.
use Rattle.std.specs.Prelude.{ℕ, Result, Ok, Err}
use Rattle.answer.specs.Answer.{Answer, refused, answered}
use Rattle.desk.specs.declared.Answer as desk_answer
use Rattle.desk.specs.Answers.{Value, value_of}
use Rattle.printing.specs.declared.StepAnswer as declared
use Rattle.printing.specs.declared.StepAnswer.TheVariants as cases

pub data StepAnswer : Type 0 where
  of_call : Answer Value → StepAnswer
  -- 01, "The program `rounds`": "`d` before the sender has sent prints `nothing sent`."
  nothing_sent : StepAnswer
  -- "A line of another form, a number beyond 32 bits .., or a desk that isn't there, prints its step number and `bad line`"
  bad_line : StepAnswer

-- what a call answered, with a refusal by its number
abbrev pub told_answer : Result desk_answer.Answer ℕ → Answer Value
told_answer (Ok a) = answered (value_of a)
told_answer (Err k) = refused k

-- what each case of the code's enum says
abbrev pub said_step_answer : declared.StepAnswer → StepAnswer
said_step_answer (cases.OfCall r) = of_call (told_answer r)
said_step_answer cases.NothingSent = nothing_sent
said_step_answer cases.BadLine = bad_line
