-- What is promised of the lines of a schedule. Together: a line says a step exactly if it is the line of a step within the limits, and line 1
-- likewise; so no other spaces, digits, signs or letters are read. And of the types of `schedule` and `printing`, that two different values never
-- say the same. proofs/Steps.antt and proofs/Starts.antt prove it, and proofs/Printed.antt what is of `StepAnswer`.
-- Assumes nothing.
use Rattle.std.specs.Prelude.{◌≡◌, ℕ, ◌<◌, ◌≤◌, Option}
use Rattle.std.proofs.Math.Option.{some}
use Rattle.std.specs.Int.{w32}
use Rattle.std.proofs.Common.{SFits}
use Rattle.content.specs.declared.Content.{Content}
use Rattle.content.specs.declared.Content.TheVariants.{Blank}
use Rattle.content.specs.Content.{day_of}
use Rattle.schedule.specs.declared.Shelf as declared_shelf
use Rattle.schedule.specs.declared.Act as declared_act
use Rattle.schedule.specs.declared.Step as declared_step
use Rattle.printing.specs.declared.StepAnswer as declared_answer
use Rattle.schedule.specs.Lines.{Line, ended}
use Rattle.schedule.specs.Start.{Start, start_in, said_start}
use Rattle.schedule.specs.Step.{writes, reads, delivers, Step, step_in, said_act, said_step}
use Rattle.printing.specs.StepAnswer.{said_step_answer}
use Rattle.lines.specs.Line.{step_line, start_line}

-- ---- steps

-- "a number beyond 32 bits (unsigned, for a day signed), or a desk that isn't there" is no step; nor is a write of blank, which has no word
pub record StepInRange (n : ℕ) (step : Step) : Type 0 where
  pub desk : step.desk < n
  pub sender : (q : ℕ) → step.act ≡ delivers q → q < n
  pub cell_written : (cell : ℕ) (c : Content) → step.act ≡ writes cell c → cell ≤ 4294967295
  pub cell_read : (cell : ℕ) → step.act ≡ reads cell → cell ≤ 4294967295
  pub day : (cell : ℕ) (c : Content) → step.act ≡ writes cell c → SFits w32 (day_of c)
  pub not_blank : (cell : ℕ) (c : Content) → step.act ≡ writes cell c → c ≡ Blank → ⊥

abbrev pub StepsAreInRange : Type 0
StepsAreInRange = (n : ℕ) (l : Line) (step : Step) → step_in n l ≡ some step → StepInRange n step

-- a line that says a step is that step's one line, ended by its line feed
abbrev pub OneLinePerStep : Type 0
OneLinePerStep = (n : ℕ) (l : Line) (step : Step) → step_in n l ≡ some step → l ≡ ended (step_line step)

-- and that line says it
abbrev pub StepReadsBack : ℕ → Step → Type 0
StepReadsBack n step = step_in n (ended (step_line step)) ≡ some step

abbrev pub EveryStepHasALine : Type 0
EveryStepHasALine = (n : ℕ) (step : Step) → n ≤ 4294967296 → StepInRange n step → StepReadsBack n step

-- ---- line 1

-- of modes there are four: "(1 sequential, 2 causal, 3 cache)", "Mode 0 means the default"
pub record StartInRange (x : Start) : Type 0 where
  pub desks : x.n ≤ 4294967295
  pub cells : x.m ≤ 4294967295
  pub mode : x.mode ≤ 3

abbrev pub StartsAreInRange : Type 0
StartsAreInRange = (l : Line) (x : Start) → start_in l ≡ some x → StartInRange x

abbrev pub OneLinePerStart : Type 0
OneLinePerStart = (l : Line) (x : Start) → start_in l ≡ some x → l ≡ ended (start_line x)

abbrev pub EveryStartHasALine : Type 0
EveryStartHasALine = (x : Start) → StartInRange x → start_in (ended (start_line x)) ≡ some x

-- ---- the code's types: two different values never say the same

-- what `start_in` answers
abbrev pub StartsApart : Type 0
StartsApart = (a b : Option declared_shelf.Shelf) → said_start a ≡ said_start b → a ≡ b

-- what `step_in` answers, and the act in it
abbrev pub ActsApart : Type 0
ActsApart = (a b : declared_act.Act) → said_act a ≡ said_act b → a ≡ b

abbrev pub StepsApart : Type 0
StepsApart = (a b : Option declared_step.Step) → said_step a ≡ said_step b → a ≡ b

-- what a step comes to
abbrev pub StepAnswersApart : Type 0
StepAnswersApart = (a b : declared_answer.StepAnswer) → said_step_answer a ≡ said_step_answer b → a ≡ b
