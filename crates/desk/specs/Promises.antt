-- What is promised of a desk's answers beside the calls' contracts. proofs/Laws/Answers.antt proves it. Demand 2 is stated in crates/figure.
-- Assumes nothing.
use Rattle.std.specs.Prelude.{◌≡◌, Result}
use Rattle.answer.specs.declared.Refusal.{Refusal}
use Rattle.desk.specs.declared.Answer.{Answer}
use Rattle.desk.specs.Answers.{said_answer}

-- two different answers never say the same
abbrev pub AnswersApart : Type 0
AnswersApart = (a b : Result Answer Refusal) → said_answer a ≡ said_answer b → a ≡ b
