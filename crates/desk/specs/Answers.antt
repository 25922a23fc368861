-- What a call of a desk gives back: its answer, the next record, and what it leaves of the bytes lent to it. 01: "Each call takes the
-- record and gives back the next record beside its answer."
-- Assumes nothing.
use Rattle.std.specs.Prelude.{ℕ, List, Result, Some, None, Option as Given}
use Rattle.std.proofs.Math.Option.{Option, none, some}
use Rattle.answer.specs.declared.Refusal.{Refusal}
use Rattle.answer.specs.Answer.{Answer, Rule, answer, leaves}
use Rattle.answer.specs.Refusals.{said}
use Rattle.content.specs.declared.Content.{Content}
use Rattle.desk.specs.declared.Desk.{Desk}
use Rattle.desk.specs.declared.Outcome.{Outcome}
use Rattle.desk.specs.declared.Answer as declared
use Rattle.desk.specs.declared.Answer.TheVariants as answers

-- 01's values, call by call
pub data Value : Type 0 where
  opened : Value
  -- "a write `stored`"
  stored : Value
  -- a read "answers the cell", or "It waits"
  holds : Content → Value
  waits : Value
  -- Send: "The answer gives the sheet's turn number and its number of entries."
  sent : (turn entries : ℕ) → Value
  -- "a deliver `held`"
  held : Value
  -- Take: "The answer always gives the sheet's turn number, its number of entries and how many of them went to the shelf"; "If the turn is
  -- now the desk's own and a read waits, the answer carries that cell's content"
  taken : (turn entries applied : ℕ) (waited : Option Content) → Value

-- the content that an answer carries, if it does, as the code gives it
abbrev pub waited_of : Given Content → Option Content
waited_of None = none
waited_of (Some c) = some c

-- what each case of the code's enum says
abbrev pub value_of : declared.Answer → Value
value_of answers.Opened = opened
value_of answers.Stored = stored
value_of (answers.Holds c) = holds c
value_of answers.Waits = waits
value_of (answers.Sent t n) = sent t n
value_of answers.Held = held
value_of (answers.Taken t n k w) = taken t n k (waited_of w)

-- what the code's answer says: that value, or a refusal's number
abbrev pub said_answer : Result declared.Answer Refusal → Answer Value
said_answer r = said value_of r

-- all that a call settles: `lent` are the bytes of the buffer or the tray that it was lent, afterwards; none, for a call that is lent none
pub record Done : Type 0 where
  pub answer : Answer Value
  pub desk : Desk
  pub lent : List ℕ

-- what the code's answer and next record come to, with the lent bytes as they are when the call returns
abbrev pub settled : Result declared.Answer Refusal → Desk → List ℕ → Done
settled r d lent = record { answer = said_answer r; desk = d; lent = lent }

-- what an outcome of the code comes to
abbrev pub outcome : Outcome → List ℕ → Done
outcome o lent = settled o.answer o.desk lent

-- a call with these rules, in 01's order, on a record and lent bytes: "the first that applies is given, and none otherwise. The answer is
-- then that number alone, and the record and all lent bytes are as before." Where none applies, the value, the next record and the lent
-- bytes are the last three
abbrev pub call : List Rule → Desk → List ℕ → Value → Desk → List ℕ → Done
call rules d lent value d' lent' =
    record { answer = answer rules value; desk = leaves rules d d'; lent = leaves rules lent lent' }
