-- What an answer says, it alone says.
--   answering, found                             an answer is found by its value
--   said_answer_tells_apart : AnswersApart (specs/Promises.antt)
-- Assumes nothing.
use mathlib.Core.Path.{◌≡◌, refl}
use mathlib.Core.Option.{none, some}
use Rattle.std.specs.Prelude.{Some, None}
use Rattle.answer.proofs.Refusals.{said_apart}
use Rattle.desk.specs.declared.Answer.{Answer}
use Rattle.desk.specs.declared.Answer.TheVariants as answers
use Rattle.desk.specs.Answers.{Value, opened, stored, holds, waits, sent, held, taken, value_of}
use Rattle.desk.specs.Promises.{AnswersApart}

pub answering : Value → Answer
answering opened = answers.Opened
answering stored = answers.Stored
answering (holds c) = answers.Holds c
answering waits = answers.Waits
answering (sent t n) = answers.Sent t n
answering held = answers.Held
answering (taken t n k none) = answers.Taken t n k None
answering (taken t n k (some c)) = answers.Taken t n k (Some c)

pub found : (a : Answer) → answering (value_of a) ≡ a
unfolding answering
found answers.Opened = refl
found answers.Stored = refl
found (answers.Holds c) = refl
found answers.Waits = refl
found (answers.Sent t n) = refl
found answers.Held = refl
found (answers.Taken t n k None) = refl
found (answers.Taken t n k (Some c)) = refl

pub said_answer_tells_apart : AnswersApart
said_answer_tells_apart a b = said_apart value_of answering found a b
