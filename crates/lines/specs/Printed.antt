-- What is promised of what `rounds` prints: "empty is not zero and not yesterday", on paper. proofs/Printed.antt proves it.
-- Assumes nothing.
use Rattle.std.specs.Prelude.{◌≡◌, List, ◌++◌, ℕ, ◌≤◌, ℤ}
use Rattle.std.proofs.Math.Option.{Option, none, some}
use Rattle.std.specs.Int.{w32}
use Rattle.std.proofs.Common.{SFits}
use Rattle.answer.specs.Answer.{refused, answered}
use Rattle.content.specs.declared.Content.{Content}
use Rattle.content.specs.declared.Content.TheVariants.{Blank, Open, Day}
use Rattle.content.specs.Content.{day_of}
use Rattle.desk.specs.Answers.{opened, stored, holds, waits, sent, held, taken}
use Rattle.printing.specs.StepAnswer.{StepAnswer, of_call, nothing_sent, bad_line}
use Rattle.printing.specs.Printing.{content_text, line_text}

-- ---- contents

-- blank, open and a day are never printed alike, day 0 and day -1 among them
pub record NeverAlike : Type 0 where
  pub blank_is_not_open : content_text Blank ≡ content_text Open → ⊥
  pub blank_is_no_day : (d : ℤ) → content_text Blank ≡ content_text (Day d) → ⊥
  pub open_is_no_day : (d : ℤ) → content_text Open ≡ content_text (Day d) → ⊥

-- its day has 32 bits
abbrev pub ContentFits : Content → Type 0
ContentFits c = SFits w32 (day_of c)

-- and two contents that are printed alike are the same content
abbrev pub ContentsPrintedApart : Type 0
ContentsPrintedApart = (a b : Content) → ContentFits a → ContentFits b → content_text a ≡ content_text b → a ≡ b

-- ---- lines: "step number and answer"

abbrev pub Of32Bits : ℕ → Type 0
Of32Bits k = k ≤ 4294967295

abbrev pub WaitedFits : Option Content → Type 0
WaitedFits none = Unit {0}
WaitedFits (some c) = ContentFits c

-- what the answer carries has 32 bits, numbers and days
abbrev pub AnswerFits : StepAnswer → Type 0
AnswerFits (of_call (refused number)) = Of32Bits number
AnswerFits (of_call (answered opened)) = Unit {0}
AnswerFits (of_call (answered stored)) = Unit {0}
AnswerFits (of_call (answered (holds c))) = ContentFits c
AnswerFits (of_call (answered waits)) = Unit {0}
AnswerFits (of_call (answered (sent turn entries))) = Of32Bits turn × Of32Bits entries
AnswerFits (of_call (answered held)) = Unit {0}
AnswerFits (of_call (answered (taken turn entries applied waited))) =
    Of32Bits turn × Of32Bits entries × Of32Bits applied × WaitedFits waited
AnswerFits nothing_sent = Unit {0}
AnswerFits bad_line = Unit {0}

-- no two lines are printed alike, whatever is printed behind them: where the bytes are the same, so are the step number, the answer, and what
-- stands behind. So what waits, or was refused, or carries no content, is not printed as what carries one, and `nothing sent` and `bad line`
-- are printed as no call's answer
abbrev pub LinesPrintedApart : Type 0
LinesPrintedApart =
    (k j : ℕ) (a b : StepAnswer) (rest other : List ℕ) → Of32Bits k → Of32Bits j → AnswerFits a → AnswerFits b
    → line_text k a ++ rest ≡ line_text j b ++ other → (k ≡ j) × (a ≡ b) × (rest ≡ other)
