-- 01, "The program `rounds`": "Steps: `w` desk cell day-or-`open`; `r` desk cell; `s` desk; `d` sender receiver (sender's latest sheet, again if
-- wanted); `t` desk."
-- Assumes nothing.
use Rattle.std.specs.Prelude as std
use Rattle.std.specs.Prelude.{ℕ, cond, ◌&&◌, List, [], ◌∷◌, None, Some}
use Rattle.std.proofs.Math.Option.{Option, none, some}
use Rattle.content.specs.declared.Content.{Content}
use Rattle.text.specs.Decimal.{value}
use Rattle.schedule.specs.Lines.{Line, ended, cut}
use Rattle.schedule.specs.Words.{words, is, is_number, is_desk, is_content_word, content_of_word}
use Rattle.schedule.specs.declared.Act as declared_act
use Rattle.schedule.specs.declared.Act.TheVariants as act
use Rattle.schedule.specs.declared.Step as declared

-- what a desk is to do
pub data Act : Type 0 where
  writes : (cell : ℕ) → Content → Act
  reads : (cell : ℕ) → Act
  sends : Act
  -- it is given this sender's latest sheet
  delivers : (sender : ℕ) → Act
  takes : Act

-- a step: which desk, and what it does. In `d` sender receiver it is the receiver that the sheet is delivered to
pub record Step : Type 0 where
  pub desk : ℕ
  pub act : Act

-- "`w` desk cell day-or-`open`"
abbrev pub write_in : ℕ → List (List ℕ) → Option Step
write_in n [] = none
write_in n (p ∷ []) = none
write_in n (p ∷ cell ∷ []) = none
write_in n (p ∷ cell ∷ c ∷ []) =
    cond (is_desk n p && (is_number cell && is_content_word c))
    (some (record { desk = value p; act = writes (value cell) (content_of_word c) }))
    none
write_in n (p ∷ cell ∷ c ∷ word ∷ words) = none

-- "`r` desk cell"
abbrev pub read_in : ℕ → List (List ℕ) → Option Step
read_in n [] = none
read_in n (p ∷ []) = none
read_in n (p ∷ cell ∷ []) = cond (is_desk n p && is_number cell) (some (record { desk = value p; act = reads (value cell) })) none
read_in n (p ∷ cell ∷ word ∷ words) = none

-- "`d` sender receiver"
abbrev pub deliver_in : ℕ → List (List ℕ) → Option Step
deliver_in n [] = none
deliver_in n (q ∷ []) = none
deliver_in n (q ∷ p ∷ []) = cond (is_desk n q && is_desk n p) (some (record { desk = value p; act = delivers (value q) })) none
deliver_in n (q ∷ p ∷ word ∷ words) = none

-- "`s` desk", "`t` desk"
abbrev pub desk_in : ℕ → Act → List (List ℕ) → Option Step
desk_in n a [] = none
desk_in n a (p ∷ []) = cond (is_desk n p) (some (record { desk = value p; act = a })) none
desk_in n a (p ∷ word ∷ words) = none

abbrev pub step_of : ℕ → List (List ℕ) → Option Step
step_of n [] = none
step_of n (letter ∷ rest) =
    cond (is "w" letter) (write_in n rest)
    (cond (is "r" letter) (read_in n rest)
    (cond (is "s" letter) (desk_in n sends rest)
    (cond (is "d" letter) (deliver_in n rest)
    (cond (is "t" letter) (desk_in n takes rest) none))))

-- what a line says on a shelf of n desks; none for "A line of another form, a number beyond 32 bits (unsigned, for a day signed), or a desk that
-- isn't there"
unfoldable pub step_in : ℕ → Line → Option Step
step_in n (ended line) = step_of n (words line)
step_in n (cut line) = none

-- what each case of the code's enum says
abbrev pub said_act : declared_act.Act → Act
said_act (act.Write cell c) = writes cell c
said_act (act.Read cell) = reads cell
said_act act.Send = sends
said_act (act.Deliver q) = delivers q
said_act act.Take = takes

-- what the code answers: nothing, where the line is bad
abbrev pub said_step : std.Option declared.Step → Option Step
said_step None = none
said_step (Some step) = some (record { desk = step.desk; act = said_act step.act })
