-- 01, "The program `rounds`": "Header: desks, cells, letter of the mode in force (never `-`). Then step number and answer: a write `stored`, a
-- deliver `held`, any refused call `refused` and its number; `sent` turn number, entries; `taken` turn number, entries, entries applied,
-- waited-for content (as a read prints it) or `-`; a read prints `blank`, `open` or `day` and number, or `waits`."
-- Assumes nothing.
use Rattle.std.specs.Prelude.{ℕ, ◌+◌, cond, List, ◌++◌, eqb, leb, length}
use Rattle.std.proofs.Math.Option.{Option, none, some}
use Rattle.answer.specs.Answer.{Answer, refused, answered}
use Rattle.content.specs.declared.Content.{Content}
use Rattle.content.specs.declared.Content.TheVariants.{Blank, Open, Day}
use Rattle.laying.specs.Laying.{laid_over}
use Rattle.text.specs.Text.{text}
use Rattle.text.specs.Decimal.{decimal, signed_decimal}
use Rattle.desk.specs.Answers.{Value, opened, stored, holds, waits, sent, held, taken}
use Rattle.printing.specs.StepAnswer.{StepAnswer, of_call, nothing_sent, bad_line}

-- "`blank`, `open` or `day` and number"
abbrev pub content_text : Content → List ℕ
content_text Blank = text "blank"
content_text Open = text "open"
content_text (Day z) = text "day " ++ signed_decimal z

-- "waited-for content (as a read prints it) or `-`"
abbrev pub waited_text : Option Content → List ℕ
waited_text none = text "-"
waited_text (some c) = content_text c

-- "`stored`", "`held`", "`sent` turn number, entries", ..; no step opens a desk
abbrev pub value_text : Value → List ℕ
value_text opened = text "opened"
value_text stored = text "stored"
value_text (holds c) = content_text c
value_text waits = text "waits"
value_text (sent turn entries) = text "sent " ++ decimal turn ++ text " " ++ decimal entries
value_text held = text "held"
value_text (taken turn entries applied waited) =
    text "taken " ++ decimal turn ++ text " " ++ decimal entries ++ text " " ++ decimal applied ++ text " " ++ waited_text waited

-- "any refused call `refused` and its number"
abbrev pub answer_text : Answer Value → List ℕ
answer_text (refused number) = text "refused " ++ decimal number
answer_text (answered v) = value_text v

abbrev pub step_answer_text : StepAnswer → List ℕ
step_answer_text (of_call a) = answer_text a
step_answer_text nothing_sent = text "nothing sent"
step_answer_text bad_line = text "bad line"

-- "step number and answer", "each line, read or printed, ended by one line feed"
unfoldable pub line_text : ℕ → StepAnswer → List ℕ
line_text number a = decimal number ++ text " " ++ step_answer_text a ++ text "\n"

-- the letter of a mode that is in force: 1 sequential, 2 causal, 3 cache, and any other number, which is no mode in force, as cache
abbrev pub letter_text : ℕ → List ℕ
letter_text mode = cond (eqb mode 1) (text "s") (cond (eqb mode 2) (text "c") (text "k"))

-- "Header: desks, cells, letter of the mode in force"
unfoldable pub header_text : (n m mode : ℕ) → List ℕ
header_text n m mode = text "desks " ++ decimal n ++ text " cells " ++ decimal m ++ text " mode " ++ letter_text mode ++ text "\n"

-- ---- what a call leaves of the buffer that it is lent

-- the buffer, and where its text goes on
pub record Wrote : Type 0 where
  pub bytes : List ℕ
  pub end : ℕ

-- no line is longer than 64 bytes. A line is laid where 64 bytes are left; elsewhere nothing is
unfoldable pub wrote : List ℕ → ℕ → List ℕ → Wrote
wrote b at line =
    cond (leb (at + 64) (length b)) (record { bytes = laid_over b at line; end = at + length line }) (record { bytes = b; end = at })
