-- 01, "Numbers given back": "Writing one from given entries and numbers: 13 if it would not be good, 11; bytes past it stay."
-- 13 is "sheet not good", 11 "buffer shorter than the sheet"; a refusal leaves "all lent bytes .. as before".
-- Assumes nothing.
use Rattle.std.specs.Prelude.{◌≡◌, not, Result, List, [], ◌∷◌, ◌++◌, ℕ, ltb, length, drop}
use Rattle.answer.specs.Answer.{Answer, Rule, ◌if◌, answer, leaves}
use Rattle.answer.specs.declared.Refusal.{Refusal}
use Rattle.answer.specs.Refusals.{said}
use Rattle.layout.specs.declared.Entry.{Entry}
use Rattle.layout.specs.declared.Numbers.{Numbers}
use Rattle.layout.specs.Layout.{sheet_for}
use Rattle.sheet.specs.Good.{good}

-- for a sheet's bytes and a buffer: 13, then 11
abbrev pub writing_rules : List ℕ → List ℕ → List Rule
writing_rules s buf = 13 if not (good s) ∷ 11 if ltb (length buf) (length s) ∷ []

-- the answer: the sheet's length
unfoldable pub written_of : Numbers → List Entry → List ℕ → Answer ℕ
written_of n es buf = answer (writing_rules (sheet_for n es) buf) (length (sheet_for n es))

-- the buffer afterwards: the sheet, and the bytes past it as they were
unfoldable pub buffer_of : Numbers → List Entry → List ℕ → List ℕ
buffer_of n es buf = leaves (writing_rules (sheet_for n es) buf) buf (sheet_for n es ++ drop (length (sheet_for n es)) buf)

-- what the code's answer says
abbrev pub said_written : Result ℕ Refusal → Answer ℕ
said_written r = said (λ len. len) r

-- a call that found the buffer `before`, left it as `after` and answered r
pub record Writes (n : Numbers) (es : List Entry) (before : List ℕ) (r : Result ℕ Refusal) (after : List ℕ) : Type 0 where
  pub answers : said_written r ≡ written_of n es before
  pub buffer : after ≡ buffer_of n es before
