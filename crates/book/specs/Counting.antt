-- How many sheets a book has, or 23, "book not good".
-- Assumes nothing.
use Rattle.std.specs.Prelude.{not, List, [], ◌∷◌, ℕ, length, Result}
use Rattle.answer.specs.Answer.{Answer, ◌if◌, answer}
use Rattle.answer.specs.declared.Refusal.{Refusal}
use Rattle.answer.specs.Refusals.{said}
use Rattle.book.specs.Sheets.{sheets_of}
use Rattle.book.specs.Good.{good_book}

unfoldable pub count_of : List ℕ → Answer ℕ
count_of b = answer (23 if not (good_book b) ∷ []) (length (sheets_of b))

-- what the code's answer says
abbrev pub said_count : Result ℕ Refusal → Answer ℕ
said_count = said (λ n. n)
