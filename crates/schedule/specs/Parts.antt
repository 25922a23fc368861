-- What the private functions of this crate answer, each of one word. Nobody need believe it: the public promises are those of specs/Lines.antt,
-- specs/Start.antt and specs/Step.antt.
-- Assumes nothing.
use Rattle.std.specs.Prelude.{ℕ, cond, List, ℤ, Option, None, Some}
use Rattle.content.specs.declared.Content.{Content}
use Rattle.text.specs.Decimal.{value}
use Rattle.schedule.specs.Words.{is, is_number, is_desk, is_day_word, day_of_word, is_content_word, content_of_word}

unfoldable pub number : List ℕ → Option ℕ
number word = cond (is_number word) (Some (value word)) None

unfoldable pub desk_of : ℕ → List ℕ → Option ℕ
desk_of n word = cond (is_desk n word) (Some (value word)) None

unfoldable pub mode : List ℕ → Option ℕ
mode word = cond (is "s" word) (Some 1) (cond (is "c" word) (Some 2) (cond (is "k" word) (Some 3) (cond (is "-" word) (Some 0) None)))

unfoldable pub day : List ℕ → Option ℤ
day word = cond (is_day_word word) (Some (day_of_word word)) None

unfoldable pub content : List ℕ → Option Content
content word = cond (is_content_word word) (Some (content_of_word word)) None
