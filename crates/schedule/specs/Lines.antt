-- 01, "The program `rounds`": "each line, read or printed, ended by one line feed. A last line without it counts as a line, of another form."
-- Assumes nothing.
use Rattle.std.specs.Prelude.{ℕ, List, [], ◌∷◌}
use Rattle.text.specs.Separated.{parts, line_feed}

pub data Line : Type 0 where
  ended : List ℕ → Line
  -- "A last line without it"
  cut : List ℕ → Line

-- what comes after the last line feed is a line if there is any
abbrev pub last_line : List ℕ → List Line
last_line [] = []
last_line (b ∷ bs) = cut (b ∷ bs) ∷ []

-- of the parts between line feeds each but the last is a line
abbrev pub lines_in : List (List ℕ) → List Line
lines_in [] = []
lines_in (p ∷ []) = last_line p
lines_in (p ∷ q ∷ ps) = ended p ∷ lines_in (q ∷ ps)

unfoldable pub lines_of : List ℕ → List Line
lines_of input = lines_in (parts line_feed input)
