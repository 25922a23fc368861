-- The parts of a text between separators. A text has lines, "each line, read or printed, ended by one line feed"; a line has words, between
-- "Single spaces".
-- Assumes nothing.
use Rattle.std.specs.Prelude.{ℕ, cond, List, [], ◌∷◌, eqb}

abbrev pub line_feed : ℕ
line_feed = 10

abbrev pub space : ℕ
space = 32

abbrev pub minus : ℕ
minus = 45

-- a byte in front of the first part
abbrev pub onto_first : ℕ → List (List ℕ) → List (List ℕ)
onto_first b [] = (b ∷ []) ∷ []
onto_first b (p ∷ ps) = (b ∷ p) ∷ ps

-- what stands between the separators: one part more than there are separators, and a part may be empty
unfoldable pub parts : ℕ → List ℕ → List (List ℕ)
parts sep [] = [] ∷ []
parts sep (b ∷ bs) = cond (eqb b sep) ([] ∷ parts sep bs) (onto_first b (parts sep bs))

-- the first of them
unfoldable pub first_part : ℕ → List ℕ → List ℕ
first_part sep [] = []
first_part sep (b ∷ bs) = cond (eqb b sep) [] (b ∷ first_part sep bs)
