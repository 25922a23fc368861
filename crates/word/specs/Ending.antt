-- How a program of `./register` says that it ended (docs/WORKING.md, "A word of ./register"): "exit status 0 for an answer, 1 for a
-- refusal". What the system did with it, no contract can say.
-- Assumes nothing.
use Rattle.std.specs.Prelude.{ℕ, ◌≡◌, Bool, cond, Option, Some, None}

-- the exit status as a digit: `1` of a refusal, `0` of an answer
abbrev pub digit_of : Bool → ℕ
digit_of refused = cond refused 49 48

-- where the answer was printed whole, its digit was said; where not, none was
abbrev pub Says : Bool → Option ℕ → Type 0
Says refused (Some d) = d ≡ digit_of refused
Says refused None = Unit {0}
