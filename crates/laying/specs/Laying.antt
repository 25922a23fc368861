-- Bytes laid over others, from a place on: what every write to a lent buffer comes to: "bytes past it stay", and so do those before it.
-- Assumes nothing.
use Rattle.std.specs.Prelude.{ℕ, ◌+◌, cond, List, ◌++◌, leb, length, take, drop}

-- b with x over it from `at` on; b as it is where x has no room there
unfoldable pub laid_over : List ℕ → ℕ → List ℕ → List ℕ
laid_over b at x = cond (leb (at + length x) (length b)) (take at b ++ x ++ drop (at + length x) b) b
