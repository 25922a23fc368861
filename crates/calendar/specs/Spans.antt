-- Days counted over spans that follow one another, as years do and a year's months: where each begins, and in which one a day falls.
-- A row of spans is given by the length of each, the first at 0. `Calendar` reads both of 01's directions off these two.
-- Assumes nothing.
use Rattle.std.specs.Prelude.{ℕ, zero, suc, ◌+◌, cond, leb}

-- how many days lie before span k: all those of the spans before it
unfoldable pub before : (ℕ → ℕ) → ℕ → ℕ
before len zero = 0
before len (suc k) = before len k + len k

-- the last of the spans 0 to k that begins on day i or earlier
unfoldable pub span_of : (ℕ → ℕ) → ℕ → ℕ → ℕ
span_of len zero i = 0
span_of len (suc k) i = cond (leb (before len (suc k)) i) (suc k) (span_of len k i)
