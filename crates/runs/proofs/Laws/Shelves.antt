-- Shelves within limits.
--   sized      a shelf whose desks are all opened in one mode, where a test that computes says so
-- Assumes nothing.
use mathlib.Core.Path.{◌≡◌}
use mathlib.Core.Bool.{true, ◌&&◌}
use Prim.Native.Nat.{ℕ}
use lib.Dec.{leb}
use Rattle.numbers.specs.Limits.{within}
use Rattle.numbers.proofs.Tests.{tested}
use Rattle.runs.specs.Run.{Within}

pub sized : (n m mode : ℕ) → within 1 16 n && within 1 64 m && leb mode 3 ≡ true → Within (record { n = n; m = m; mode = λ p. mode })
sized n m mode e = search tested
