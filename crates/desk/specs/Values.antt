-- What is so of every record of the code, and is a premise where a statement speaks of any: each array has 64 places, a day has 32 bits, and
-- 01's table, "turn number .. 4,294,967,295" at most.
-- Assumes nothing.
use Rattle.std.specs.Prelude.{◌≡◌, ℕ, ◌≤◌, length}
use Rattle.std.specs.Int.{w32}
use Rattle.std.proofs.Common.{SFits}
use Rattle.cells.specs.Cells.{day_at}
use Rattle.desk.specs.declared.Desk.{Desk}

pub record DeskFits (d : Desk) : Type 0 where
  pub kinds : length d.kind ≡ 64
  pub days : length d.day ≡ 64
  pub pkinds : length d.pkind ≡ 64
  pub pdays : length d.pday ≡ 64
  pub day : (i : ℕ) → SFits w32 (day_at d.day i)
  pub pday : (i : ℕ) → SFits w32 (day_at d.pday i)
  pub turn : d.head.turn ≤ 4294967295
