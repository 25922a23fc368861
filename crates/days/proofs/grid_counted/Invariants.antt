-- `days::grid_counted` is safe and ends: a turn adds at most one to each count.
-- Assumes nothing.
use Prim.Native.Nat.{◌≤◌}
use Rattle.days.proofs.grid_counted.Given as goal

abbrev pub invariant-loop-i : goal.invariant-loop-i
invariant-loop-i l = (l.known ≤ l.i) × (l.differ ≤ l.i) × (l.i ≤ 13440)
