-- `cost::repeat` is safe: it makes the call so often, and an answer is worth at most 255.
-- Assumes nothing.
use Prim.Native.Nat.{◌≤◌, ◌*◌}
use Rattle.cost.proofs.repeat.Given as goal

abbrev pub invariant-loop : goal.invariant-loop
invariant-loop l = l.sum ≤ 255 * l.counter
