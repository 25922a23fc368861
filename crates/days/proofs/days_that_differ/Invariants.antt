-- `days::days_that_differ` is safe and ends: a turn counts at most two answers that differ.
-- Assumes nothing.
use Prim.Native.Nat.{◌≤◌, ◌*◌}
use Rattle.days.proofs.days_that_differ.Given as goal

abbrev pub invariant-loop : goal.invariant-loop
invariant-loop l = (l.differ ≤ 2 * l.counter) × (l.counter ≤ 109209)
