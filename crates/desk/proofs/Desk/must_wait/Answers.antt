-- `must_wait` meets its contract: its tests, the pending places last.
-- Assumes nothing.
use native.Mathlib.Omega.{arith}
use Rattle.std.proofs.lemmas.Bool.Decides.{nat_tests}
use Rattle.desk.proofs.Desk.must_wait.Goals as goal
use Rattle.desk.specs.Calls.{must_wait}

pub returns-then-not-own_turn : goal.returns-then-not-own_turn
unfolding must_wait
returns-then-not-own_turn c = grind (arith, nat_tests)

pub returns-else-not-own_turn : goal.returns-else-not-own_turn
unfolding must_wait
returns-else-not-own_turn c = grind (arith, nat_tests)
