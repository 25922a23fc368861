-- `mode_in_force` meets its contract (`modes`).
-- Assumes nothing.
use borrow.Author.Rules.{rules}
use Rattle.play.proofs.Laws.Running.{modes}
use Rattle.play.proofs.mode_in_force.Goals as goal

pub returns-in-Ok : goal.returns-in-Ok
returns-in-Ok c = search (modes, rules)
