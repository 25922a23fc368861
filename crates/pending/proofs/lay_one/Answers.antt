-- `lay_one` meets its contract: a blank place lays nothing, a filled one the bytes of its entry (the laws `ones`).
-- Assumes nothing.
use borrow.Author.Rules.{rules}
use Rattle.pending.proofs.Laws.Lays.{ones}
use Rattle.pending.proofs.lay_one.Goals as goal

pub returns-then-kind-eq0 : goal.returns-then-kind-eq0
returns-then-kind-eq0 c = search (ones, rules)

pub overflow_cast-e : goal.overflow_cast-e
overflow_cast-e c = search (ones, rules)

pub returns : goal.returns
returns c = search (ones, rules)
