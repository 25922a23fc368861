-- `lay_eight` meets its contract: the entries of the places so far are laid one behind the other (`LaidSoFar`).
-- Assumes nothing.
use borrow.Author.Rules.{rules}
use Rattle.pending.proofs.Laws.Lays.{eights}
use Rattle.pending.proofs.lay_eight.Goals as goal

pub returns-then-not-some_of_eight : goal.returns-then-not-some_of_eight
returns-then-not-some_of_eight c = search (eights, rules)

pub loop-i-init : goal.loop-i-init
loop-i-init c = search (eights, rules)

pub lay_one-end-requires : goal.lay_one-end-requires
lay_one-end-requires c = search (eights, rules)

pub loop-i-preserved : goal.loop-i-preserved
loop-i-preserved c = search (eights, rules)

pub returns : goal.returns
returns c = search (eights, rules)
