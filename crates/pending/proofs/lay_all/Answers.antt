-- `lay_all` meets its contract: the entries of the places so far, eight at a time, are laid one behind the other (`LaidSoFar`).
-- Assumes nothing.
use borrow.Author.Rules.{rules}
use Rattle.pending.proofs.Laws.Lays.{alls}
use Rattle.pending.proofs.lay_all.Goals as goal

pub loop-i-init : goal.loop-i-init
loop-i-init c = search (alls, rules)

pub lay_eight-end-requires : goal.lay_eight-end-requires
lay_eight-end-requires c = search (alls, rules)

pub loop-i-preserved : goal.loop-i-preserved
loop-i-preserved c = search (alls, rules)

pub returns : goal.returns
returns c = search (alls, rules)
