-- `newest::entry` meets its contract: no sheet so far has the cell (`NewestSoFar`).
-- Assumes nothing.
use borrow.Author.Rules.{rules}
use Rattle.book.proofs.Laws.Lookup.{newests}
use Rattle.book.proofs.newest.entry.Goals as goal

pub loop-start-preserved : goal.loop-start-preserved
loop-start-preserved c = search (newests, rules)
