-- `newest::entry` meets its contract: no sheet so far has the cell (`NewestSoFar`).
-- Assumes nothing.
use lib.ListN.{length}
use Rattle.book.proofs.Laws.Lookup.{NewestSoFar}
use Rattle.book.proofs.newest.entry.Given as goal

abbrev pub invariant-loop-start : goal.invariant-loop-start
invariant-loop-start l = NewestSoFar l.book l.cell l.rest

abbrev pub decreases-loop-start : goal.decreases-loop-start
decreases-loop-start l = length l.rest
