-- `entry_on` meets its contract: what was passed over is another cell's (`HitSoFar`).
-- Assumes nothing.
use Rattle.book.proofs.Laws.Lookup.{HitSoFar}
use Rattle.book.proofs.newest.entry_on.Given as goal

abbrev pub invariant-loop-k : goal.invariant-loop-k
invariant-loop-k l = HitSoFar l.s l.count l.cell l.k
