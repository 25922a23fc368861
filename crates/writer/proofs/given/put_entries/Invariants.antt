-- `given::put_entries` meets its contract: so far the first entries stand at the front, and the rest is as it was (`LaidSoFar`).
-- Assumes nothing.
use Rattle.writer.proofs.Laws.Given.{LaidSoFar}
use Rattle.writer.proofs.given.put_entries.Given as goal

abbrev pub invariant-loop-i : goal.invariant-loop-i
invariant-loop-i l = LaidSoFar l.es l.initial.buf l.buf l.i
