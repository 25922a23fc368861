-- `sheets_before` meets its contract: what was looked at so far, and the rest, is the whole
-- (`OlderSoFar`).
-- Assumes nothing.
use lib.ListN.{length}
use Rattle.book.proofs.Laws.Examining.{OlderSoFar}
use Rattle.book.proofs.examined.sheets_before.Given as goal

abbrev pub invariant-loop-rest : goal.invariant-loop-rest
invariant-loop-rest l = OlderSoFar l.before l.newest l.rest l.turn l.sheets

abbrev pub decreases-loop-rest : goal.decreases-loop-rest
decreases-loop-rest l = length l.rest
