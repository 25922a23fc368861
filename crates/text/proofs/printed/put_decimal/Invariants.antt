-- `put_decimal` meets its contract: the digits that the array has so far stand behind those that are left (`PrintedSoFar`).
-- Assumes nothing.
use Rattle.text.proofs.Laws.Printed.{PrintedSoFar}
use Rattle.text.proofs.printed.put_decimal.Given as goal

abbrev pub invariant-loop-i : goal.invariant-loop-i
invariant-loop-i l = PrintedSoFar l.k l.count l.digits l.left l.i
