-- `value_in` meets its contract: what is read so far, and the rest of the word, are the whole (`ValueSoFar`).
-- Assumes nothing.
use Rattle.text.proofs.Laws.Decimal.{ValueSoFar}
use Rattle.text.proofs.value_in.Given as goal

abbrev pub invariant-loop-b : goal.invariant-loop-b
invariant-loop-b l = ValueSoFar l.word l.value l.b-index
