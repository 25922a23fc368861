-- `decimal_in` meets its contract: what is read so far, and the rest of the word, are the whole (`DecimalSoFar`).
-- Assumes nothing.
use Rattle.text.proofs.Laws.Decimal.{DecimalSoFar}
use Rattle.text.proofs.decimal_in.Given as goal

abbrev pub invariant-loop-b : goal.invariant-loop-b
invariant-loop-b l = DecimalSoFar l.word l.value l.b-index
