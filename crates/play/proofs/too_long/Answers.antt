-- `too_long` meets its contract (`longs`).
-- Assumes nothing.
use borrow.Author.Rules.{rules}
use Rattle.play.proofs.Laws.Running.{longs}
use Rattle.play.proofs.too_long.Goals as goal

pub returns-then-input-gt16384 : goal.returns-then-input-gt16384
returns-then-input-gt16384 c = search (longs, rules)

pub returns-else-input-gt16384 : goal.returns-else-input-gt16384
returns-else-input-gt16384 c = search (longs, rules)
