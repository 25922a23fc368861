-- `decimal_in` meets its contract: a digit more keeps the loop's invariant (`decimal_turned`).
-- Assumes nothing.
use Rattle.std.proofs.Common.{arith, ◌∙◌}
use Rattle.text.proofs.Laws.Decimal.{decimal_turned}
use Rattle.text.proofs.decimal_in.Goals as goal

pub loop-b-preserved : goal.loop-b-preserved
loop-b-preserved c =
    decimal_turned _ _ _ c.loop-b.invariant (omega arith) c.in_ok-digit.ensures.0 _ (c.from.ensures ∙ c.in_ok-digit.ensures.1) _ c.more-value.ensures
