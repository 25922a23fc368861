-- `put_decimal` meets its contract: the digits that the array has so far stand behind those that are left (`PrintedSoFar`).
-- Assumes nothing.
use Rattle.std.proofs.Common.{refl, ap, ◌∙◌, add-one}
use Rattle.laying.specs.Laying.{laid_over}
use Rattle.text.proofs.Laws.Printed.{printed_begun, printed_turned, printed_laid}
use Rattle.text.proofs.printed.put_decimal.Goals as goal

pub loop-i-init : goal.loop-i-init
loop-i-init c =
    rw add-one (printed_begun c.args.k c.ilog10.result _ (rw c.max.ensures at c.ilog10.ensures.power_le) (rw c.max.ensures at c.ilog10.ensures.next_power_gt) c.ilog10.ensures.bound refl)

pub loop-i-preserved : goal.loop-i-preserved
loop-i-preserved c = printed_turned _ _ _ _ _ c.loop-i.invariant c.loop-i-test.true

pub returns-clause-buf_after : goal.returns-clause-buf_after
returns-clause-buf_after c =
    c.put.ensures ∙ ap (laid_over c.args.buf.now c.args.at) (printed_laid _ _ _ _ _ c.loop-i.invariant c.loop-i-test.false).0

pub returns-clause-value : goal.returns-clause-value
returns-clause-value c = (printed_laid _ _ _ _ _ c.loop-i.invariant c.loop-i-test.false).1
