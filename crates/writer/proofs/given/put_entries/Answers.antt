-- `given::put_entries` meets its contract: so far the first entries stand at the front, and the rest is as it was (`LaidSoFar`).
-- Assumes nothing.
use native.Mathlib.Omega.{arith}
use Rattle.writer.proofs.Laws.Given.{laid_begun, laid_turned, laid_ended}
use Rattle.writer.proofs.given.put_entries.Goals as goal

pub loop-i-init : goal.loop-i-init
loop-i-init c = laid_begun _ _

pub loop-i-preserved : goal.loop-i-preserved
loop-i-preserved c =
    laid_turned _ _ _ _ c.loop-i.invariant (omega arith) c.loop-i-test.true _ c.put_entry.ensures c.put_entry.auto.buf

pub returns : goal.returns
returns c = laid_ended _ _ _ _ c.loop-i.invariant c.loop-i-test.false
