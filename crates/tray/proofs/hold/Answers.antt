-- `hold` meets its contract: the three parts that it lays stand one behind the other, and are the whole place (`hold_whole`).
-- Assumes nothing.
use Rattle.std.proofs.Common.{arith, ◌∙◌}
use Rattle.numbers.proofs.LowFirst.{bytes_of_2}
use Rattle.tray.proofs.Laws.Holding.{zeros_laid, hold_too_long, hold_no_room, hold_whole}
use Rattle.tray.proofs.hold.Goals.{else-len-le396-via-then-len-le396+else-end-tray, else-len-le396-via-else-len-le396}
use Rattle.tray.proofs.hold.Goals as goal

pub returns-then-end-tray : goal.returns-then-end-tray
returns-then-end-tray c =
    let at = c.from-at.ensures in
    let room = rw at at c.if-end-tray.true in
    rw at
    (hold_whole _ _ _ c.if-len-le396.true room _ (c.to_le_bytes.ensures ∙ bytes_of_2 _) _ (rw at at c.put.ensures) _ (rw at at c.put-then-end-tray.ensures) _
    (zeros_laid _ _ _ _ (omega (arith, at, c.put.auto.buf, c.put-then-end-tray.auto.buf)) (rw at at c.fill.ensures.after)))

pub returns-else-len-le396 : goal.returns-else-len-le396
returns-else-len-le396 c =
    elim c.else-len-le396.branch [
      | else-len-le396-via-then-len-le396+else-end-tray w ↦ hold_no_room _ _ _ w.if-len-le396.true (rw c.from-at.ensures at w.if-end-tray.false)
      | else-len-le396-via-else-len-le396 w ↦ hold_too_long _ _ _ w.if-len-le396.false
    ]
