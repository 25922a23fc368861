-- `clear` meets its contract.
-- Assumes nothing.
use Rattle.std.proofs.Common.{arith}
use Rattle.tray.proofs.Laws.Holding.{zeros_laid, clear_no_room, clear_whole}
use Rattle.tray.proofs.clear.Goals as goal

pub returns-then-at-tray : goal.returns-then-at-tray
returns-then-at-tray c =
    rw c.from-at.ensures (clear_whole _ _ _ (zeros_laid _ _ _ _ (omega (arith, c.from-at.ensures)) (rw c.from-at.ensures at c.fill.ensures.after)))

pub returns-else-at-tray : goal.returns-else-at-tray
returns-else-at-tray c = clear_no_room _ _ (rw c.from-at.ensures at c.if-at-tray.false)
