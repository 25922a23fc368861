-- `put_sheet` meets its contract: each return is a law of Laws/Sends.antt.
-- Assumes nothing.
use borrow.Author.Rules.{rules}
use Rattle.desk.proofs.Laws.Sends.{deliver_refused, deliver_bad, deliver_misfit, deliver_so}
use Rattle.desk.proofs.Desk.put_sheet.Goals as goal

pub returns-in_err-tray : goal.returns-in_err-tray
returns-in_err-tray c = deliver_refused c.args.self.now _ _ c.is_sound.ensures c.in_err-tray.ensures (search rules)

pub returns-in_err-x : goal.returns-in_err-x
returns-in_err-x c = deliver_bad c.args.self.now _ _ c.is_sound.ensures c.in_ok-tray.ensures _ c.read.ensures c.in_err-x.was (search rules)

pub returns-in_err-sheet : goal.returns-in_err-sheet
returns-in_err-sheet c =
    deliver_misfit c.args.self.now _ _ c.is_sound.ensures c.in_ok-tray.ensures _ c.read.ensures _ c.in_ok-x.was c.is_free-free.ensures c.in_err-sheet.ensures (search rules)

pub returns : goal.returns
returns c =
    deliver_so c.args.self.now _ _ c.is_sound.ensures c.in_ok-tray.ensures _ c.read.ensures _ c.in_ok-x.was c.is_free-free.ensures c.in_ok-sheet.ensures c.hold.ensures
