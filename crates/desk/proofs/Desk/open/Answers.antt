-- `open` meets its contract: by the head that is opened, or the refusal.
-- Assumes nothing.
use Rattle.desk.proofs.Laws.Writes.{opened_so, open_refused}
use Rattle.desk.proofs.Desk.open.Goals as goal

pub returns-in-Ok : goal.returns-in-Ok
returns-in-Ok c = rw c.blank.ensures (opened_so c.args.n c.args.m c.args.own c.args.mode c.in-Ok.ensures)

pub returns-in-Err : goal.returns-in-Err
returns-in-Err c = rw c.zeros.ensures (open_refused c.args.n c.args.m c.args.own c.args.mode _ c.in-Err.ensures)
