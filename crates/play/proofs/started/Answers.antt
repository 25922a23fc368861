-- `started` meets its contract: a text in which no line feed ends a line has no start (`start_cut`).
-- Assumes nothing.
use Rattle.play.proofs.Laws.Whole.{start_cut}
use Rattle.play.proofs.started.Goals as goal

pub returns-in_err-line : goal.returns-in_err-line
returns-in_err-line c = rw c.from_residual.ensures (start_cut _ c.in_err-line.ensures)
