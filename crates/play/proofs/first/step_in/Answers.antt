-- `step_in` meets its contract: a line that no line feed ends says no step (`bad_cut`).
-- Assumes nothing.
use Rattle.play.proofs.Laws.Lines.{bad_cut}
use Rattle.play.proofs.first.step_in.Goals as goal

pub returns-in_err-words : goal.returns-in_err-words
returns-in_err-words c = rw c.from_residual.ensures (bad_cut _ _ c.in_err-words.ensures)
