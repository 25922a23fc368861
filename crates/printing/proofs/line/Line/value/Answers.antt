-- `value` meets its contract: what was waited for stands behind the rest of a take.
-- Assumes nothing.
use mathlib.Core.List.{append_assoc}
use Rattle.printing.specs.Parts.{taken_text}
use Rattle.printing.proofs.line.Line.value.Goals as goal

pub returns-in-Taken-clause-text : goal.returns-in-Taken-clause-text
unfolding taken_text
returns-in-Taken-clause-text c = rw (c.in-Taken.is, c.waited.ensures.text, c.taken.ensures.text) (simp append_assoc)
