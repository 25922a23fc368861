-- `taken` meets its contract: its parts stand one behind the other.
-- Assumes nothing.
use mathlib.Core.List.{append_assoc}
use Rattle.printing.specs.Parts.{taken_text}
use Rattle.printing.proofs.line.Line.taken.Goals as goal

pub returns-clause-text : goal.returns-clause-text
unfolding taken_text
returns-clause-text c = rw (c.text.ensures.text, c.number-3.ensures.text, c.number-2.ensures.text, c.number.ensures.text) (simp append_assoc)
