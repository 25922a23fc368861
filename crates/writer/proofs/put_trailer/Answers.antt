-- `put_trailer` meets its contract: the bytes of its two longer numbers are what `bytes` says.
-- Assumes nothing.
use mathlib.Core.Path.{◌∙◌}
use Rattle.numbers.proofs.LowFirst.{bytes_of_2, bytes_of_4}
use Rattle.writer.proofs.put_trailer.Goals as goal

pub returns : goal.returns
returns c = rw (c.to_le_bytes-d.ensures ∙ bytes_of_2 _, c.to_le_bytes-n.ensures ∙ bytes_of_4 _) at c.put.ensures
