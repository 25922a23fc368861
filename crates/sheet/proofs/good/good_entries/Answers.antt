-- `good::good_entries` meets its contract: the code's sixes are the entries that the bytes begin with.
-- Assumes nothing.
use Rattle.std.proofs.Common.{◌∙◌}
use Rattle.sheet.proofs.Laws.Good.{sixes_good}
use Rattle.sheet.proofs.good.good_entries.Goals as goal

pub returns-then-end-s : goal.returns-then-end-s
returns-then-end-s c = c.all_good.ensures.clauses ∙ sixes_good _ _ _ _ _ c.from-end.ensures c.if-end-s.true c.as_chunks.ensures.front
