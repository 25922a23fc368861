-- `cut` meets its contract: it cuts where the first part ends (`cut_here`), if that is in the line (`cut_none`).
-- Assumes nothing.
use borrow.Author.Rules.{rules}
use Rattle.schedule.proofs.Laws.Words.{cuts}
use Rattle.schedule.proofs.words.cut.Goals as goal

pub returns-then-line-end : goal.returns-then-line-end
returns-then-line-end c = search (cuts, rules)

pub returns : goal.returns
returns c = search (cuts, rules)
