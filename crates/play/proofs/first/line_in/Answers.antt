-- `line_in` meets its contract (`firsts`).
-- Assumes nothing.
use borrow.Author.Rules.{rules}
use Rattle.play.proofs.Laws.Lines.{firsts}
use Rattle.play.proofs.first.line_in.Goals as goal

pub returns-then-lines-end : goal.returns-then-lines-end
returns-then-lines-end c = search (firsts, rules)

pub returns : goal.returns
returns c = search (firsts, rules)
