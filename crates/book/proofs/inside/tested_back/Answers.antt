-- `tested_back` meets its contract: each return is one of the laws `steps`.
-- Assumes nothing.
use borrow.Author.Rules.{rules}
use Rattle.book.proofs.Laws.Stepping.{steps}
use Rattle.book.proofs.inside.tested_back.Goals as goal

pub returns : goal.returns
returns c = search (steps, rules)
