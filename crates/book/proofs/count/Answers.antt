-- `count` meets its contract, by what one pass finds.
-- Assumes nothing.
use Rattle.std.proofs.Common.{rules, of_calls}
use Rattle.book.proofs.Laws.Calls.{count_bad, count_good}
use Rattle.book.proofs.count.Goals as goal

pub returns-in_err-examine : goal.returns-in_err-examine
returns-in_err-examine c =
    count_bad _ _ c.examine.ensures _ c.in_err-examine.was _ c.from_residual.ensures.1

pub returns : goal.returns
returns c = count_good _ _ c.examine.ensures _ c.in_ok-examine.was _ (search (rules, of_calls, c.map_or.ensures))
