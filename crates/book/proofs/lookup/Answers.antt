-- `lookup` meets its contract, by what one pass finds, and then by the newest entry.
-- Assumes nothing.
use Rattle.std.proofs.Common.{rules, of_calls, arith}
use Rattle.book.proofs.Laws.Calls.{lookup_bad, lookup_good, lookup_no_cell, lookup_newest}
use Rattle.book.proofs.lookup.Goals as goal

pub returns-in_err-seen : goal.returns-in_err-seen
returns-in_err-seen c = lookup_bad _ _ _ c.examine.ensures _ (grind arith) _ c.from_residual.ensures.1

pub returns-in_err-when : goal.returns-in_err-when
returns-in_err-when c =
    lookup_no_cell c.args.book.now c.args.cell _ c.examine.ensures c.in_ok-seen.seen (grind arith) c.from.result (search (rules, of_calls, c.from.ensures, c.map_or-cells.ensures)) _
    c.in_err-when.ensures _ c.from_residual-in_err-when.ensures.1

pub entry-requires : goal.entry-requires
entry-requires c = lookup_good c.args.book.now c.args.cell _ c.examine.ensures c.in_ok-seen.seen (grind arith)

pub returns : goal.returns
returns c =
    lookup_newest c.args.book.now c.args.cell _ c.examine.ensures c.in_ok-seen.seen (grind arith) c.from.result (search (rules, of_calls, c.from.ensures, c.map_or-cells.ensures))
    c.in_ok-when.ensures _ c.entry.ensures
