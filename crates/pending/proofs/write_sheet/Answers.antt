-- `write_sheet` meets its contract: each of its returns is one of the laws `sendings`.
-- Assumes nothing.
use borrow.Author.Rules.{rules}
use Rattle.pending.proofs.Laws.Sending.{sendings, send_short, send_fits, send_whole}
use Rattle.pending.proofs.write_sheet.Goals as goal

pub returns-in_err-when : goal.returns-in_err-when
returns-in_err-when c = send_short c.args.h _ _ _ _ c.count_filled-count.ensures c.in_err-when.ensures (search rules)

pub lay_all-requires : goal.lay_all-requires
lay_all-requires c = search (sendings, rules, c.in_ok-when.ensures)

pub returns : goal.returns
returns c =
    send_whole _ _ _ _ _ c.count_filled-count.ensures (send_fits c.args.h c.args.pending.kinds.now c.args.pending.days.now _ _ c.count_filled-count.ensures c.in_ok-when.ensures) _ c.lay_all.ensures _ c.from.ensures _
    c.put_trailer.ensures
