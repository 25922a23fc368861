-- `add` meets its contract: each return is one of the laws of
-- crates/book/proofs/Laws/Calls.antt.
-- Assumes nothing.
use Rattle.std.proofs.Common.{arith}
use Rattle.book.proofs.Laws.Calls.{read_is, refusing, add_not_good, add_beyond, add_bad, add_misfit, add_no_room, add_laid}
use Rattle.book.proofs.add.Goals as goal

pub returns-in_err-numbers : goal.returns-in_err-numbers
returns-in_err-numbers c =
    let read = read_is _ _ c.read.ensures in
    refusing _ _ _ _ _ c.from_residual.ensures.1 (add_not_good _ _ _ _ c.read.ensures _ (grind (arith, read)))

pub returns-in_err-when : goal.returns-in_err-when
returns-in_err-when c =
    let read = read_is _ _ c.read.ensures in
    refusing _ _ _ _ _ c.from_residual-in_err-when.ensures.1
    (add_beyond _ _ _ _ c.read.ensures c.in_ok-numbers.numbers (grind (arith, read)) _ c.in_err-when.ensures)

pub returns-in_err-seen : goal.returns-in_err-seen
returns-in_err-seen c =
    let read = read_is _ _ c.read.ensures in
    refusing _ _ _ _ _ c.from_residual-in_err-seen.ensures.1
    (add_bad _ _ _ _ c.read.ensures c.in_ok-numbers.numbers (grind (arith, read)) c.in_ok-when.ensures _ c.examine.ensures _ (grind arith))

pub returns-in_err-when-2 : goal.returns-in_err-when-2
returns-in_err-when-2 c =
    let read = read_is _ _ c.read.ensures in
    refusing _ _ _ _ _ c.from_residual-in_err-when-2.ensures.1
    (add_misfit _ _ _ _ c.read.ensures c.in_ok-numbers.numbers (grind (arith, read)) c.in_ok-when.ensures _ c.examine.ensures c.in_ok-seen.seen (grind arith) _ c.takes.ensures _ c.in_err-when-2.ensures)

pub returns-in_err-when-3 : goal.returns-in_err-when-3
returns-in_err-when-3 c =
    let read = read_is _ _ c.read.ensures in
    refusing _ _ _ _ _ c.from_residual-in_err-when-3.ensures.1
    (add_no_room _ _ _ _ c.read.ensures c.in_ok-numbers.numbers (grind (arith, read)) c.in_ok-when.ensures _ c.examine.ensures c.in_ok-seen.seen (grind arith) _ c.takes.ensures c.in_ok-when-2.ensures _ c.in_err-when-3.ensures)

pub returns : goal.returns
returns c =
    let read = read_is _ _ c.read.ensures in
    add_laid _ _ _ _ c.read.ensures c.in_ok-numbers.numbers (grind (arith, read)) c.in_ok-when.ensures _ c.examine.ensures c.in_ok-seen.seen (grind arith) _ c.takes.ensures c.in_ok-when-2.ensures c.in_ok-when-3.ensures
    _ c.put.ensures
