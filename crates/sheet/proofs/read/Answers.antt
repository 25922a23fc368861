-- `read` meets its contract: its tests are those of `good`, and each return is one of the laws `readings`.
-- Assumes nothing.
use Rattle.sheet.proofs.Laws.Reading.{readings, read_bad_trailer, read_bad_entries}
use borrow.Author.Rules.{rules}
use Rattle.sheet.proofs.read.Goals as goal

pub returns-in_err-when : goal.returns-in_err-when
returns-in_err-when c = search (readings, rules)

pub returns-in_err-when-2 : goal.returns-in_err-when-2
returns-in_err-when-2 c =
    read_bad_trailer _ c.in_ok-when.ensures _ c.trailer_of-t.ensures _ c.good_trailer.ensures _ c.in_err-when-2.ensures _ (search rules)

pub returns-in_err-when-3 : goal.returns-in_err-when-3
returns-in_err-when-3 c =
    read_bad_entries _ c.in_ok-when.ensures _ c.trailer_of-t.ensures _ c.good_trailer.ensures c.in_ok-when-2.ensures _ c.good_entries.ensures _ c.in_err-when-3.ensures _ (search rules)

pub returns : goal.returns
returns c = search (readings, rules)
