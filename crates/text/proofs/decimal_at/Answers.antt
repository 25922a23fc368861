-- `decimal_at` meets its contract: it looks at the first part from there on (`decimal_there`), or there is none (`decimal_past`).
-- Assumes nothing.
use Rattle.text.proofs.Laws.Decimal.{decimal_there, decimal_past}
use Rattle.text.proofs.decimal_at.Goals as goal

pub returns-in_default : goal.returns-in_default
returns-in_default c = decimal_past c.args.sep c.args.s.now c.args.from c.part_end-end.result c.part_end-end.ensures c.in_default.ensures.lookup.0

pub returns : goal.returns
returns c =
    let word = c.in-Some.word.now in
    decimal_there c.args.sep c.args.s.now c.args.from c.part_end-end.result c.part_end-end.ensures word c.in-Some.ensures.lookup.0.2 _ c.decimal_in.ensures _ c.is_some.ensures _ c.value_in.ensures
