-- `lines_in` meets its contract: it counts the line feeds, and the last line, if none ends it (`lines_counted`, `tested_last`).
-- Assumes nothing.
use Rattle.std.proofs.Common.{rules, tests, arith, ap, eqb, ◌∙◌}
use Rattle.std.proofs.lemmas.List.Sums.{length-filter}
use Rattle.std.proofs.lemmas.Iterator.{YieldsList-from_slice}
use Rattle.std.proofs.lemmas.Iterator.Consumers.{YieldsList-from_filter, count_from_yields_List}
use mir.Val.{bool_byte}
use Rattle.schedule.proofs.Laws.Lines.{lines_counted, tested_last}
use Rattle.schedule.proofs.lines_in.Goals as goal

pub returns : goal.returns
returns c =
    let input = c.args.input.now in
    let feeds =
    count_from_yields_List c.filter.result c.count-ended.result c.count-ended.ensures.ran
    (YieldsList-from_filter _ (λ b. eqb b 10) (YieldsList-from_slice input cc) c.filter.ensures.closure (λ x b q k. search (rules, tests)))
    ∙ length-filter (λ b. eqb b 10) input
    in
    let cut = tested_last _ input c.last.result c.is_some_and-cut.result c.last.ensures.value c.is_some_and-cut.ensures (λ x k. search (rules, tests)) in
    omega (arith, feeds, c.from.ensures, ap bool_byte cut, lines_counted input)
