-- `part_end` meets its contract: the first place of a separator, or else the length, is how long the first part is (`found_from`).
-- Assumes nothing.
use Rattle.std.proofs.Common.{rules, tests, eqb, length, arith, ap}
use Rattle.std.proofs.lemmas.Iterator.{YieldsList-from_slice}
use Rattle.std.proofs.lemmas.Iterator.Search.{position_from_yields_List}
use Rattle.text.proofs.Laws.Parts.{part_past, found_from}
use Rattle.text.proofs.part_end.Goals as goal

pub returns-in_default : goal.returns-in_default
returns-in_default c = omega (arith, ap length (part_past c.args.sep c.args.s.now c.args.from (search rules)))

pub returns : goal.returns
returns c =
    let rest = c.in-Some.rest.now in
    let found = position_from_yields_List (λ b. eqb b c.args.sep) _ _ c.position.result c.position.ensures.ran (YieldsList-from_slice rest cc) (λ x b q k. search (rules, tests)) in
    omega (arith, found_from c.args.sep c.args.s.now c.args.from rest c.position.result c.in-Some.ensures.lookup.0.0 c.in-Some.ensures.lookup.0.2 found)
