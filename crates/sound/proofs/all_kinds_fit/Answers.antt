use Rattle.std.proofs.Common.{rules}
use Rattle.sound.proofs.Laws.Scans.{scans, pairs_turned, pairs_ended, kinds_here}
use Rattle.sound.proofs.all_kinds_fit.Goals as goal

pub loop-a-init : goal.loop-a-init
loop-a-init c = search (scans, rules)

pub loop-a-preserved : goal.loop-a-preserved
loop-a-preserved c =
    pairs_turned c.args.kinds.now c.args.pkinds.now _ _ c.next.new.self _ c.loop-a.invariant c.told-kinds c.told-pkinds (search rules) (search rules) c.loop-a.yielded_by c.next.ensures.steps
    _ _ c.in-Some.is 0 0 (kinds_here _ _ _ _ c.kinds_fit-ok.ensures)

pub returns : goal.returns
returns c =
    pairs_ended c.args.kinds.now c.args.pkinds.now _ _ c.next.new.self _ c.loop-a.invariant c.told-kinds c.told-pkinds (search rules) (search rules) c.loop-a.yielded_by c.next.ensures.steps c.in-None.is
