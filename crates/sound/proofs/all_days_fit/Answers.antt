-- `all_days_fit` meets its contract: the test was made of each place passed (`EachSoFar`).
-- Assumes nothing.
use Rattle.std.proofs.Common.{rules, pos, w32, FitsSigned}
use Rattle.sound.proofs.Laws.Scans.{scans, pairs_turned, pairs_ended, fit_here}
use Rattle.sound.proofs.all_days_fit.Goals as goal

pub loop-kind-init : goal.loop-kind-init
loop-kind-init c = search (scans, rules)

pub loop-kind-preserved : goal.loop-kind-preserved
loop-kind-preserved c =
    let fits : FitsSigned w32 c.in-Some.day.now = search rules in
    pairs_turned c.args.kinds.now c.args.days.now _ _ c.next.new.self _ c.loop-kind.invariant c.told-kinds c.told-days (search rules) (search rules) c.loop-kind.yielded_by c.next.ensures.steps
    _ _ c.in-Some.is 0 (pos 0) (fit_here _ _ _ fits c.day_fits-ok.ensures)

pub returns : goal.returns
returns c =
    pairs_ended c.args.kinds.now c.args.days.now _ _ c.next.new.self _ c.loop-kind.invariant c.told-kinds c.told-days (search rules) (search rules) c.loop-kind.yielded_by c.next.ensures.steps c.in-None.is
