-- `blank_from` meets its contract: from m on the test was made of each place passed, and below m it holds (`EachSoFar`, `blank_begun`).
-- Where m is above 64 the loop makes no turn.
-- Assumes nothing.
use Rattle.std.proofs.Common.{rules}
use Rattle.sound.proofs.Laws.Scans.{scans, blank_turned, blank_ended}
use Rattle.sound.proofs.blank_from.Goals as goal

pub loop-a-init : goal.loop-a-init
loop-a-init c = search (scans, rules)

pub loop-a-preserved : goal.loop-a-preserved
loop-a-preserved c =
    blank_turned _ _ _ _ _ c.next.new.self _ c.min-from.result (search rules) c.loop-a.invariant c.told-kinds c.told-pkinds (search rules) (search rules) c.loop-a.yielded_by
    c.next.ensures.steps _ _ c.in-Some.is

pub returns : goal.returns
returns c =
    blank_ended _ _ _ _ _ c.next.new.self _ c.min-from.result (search rules) c.loop-a.invariant c.told-kinds c.told-pkinds (search rules) (search rules) c.loop-a.yielded_by
    c.next.ensures.steps c.in-None.is
