-- `all_days_agree` meets its contract: the test was made of each place passed (`EachSoFar`).
-- Assumes nothing.
use Rattle.std.proofs.Common.{rules}
use Rattle.sound.proofs.Laws.Scans.{scans, each_turned, agree_here}
use Rattle.sound.proofs.all_days_agree.Goals as goal

pub loop-i-init : goal.loop-i-init
loop-i-init c = search (scans, rules)

pub loop-i-preserved : goal.loop-i-preserved
loop-i-preserved c =
    each_turned c.loop-i.invariant c.loop-i-test.true (agree_here _ _ _ _ c.loop-i-test.true c.wanted.ensures (search rules) (search rules) (search rules))
