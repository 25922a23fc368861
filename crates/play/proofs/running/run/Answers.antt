-- `run` meets its contract: the loop is `RunSoFar`, and what its turns ask for is `turns`.
-- Assumes nothing.
use Rattle.play.proofs.Laws.Playing.{left_some, left_none, run_begun, run_ended, run_turned, run_bad, desk_few, sender_few, tray_end}
use Rattle.play.proofs.Laws.Running.{trays_clear, sheets_none}
use Rattle.play.proofs.running.run.Goals as goal

pub loop-rest-init : goal.loop-rest-init
loop-rest-init c = run_begun _ _ _ _ c.requires _ c.opened-desks.ensures _ trays_clear _ sheets_none

pub returns-in_default : goal.returns-in_default
returns-in_default c =
    run_bad _ _ _ _ _ _ _ _ _ _ _ _ c.loop-rest.invariant (left_some _ _ c.is_empty.ensures c.loop-rest-test.true) c.in_default.ensures _ _ c.put_line.ensures.result_after c.put_line.ensures.upper_bound

pub slice_bounds-trays-end : goal.slice_bounds-trays-end
slice_bounds-trays-end c = tray_end _ _ _ _ _ _ _ _ _ _ _ _ c.loop-rest.invariant _ _ c.in-Some.ensures

pub bounds-desks-p : goal.bounds-desks-p
bounds-desks-p c = desk_few _ _ _ _ _ _ _ _ _ _ _ _ c.loop-rest.invariant _ _ c.in-Some.ensures

pub make-o-requires-clause-p_bound : goal.make-o-requires-clause-p_bound
make-o-requires-clause-p_bound c = desk_few _ _ _ _ _ _ _ _ _ _ _ _ c.loop-rest.invariant _ _ c.in-Some.ensures

pub make-o-requires-clause-sender_there : goal.make-o-requires-clause-sender_there
make-o-requires-clause-sender_there c = sender_few _ _ _ _ _ _ _ _ _ _ _ _ c.loop-rest.invariant _ _ c.in-Some.ensures

pub bounds-desks-p-in-loop-rest : goal.bounds-desks-p-in-loop-rest
bounds-desks-p-in-loop-rest c = desk_few _ _ _ _ _ _ _ _ _ _ _ _ c.loop-rest.invariant _ _ c.in-Some.ensures

pub loop-rest-preserved : goal.loop-rest-preserved
loop-rest-preserved c =
    run_turned _ _ _ _ _ _ _ _ _ _ _ _ c.loop-rest.invariant _ _ c.in-Some.ensures c.make-o.result _ _ c.make-o.ensures _ _
    c.put_line-end.ensures.result_after c.put_line-end.ensures.upper_bound

pub returns : goal.returns
returns c = run_ended _ _ _ _ _ _ _ _ _ _ _ _ c.loop-rest.invariant (left_none _ _ c.is_empty.ensures c.loop-rest-test.false)
