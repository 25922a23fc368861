-- `play` meets its contract, return by return (`plays`).
-- Assumes nothing.
use Rattle.play.proofs.Laws.Whole.{played_long, played_bad, can_run, played}
use Rattle.play.proofs.play.Goals as goal

pub returns-then-too_long : goal.returns-then-too_long
returns-then-too_long c = played_long _ _ c.told-out _ c.too_long.ensures c.if-too_long.true _ c.put_alone.ensures.out_after _ c.put_alone.ensures.value

pub returns-in_default : goal.returns-in_default
returns-in_default c =
    played_bad _ _ c.told-out _ c.too_long.ensures c.if-too_long.false c.in_default.ensures _ c.put_alone-in_default.ensures.out_after _ c.put_alone-in_default.ensures.value

pub run-requires : goal.run-requires
run-requires c =
    can_run _ _ c.told-out _ c.too_long.ensures c.if-too_long.false _ _ _ c.in-Some.ensures _ _ c.put_header-at.ensures.result_after c.put_header-at.ensures.upper_bound

pub returns : goal.returns
returns c =
    played _ _ c.told-out _ c.too_long.ensures c.if-too_long.false _ _ _ c.in-Some.ensures _ _ c.put_header-at.ensures.result_after c.put_header-at.ensures.upper_bound _ _
    c.run.ensures
