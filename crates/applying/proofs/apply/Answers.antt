-- `apply` meets its contract: what is laid so far, with the rest laid on it, is the whole (`GoneSoFar`).
-- Assumes nothing.
use Rattle.std.proofs.Common.{rules, ◌∙◌, sym, w32, FitsSigned}
use Rattle.applying.proofs.Laws.{applyings, gone_on, gone_off}
use Rattle.applying.proofs.apply.Goals as goal
use Rattle.applying.proofs.apply.Goals.{then-entry_goes, else-entry_goes}

pub returns-then-s-count : goal.returns-then-s-count
returns-then-s-count c = search (applyings, rules)

pub loop-i-init : goal.loop-i-init
loop-i-init c = search (applyings, rules)

pub overflow_add-went : goal.overflow_add-went
overflow_add-went c = search (applyings, rules)

pub loop-i-preserved : goal.loop-i-preserved
loop-i-preserved c =
    elim c.if-entry_goes.branch [
      | then-entry_goes w ↦
          let fits : FitsSigned w32 w.cast_signed.result = search rules in
          gone_on _ _ _ _ _ _ c.loop-i.invariant c.loop-i-test.true c.if-s-count.false _ c.entry_at-e.ensures (sym c.entry_goes.ensures ∙ w.if-entry_goes.true) _ w.cast_signed.ensures fits
          _ (w.kind-is ∙ w.put.ensures) _ (w.day-is ∙ w.put-then-entry_goes.ensures) _ w.went-is
      | else-entry_goes w ↦
          gone_off _ _ _ _ _ _ c.loop-i.invariant c.loop-i-test.true c.if-s-count.false _ c.entry_at-e.ensures (sym c.entry_goes.ensures ∙ w.if-entry_goes.false) _ w.kind-is _ w.day-is _ w.went-is
    ]

pub returns : goal.returns
returns c = search (applyings, rules)
