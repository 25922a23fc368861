-- `is_refused` meets its contract: it is what `ends_with` says of each of three ends.
-- Assumes nothing.
use mathlib.Core.Path.{sym, ◌∙◌}
use mathlib.Core.Bool.{false≢true, true}
use Rattle.rounds.proofs.Laws.EndsIn.{refused_first, refused_second, by_third}
use Rattle.rounds.proofs.is_refused.Goals as goal
use Rattle.rounds.proofs.is_refused.Goals.{then-ends_with, else-ends_with}

pub returns-then-ends_with-2 : goal.returns-then-ends_with-2
returns-then-ends_with-2 c =
    elim c.if-ends_with.branch [
      | then-ends_with w ↦ w.value-is ∙ w.if-ends_with.true ∙ refused_first _ _ true true c.ends_with.ensures.value w.if-ends_with.true
      | else-ends_with w ↦ c.if-ends_with-2.true ∙ refused_second _ true _ true w.ends_with-else-ends_with.ensures.value (sym w.value-is ∙ c.if-ends_with-2.true)
    ]

pub returns-else-ends_with-2 : goal.returns-else-ends_with-2
returns-else-ends_with-2 c =
    elim c.if-ends_with.branch [
      | then-ends_with w ↦ absurd (false≢true (sym c.if-ends_with-2.false ∙ w.value-is ∙ w.if-ends_with.true))
      | else-ends_with w ↦
          by_third _ _ _ _ c.ends_with.ensures.value w.if-ends_with.false w.ends_with-else-ends_with.ensures.value
          (sym w.value-is ∙ c.if-ends_with-2.false) c.ends_with-else-ends_with-2.ensures.value
    ]
