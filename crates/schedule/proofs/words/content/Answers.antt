-- `content` meets its contract: it tests for `open` (`content_open`), and what is not is a day or nothing (`content_day`).
-- Assumes nothing.
use Rattle.std.proofs.Common.{rules, ap, ◌∙◌}
use Rattle.std.specs.Option.{option_map}
use Rattle.content.specs.declared.Content.TheVariants.{Day}
use Rattle.schedule.proofs.Laws.Answers.{mapped, content_open, content_day}
use Rattle.schedule.proofs.words.content.Goals as goal

pub returns-then-eq : goal.returns-then-eq
returns-then-eq c = content_open _ _ _ c.as_slice.ensures c.eq.ensures c.if-eq.true

pub returns : goal.returns
returns c =
    mapped Day _ _ _ c.map.ensures.cases (λ x y k. search rules)
    ∙ ap (option_map Day) c.day.ensures
    ∙ content_day _ _ _ c.as_slice.ensures c.eq.ensures c.if-eq.false
