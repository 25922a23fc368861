-- `desk_of` meets its contract: what `filter` answers of the number (`filtered`, `desk_filtered`).
-- Assumes nothing.
use Rattle.std.proofs.Common.{rules, tests, ltb, ◌∙◌, ap}
use Rattle.std.proofs.lemmas.Map.Entries.{option_filter}
use Rattle.schedule.proofs.Laws.Answers.{filtered, desk_filtered}
use Rattle.schedule.proofs.words.desk_of.Goals as goal

pub returns : goal.returns
returns c =
    filtered _ (λ p. ltb p c.args.n) _ _ c.filter.ensures (λ p b k. search (rules, tests))
    ∙ ap (option_filter (λ p. ltb p c.args.n)) c.number.ensures
    ∙ desk_filtered c.args.n c.args.word.now
