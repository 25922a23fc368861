-- `day` meets its contract, with a minus and without (`days_read`).
-- Assumes nothing.
use Rattle.std.proofs.Common.{rules, tests}
use Rattle.schedule.proofs.Laws.Answers.{filtered, is_some_day, days_read}
use Rattle.schedule.proofs.words.day.Goals as goal

pub returns-in_err-filter-in-Some : goal.returns-in_err-filter-in-Some
returns-in_err-filter-in-Some c =
    let passed = filtered _ is_some_day _ _ c.filter.ensures (λ k b q. search (rules, tests)) in
    search (days_read, rules)

pub returns-in_err-number-in-None : goal.returns-in_err-number-in-None
returns-in_err-number-in-None c = search (days_read, rules)

pub returns-in_ok-filter-in-Some : goal.returns-in_ok-filter-in-Some
returns-in_ok-filter-in-Some c =
    let passed = filtered _ is_some_day _ _ c.filter.ensures (λ k b q. search (rules, tests)) in
    search (days_read, rules)

pub returns-in_ok-number-in-None : goal.returns-in_ok-number-in-None
returns-in_ok-number-in-None c = search (days_read, rules)
