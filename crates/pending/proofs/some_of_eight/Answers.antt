-- `some_of_eight` meets its contract: `any` looks through the eight places (`some_is`).
-- Assumes nothing.
use Rattle.std.proofs.Common.{rules, ◌≡◌, take, drop}
use Rattle.std.proofs.lemmas.Iterator.{cases_from_any, YieldsList-from_slice}
use borrow.Author.Tests.{tests}
use Rattle.pending.proofs.Laws.Entries.{some_is}
use Rattle.pending.proofs.some_of_eight.Goals as goal

pub returns : goal.returns
returns c =
    some_is c.args.kinds.now c.args.from c.told-kinds c.requires c.any.result
    (cases_from_any _ _ _ (λ x. x ≡ 0 → ⊥) (λ x. x ≡ 0) c.any.ensures.ran (YieldsList-from_slice (take 8 (drop c.args.from c.args.kinds.now)) (search rules)) (λ x q k. search (rules, tests)) (λ x q k. search (rules, tests)))
