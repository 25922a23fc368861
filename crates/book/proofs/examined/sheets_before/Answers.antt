-- `sheets_before` meets its contract: what was looked at so far, and the rest, is the whole
-- (`OlderSoFar`).
-- Assumes nothing.
use mathlib.Core.Path.{sym, ◌∙◌}
use borrow.Author.Rules.{rules}
use borrow.Author.Tests.{eqb-true, eqb-false}
use Rattle.book.proofs.Laws.Examining.{olders, older_ended, older_none}
use Rattle.book.proofs.examined.sheets_before.Goals as goal

pub returns-in_err-start : goal.returns-in_err-start
returns-in_err-start c =
    c.from_residual.ensures
    ∙ older_none _ _ c.loop-rest.invariant _ c.tested_back.ensures (eqb-false _ _ (sym c.is_empty.ensures ∙ c.loop-rest-test.true)) c.in_err-start.was

pub returns-then-not-fits_before : goal.returns-then-not-fits_before
returns-then-not-fits_before c = search (olders, c.in_ok-start.was, rules)

pub loop-rest-smaller : goal.loop-rest-smaller
loop-rest-smaller c = search (olders, c.in_ok-start.was, rules)

pub loop-rest-preserved : goal.loop-rest-preserved
loop-rest-preserved c = search (olders, c.in_ok-start.was, rules)

pub slice_bounds-rest-end : goal.slice_bounds-rest-end
slice_bounds-rest-end c = search (olders, c.in_ok-start.was, rules)

pub returns : goal.returns
returns c = older_ended _ _ c.loop-rest.invariant (eqb-true _ _ (sym c.is_empty.ensures ∙ c.loop-rest-test.false))
