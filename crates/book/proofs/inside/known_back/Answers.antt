-- `known_back` meets its contract: the sheet is known to be good (`step_untested`).
-- Assumes nothing.
use mathlib.Core.Path.{sym, ap, ◌∙◌}
use mathlib.Core.List.{List}
use Prim.Native.Nat.{ℕ}
use native.Mathlib.Omega.{arith}
use Rattle.sheet.specs.Good.{good}
use Rattle.book.specs.Sheets.{last_sheet}
use Rattle.book.proofs.Laws.Stepping.{all_of, step_untested}
use Rattle.book.proofs.inside.known_back.Goals as goal

pub returns : goal.returns
returns c =
    let whole = all_of c.args.up_to.now in
    step_untested _ _ (omega arith) _ whole _ c.trailer_of-t.ensures c.if-place-size.false (λ h. ap (λ (l : List ℕ). good (last_sheet l)) (sym whole) ∙ c.requires h) _ c.into.ensures
