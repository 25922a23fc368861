-- `look` meets its contract: what it sees before it reads the sheet, and then whether the sheet is good.
-- Assumes nothing.
use Rattle.std.proofs.Common.{◌∙◌}
use Rattle.tray.proofs.Laws.Looking.{look_free, look_short, look_long, look_not_zeros, look_on, look_holds, look_refused}
use Rattle.tray.proofs.look.Goals.{then-tray-end-via-then-tray-end, then-tray-end-via-else-tray-end+then-len-gt396, then-tray-end-via-else-tray-end+else-len-gt396+then-not-all_zeros}
use Rattle.tray.proofs.look.Goals as goal

pub returns-then-len-eq0 : goal.returns-then-len-eq0
returns-then-len-eq0 c = look_free _ _ _ (c.from-len.ensures ∙ c.length_at.ensures) c.if-len-eq0.true

pub returns-then-tray-end : goal.returns-then-tray-end
returns-then-tray-end c =
    let len = c.from-len.ensures ∙ c.length_at.ensures in
    let at = c.from.ensures in
    elim c.then-tray-end.branch [
      | then-tray-end-via-then-tray-end w ↦ look_short _ _ _ len c.if-len-eq0.false (rw at at w.if-tray-end.true)
      | then-tray-end-via-else-tray-end+then-len-gt396 w ↦ look_long _ _ _ len c.if-len-eq0.false (rw at at w.if-tray-end.false) w.if-len-gt396.true
      | then-tray-end-via-else-tray-end+else-len-gt396+then-not-all_zeros w ↦
          look_not_zeros _ _ _ len c.if-len-eq0.false (rw at at w.if-tray-end.false) w.if-len-gt396.false _ (rw at at w.all_zeros.ensures) w.if-not-all_zeros.true
    ]

pub returns-in-Ok : goal.returns-in-Ok
returns-in-Ok c =
    let len = c.from-len.ensures ∙ c.length_at.ensures in
    let at = c.from.ensures in
    let by_sheet = look_on _ _ _ len c.if-len-eq0.false (rw at at c.if-tray-end.false) c.if-len-gt396.false _ (rw at at c.all_zeros.ensures) c.if-not-all_zeros.false in
    look_holds _ _ _ by_sheet _ (rw at at c.read.ensures) _ c.in-Ok.is

pub returns-in-Err : goal.returns-in-Err
returns-in-Err c =
    let len = c.from-len.ensures ∙ c.length_at.ensures in
    let at = c.from.ensures in
    let by_sheet = look_on _ _ _ len c.if-len-eq0.false (rw at at c.if-tray-end.false) c.if-len-gt396.false _ (rw at at c.all_zeros.ensures) c.if-not-all_zeros.false in
    look_refused _ _ _ by_sheet _ (rw at at c.read.ensures) _ c.in-Err.is
