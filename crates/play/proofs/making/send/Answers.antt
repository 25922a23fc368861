-- `send` meets its contract: a sheet that was sent has room in the bytes that were lent (`sends`).
-- Assumes nothing.
use mathlib.Core.Path.{◌≡◌, ap, ◌∙◌}
use borrow.Author.Rules.{rules}
use native.Mathlib.Omega.{arith}
use Rattle.std.proofs.lemmas.Grind.{common_steps}
use Rattle.desk.specs.Answers.{outcome}
use Rattle.desk.specs.Calls.{send_of}
use Rattle.play.specs.Steps.{sheet_room}
use Rattle.play.proofs.Laws.Making.{room_is, sends}
use Rattle.play.proofs.making.send.Goals as goal

pub slice_bounds-sheet-end : goal.slice_bounds-sheet-end
slice_bounds-sheet-end c = search (sends, rules)

pub slice_bounds-hold-end : goal.slice_bounds-hold-end
slice_bounds-hold-end c = search (sends, rules)

pub returns-in_default : goal.returns-in_default
returns-in_default c =
    let is : outcome c.send-o.result c.send-o.new.buf ≡ send_of c.args.d sheet_room = c.send-o.ensures ∙ ap (send_of c.args.d) room_is in
    grind (arith, common_steps)

pub returns : goal.returns
returns c =
    let is : outcome c.send-o.result c.send-o.new.buf ≡ send_of c.args.d sheet_room = c.send-o.ensures ∙ ap (send_of c.args.d) room_is in
    grind (arith, common_steps)
