-- `take_sheet` meets its contract: each return is a law of Laws/Takes.antt.
-- Assumes nothing.
use borrow.Author.Rules.{rules}
use Rattle.desk.proofs.Laws.Takes.{take_refused, take_turn, take_desk, take_room, take_not_there, took}
use Rattle.desk.proofs.Desk.take_sheet.Goals as goal

pub returns-in_err-take : goal.returns-in_err-take
returns-in_err-take c = take_refused c.args.self.now _ c.is_sound.ensures c.in_err-take.ensures (search rules)

pub overflow_cast-q : goal.overflow_cast-q
overflow_cast-q c = take_desk c.args.self.now c.args.tray.now c.is_sound.ensures c.in_ok-take.ensures c.turn_desk-q.ensures

pub returns-in_err-entries : goal.returns-in_err-entries
returns-in_err-entries c = take_not_there c.args.self.now _ c.is_sound.ensures c.in_ok-take.ensures c.turn_desk-q.ensures c.in_err-entries.ensures (search rules)

pub slice_bounds-apply-count : goal.slice_bounds-apply-count
slice_bounds-apply-count c = take_room c.args.self.now _ c.is_sound.ensures c.in_ok-take.ensures c.turn_desk-q.ensures

pub slice_bounds-apply-start : goal.slice_bounds-apply-start
slice_bounds-apply-start c = let h = take_room c.args.self.now c.args.tray.now c.is_sound.ensures c.in_ok-take.ensures c.turn_desk-q.ensures in search (h, rules)

pub next_head-self-requires : goal.next_head-self-requires
next_head-self-requires c = take_turn c.args.self.now c.args.tray.now c.is_sound.ensures c.in_ok-take.ensures

pub returns : goal.returns
returns c =
    took c.args.self.now c.args.tray.now c.is_sound.ensures c.in_ok-take.ensures c.turn_desk-q.ensures c.in_ok-entries.ensures _ c.apply-applied.ensures c.clear.ensures
    c.next_head-self.ensures c.end_read.ensures.over c.end_read.ensures.record
