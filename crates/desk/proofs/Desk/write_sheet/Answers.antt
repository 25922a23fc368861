-- `write_sheet` meets its contract: each return is a law of Laws/Sends.antt.
-- Assumes nothing.
use borrow.Author.Rules.{rules}
use Rattle.desk.proofs.Laws.Sends.{send_refused, send_turn, send_short, send_whole}
use Rattle.desk.proofs.Desk.write_sheet.Goals as goal

pub returns-in_err-send : goal.returns-in_err-send
returns-in_err-send c = send_refused c.args.self.now _ c.is_sound.ensures c.in_err-send.ensures (search rules)

pub returns-in_err-entries : goal.returns-in_err-entries
returns-in_err-entries c = send_short c.args.self.now _ c.is_sound.ensures c.in_ok-send.ensures (rw (c.pending.ensures.kinds, c.pending.ensures.days) at c.write_sheet.ensures) c.in_err-entries.was (search rules)

pub returns : goal.returns
returns c = send_whole c.args.self.now _ c.is_sound.ensures c.in_ok-send.ensures (rw (c.pending.ensures.kinds, c.pending.ensures.days) at c.in_ok-entries.ensures) c.next_head-self.ensures

pub next_head-self-requires : goal.next_head-self-requires
next_head-self-requires c = send_turn c.args.self.now c.args.buf.now c.is_sound.ensures c.in_ok-send.ensures
