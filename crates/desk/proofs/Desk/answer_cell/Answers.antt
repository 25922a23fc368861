-- `answer_cell` meets its contract: each return is a law of Laws/Writes.antt.
-- Assumes nothing.
use borrow.Author.Rules.{rules}
use native.Mathlib.Omega.{arith}
use Rattle.desk.proofs.Laws.Writes.{read_refused, cell_below, waits_so, holds_so}
use Rattle.desk.proofs.Desk.answer_cell.Goals as goal

pub returns-in_err-read : goal.returns-in_err-read
returns-in_err-read c = read_refused c.args.self.now _ c.is_sound.ensures c.in_err-read.ensures (search rules)

pub overflow_cast-self : goal.overflow_cast-self
overflow_cast-self c = let h = cell_below c.args.self.now _ c.is_sound.ensures c.in_ok-read.ensures in record { fits = omega arith }

pub overflow_add-self : goal.overflow_add-self
overflow_add-self c = let h = cell_below c.args.self.now _ c.is_sound.ensures c.in_ok-read.ensures in record { fits = omega arith }

pub returns-then-must_wait : goal.returns-then-must_wait
returns-then-must_wait c = waits_so c.args.self.now _ c.is_sound.ensures c.in_ok-read.ensures c.must_wait.ensures c.if-must_wait.true

pub returns : goal.returns
returns c = holds_so c.args.self.now _ c.is_sound.ensures c.in_ok-read.ensures c.must_wait.ensures c.if-must_wait.false (rw (c.shelf.ensures.kinds, c.shelf.ensures.days) at c.content-c.ensures)
