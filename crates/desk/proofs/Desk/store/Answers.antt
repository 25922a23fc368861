-- `store` meets its contract: each return is a law of Laws/Writes.antt.
-- Assumes nothing.
use borrow.Author.Rules.{rules}
use native.Mathlib.Omega.{arith}
use Rattle.desk.proofs.Laws.Writes.{write_refused, stored_so}
use Rattle.desk.proofs.Desk.store.Goals as goal

pub returns-in_err-write : goal.returns-in_err-write
returns-in_err-write c = write_refused c.args.self.now _ c.args.c c.is_sound.ensures c.kind-kind.ensures c.in_err-write.ensures (search rules)

pub returns : goal.returns
returns c =
    stored_so c.args.self.now _ c.args.c c.is_sound.ensures c.kind-kind.ensures c.in_ok-write.ensures (search rules) c.put.ensures c.put-2.ensures c.put-3.ensures
    c.put-4.ensures (omega arith)
