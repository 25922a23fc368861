-- What the private functions of this crate find. Nobody need believe it: the public promises are those of specs/Calls.antt.
-- Assumes nothing.
use Rattle.std.specs.Prelude.{ℕ, Bool, cond, ◌&&◌}
use Rattle.std.proofs.Math.Option.{Option, none, some}
use Rattle.answer.specs.Answer.{Answer, answer}
use Rattle.content.specs.declared.Content.{Content}
use Rattle.sound.specs.declared.Head.{Head}
use Rattle.sound.specs.Head.{own_turn, read_waits, wait_cell}
use Rattle.desk.specs.declared.Desk.{Desk}
use Rattle.desk.specs.Calls.{open_rules, mode_for, fresh_head, shown_at, with_head}

-- the head of a desk that is opened
abbrev pub opened_head : ℕ → ℕ → ℕ → ℕ → Answer Head
opened_head n m own mode = answer (open_rules n m own mode) (fresh_head n m own (mode_for mode))

-- a read waits in this record, and the turn is the desk's own
abbrev pub ends : Head → Bool
ends h = read_waits h && own_turn h

-- that read's answer, and the record without it
abbrev pub waited_in : Desk → Option Content
waited_in d = cond (ends d.head) (some (shown_at d (wait_cell d.head))) none

abbrev pub read_over : Desk → Desk
read_over d =
    let h = d.head in
    with_head (record { n = h.n; m = h.m; own = h.own; mode = h.mode; turn = h.turn; wait = cond (ends h) 0 h.wait }) d
