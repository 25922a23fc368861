-- 01, "A desk, call by call": "A record holds n, m, the desk's own number, mode (1 sequential, 2 causal, 3 cache), turn number, shelf, pending
-- entries, and the waiting read if any." The struct `Head` of the code has the numbers of a record; its field `wait` is 0 where no read
-- waits, and else one more than the cell of the read that does.
-- Assumes nothing.
use Rattle.std.specs.Prelude.{ℕ, ◌%◌, ◌-◌, Bool, not, eqb}
use Rattle.sound.specs.declared.Head.{Head}

-- "mode (1 sequential, 2 causal, 3 cache)"
abbrev pub sequential : Head → Bool
sequential h = eqb h.mode 1

abbrev pub causal : Head → Bool
causal h = eqb h.mode 2

-- "The turn is at desk (turn number mod n)."
abbrev pub turn_desk : Head → ℕ
turn_desk h = h.turn % h.n

-- it is this desk's own
abbrev pub own_turn : Head → Bool
own_turn h = eqb (turn_desk h) h.own

-- "the waiting read if any", and its cell
abbrev pub read_waits : Head → Bool
read_waits h = not (eqb h.wait 0)

abbrev pub wait_cell : Head → ℕ
wait_cell h = h.wait - 1
