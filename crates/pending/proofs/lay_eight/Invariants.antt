-- `lay_eight` meets its contract: the entries of the places so far are laid one behind the other (`LaidSoFar`).
-- Assumes nothing.
use Prim.Native.Nat.{◌≤◌}
use Rattle.pending.proofs.Laws.Lays.{LaidSoFar}
use Rattle.pending.proofs.lay_eight.Given as goal

abbrev pub invariant-loop-i : goal.invariant-loop-i
invariant-loop-i l = (l.i ≤ 8) × LaidSoFar l.pending.kinds.now l.pending.days.now l.from l.initial.buf l.at l.buf l.end l.i
