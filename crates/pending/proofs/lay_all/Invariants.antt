-- `lay_all` meets its contract: the entries of the places so far, eight at a time, are laid one behind the other (`LaidSoFar`).
-- Assumes nothing.
use Prim.Native.Nat.{◌*◌, ◌≤◌}
use Rattle.pending.proofs.Laws.Lays.{LaidSoFar}
use Rattle.pending.proofs.lay_all.Given as goal

abbrev pub invariant-loop-i : goal.invariant-loop-i
invariant-loop-i l = (l.i ≤ 8) × LaidSoFar l.pending.kinds.now l.pending.days.now 0 l.initial.buf 0 l.buf l.end (8 * l.i)
