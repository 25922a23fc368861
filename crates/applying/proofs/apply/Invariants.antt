-- `apply` meets its contract: what is laid so far, with the rest laid on it, is the whole (`GoneSoFar`).
-- Assumes nothing.
use Rattle.applying.proofs.Laws.{GoneSoFar}
use Rattle.applying.proofs.apply.Given as goal

abbrev pub invariant-loop-i : goal.invariant-loop-i
invariant-loop-i l = GoneSoFar l.causal l.pkind l.s l.count l.initial.kind l.initial.day l.kind l.day l.went l.i
