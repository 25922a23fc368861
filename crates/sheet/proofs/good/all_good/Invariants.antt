-- `good::all_good` meets its contract: what is tested so far is good, and the rest is the whole (`SoFar`), also as it is on the line.
-- Assumes nothing.
use Rattle.std.specs.Prelude.{map, true}
use Rattle.sheet.specs.Clauses.{in_32_bits}
use Rattle.sheet.proofs.Laws.Good.{SoFar}
use Rattle.sheet.proofs.good.all_good.Given as goal

abbrev pub invariant-loop-e : goal.invariant-loop-e
invariant-loop-e g l =
    let es = map g.E.AsEntry.read_as l.es in
    record { given : SoFar es l.cells true l.least l.e-index; on_the_line : SoFar (map in_32_bits es) l.cells true l.least l.e-index }
