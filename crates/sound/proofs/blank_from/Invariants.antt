-- `blank_from` meets its contract: from m on the test was made of each place passed, and below m it holds (`EachSoFar`, `blank_begun`).
-- Where m is above 64 the loop makes no turn.
-- Assumes nothing.
use Rattle.std.proofs.Common.{length, ◌+◌}
use Rattle.sound.specs.Parts.{blank_from}
use Rattle.sound.proofs.Laws.Scans.{EachSoFar}
use Rattle.sound.proofs.blank_from.Given as goal

abbrev pub invariant-loop-a : goal.invariant-loop-a
invariant-loop-a l = EachSoFar (blank_from l.m l.kinds l.pkinds) l.ok (l.m + length l.yielded)
