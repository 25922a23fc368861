-- A schedule's steps as calls of the run of demand 3 (crates/runs/specs/Run.antt), with document 01's definitions. 01, "The program `rounds`":
-- "`d` sender receiver (sender's latest sheet, again if wanted)", "`d` before the sender has sent prints `nothing sent`. `s` lends 396 bytes."
-- Assumes nothing.
use Rattle.std.specs.Prelude.{ℕ, suc, cond, List, [], ◌∷◌, eqb}
use Rattle.std.proofs.Math.Option.{Option, none, some}
use Rattle.runs.specs.Call.{Call}
use Rattle.desk.specs.Calls.{document01}
use Rattle.runs.specs.Call as calls
unfoldable pub use Rattle.runs.specs.Call.{sheet_room}
use Rattle.runs.specs.Run.{SentSheet, State, made, after}
use Rattle.schedule.specs.Step.{Step, Act, writes, reads, sends, delivers, takes}
use Rattle.printing.specs.StepAnswer.{StepAnswer, of_call, nothing_sent}

-- which sheet of the line is this sender's latest: of those from k on, and if there is none, the one found so far
unfoldable pub latest_from : ℕ → ℕ → Option ℕ → List SentSheet → Option ℕ
latest_from sender k found [] = found
latest_from sender k found (x ∷ xs) = latest_from sender (suc k) (cond (eqb x.from sender) (some k) found) xs

unfoldable pub latest_of : ℕ → List SentSheet → Option ℕ
latest_of sender line = latest_from sender 0 none line

-- "sender's latest sheet"
abbrev pub delivers_latest : ℕ → Option ℕ → Option Call
delivers_latest p none = none
delivers_latest p (some k) = some (calls.delivers p k)

-- the call that a step is; `d` is none before the sender has sent
abbrev pub call_by : State → ℕ → Act → Option Call
call_by s p (writes cell c) = some (calls.writes p cell c)
call_by s p (reads cell) = some (calls.reads p cell)
call_by s p sends = some (calls.sends p sheet_room)
call_by s p (delivers sender) = delivers_latest p (latest_of sender s.line)
call_by s p takes = some (calls.takes p)

abbrev pub call_of : State → Step → Option Call
call_of s step = call_by s step.desk step.act

-- what comes of it, and what there is then
abbrev pub call_answer : State → Option Call → StepAnswer
call_answer s none = nothing_sent
call_answer s (some c) = of_call (made document01 s c).answer

abbrev pub after_call : State → Option Call → State
after_call s none = s
after_call s (some c) = after document01 s c

unfoldable pub step_answer : State → Step → StepAnswer
step_answer s step = call_answer s (call_of s step)

unfoldable pub after_step : State → Step → State
after_step s step = after_call s (call_of s step)
