-- What the functions of src/making.rt find: a step, made on a desk's record, its tray, and the places in which each desk's latest sheet lies, which
-- are those of a tray. Nobody need believe it: that it is the step of specs/Steps.antt is proved (proofs/Laws/Standing.antt), and the public promise
-- is that of specs/Rounds.antt.
-- Assumes nothing.
use Rattle.std.specs.Prelude.{ℕ, ◌+◌, ◌*◌, ◌<◌, ◌≤◌, ◌≡◌, cond, List, [], ◌∷◌, length}
use Rattle.tray.specs.Tray.{length_at, free, sheet_at, held_in}
use Rattle.desk.specs.declared.Desk.{Desk}
use Rattle.desk.specs.declared.Outcome.{Outcome}
use Rattle.desk.specs.Answers.{Done, said_answer}
use Rattle.desk.specs.Calls.{write_of, read_of, send_of, deliver_of, take_of}
use Rattle.runs.specs.Run.{SentSheet, sheet_left}
use Rattle.schedule.specs.declared.Act.{Act}
use Rattle.schedule.specs.declared.Act.TheVariants as act
use Rattle.printing.specs.StepAnswer.{StepAnswer, of_call, nothing_sent, said_step_answer}
use Rattle.play.specs.declared.making.StepOutcome.{StepOutcome}
use Rattle.play.specs.Steps.{sheet_room}

-- all that a step settles: what it comes to, the desk's next record, its tray, and the latest sheets
pub record StepDone : Type 0 where
  pub answer : StepAnswer
  pub desk : Desk
  pub tray : List ℕ
  pub latest : List ℕ

-- what a step's outcome of the code comes to, with the lent bytes as they are then
abbrev pub step_outcome : StepOutcome → List ℕ → List ℕ → StepDone
step_outcome o tray latest = record { answer = said_step_answer o.answer; desk = o.desk; tray = tray; latest = latest }

-- the step's outcome where a call has this one
pub record OfOutcome (o : Outcome) (s : StepOutcome) : Type 0 where
  pub answer : said_step_answer s.answer ≡ of_call (said_answer o.answer)
  pub desk : s.desk ≡ o.desk

-- a call that is lent neither
abbrev pub step_by_call : Done → List ℕ → List ℕ → StepDone
step_by_call done tray latest = record { answer = of_call done.answer; desk = done.desk; tray = tray; latest = latest }

-- a call that is lent the tray
abbrev pub step_by_tray : Done → List ℕ → StepDone
step_by_tray done latest = step_by_call done done.lent latest

-- the sheet of desk p, if it sent one, becomes its latest
abbrev pub latest_with : List ℕ → ℕ → List SentSheet → List ℕ
latest_with latest p [] = latest
latest_with latest p (x ∷ xs) = held_in latest p x.bytes

abbrev pub step_by_send : ℕ → Done → List ℕ → List ℕ → StepDone
step_by_send p done tray latest = step_by_call done tray (latest_with latest p (sheet_left p done.answer done.lent))

-- no call
abbrev pub nothing_done : Desk → List ℕ → List ℕ → StepDone
nothing_done d tray latest = record { answer = nothing_sent; desk = d; tray = tray; latest = latest }

abbrev pub delivered : Desk → ℕ → List ℕ → List ℕ → List ℕ → StepDone
delivered d q tray latest kept =
    cond (free latest q) (nothing_done d tray kept) (step_by_tray (deliver_of d tray (sheet_at latest q)) kept)

abbrev pub make_of : Desk → ℕ → Act → List ℕ → List ℕ → StepDone
make_of d p (act.Write cell c) tray latest = step_by_call (write_of d cell c) tray latest
make_of d p (act.Read cell) tray latest = step_by_call (read_of d cell) tray latest
make_of d p act.Send tray latest = step_by_send p (send_of d sheet_room) tray latest
make_of d p (act.Deliver q) tray latest = delivered d q tray latest latest
make_of d p act.Take tray latest = step_by_tray (take_of d tray) latest

-- the place of desk q in `latest` is there, and what it holds is no longer than a sheet
pub record LatestFit (latest : List ℕ) (q : ℕ) : Type 0 where
  pub there : 398 * q + 398 ≤ length latest
  pub most : length_at latest q ≤ 396

-- those of all 16 are
abbrev pub LatestFits : List ℕ → Type 0
LatestFits latest = (q : ℕ) → q < 16 → LatestFit latest q

-- the sender that an act names is one of n
abbrev pub SenderThere : ℕ → Act → Type 0
SenderThere n a = (q : ℕ) → a ≡ act.Deliver q → q < n
