-- What the functions of src/running.rt and the private ones of src/lib.rt find, and what they ask for. Nobody need believe it: the public promise is
-- that of specs/Rounds.antt.
-- Assumes nothing.
use Rattle.std.specs.Prelude.{ℕ, suc, ◌+◌, ◌*◌, ◌<◌, ◌≤◌, ◌≡◌, true, cond, List, [], ◌++◌, length, get_or, replicate, Option, None, Some}
use Rattle.laying.specs.Laying.{laid_over}
use Rattle.desk.specs.declared.Desk.{Desk}
use Rattle.desk.specs.Calls.{document01, mode_for, open_of}
use Rattle.runs.specs.Run.{start}
use Rattle.schedule.specs.declared.Shelf.{Shelf}
use Rattle.schedule.specs.Lines.{lines_of}
use Rattle.schedule.specs.Start.{Start}
use Rattle.printing.specs.Printing.{header_text}
use Rattle.play.specs.Rounds.{shelf_of, step_answers, numbered, opens, lines_text}

-- what a list of desks has past its end, as Rattle reads an array: zeros, and arrays of nothing. No call reads it
abbrev pub no_desk : Desk
no_desk = record { head = record { n = 0; m = 0; own = 0; mode = 0; turn = 0; wait = 0 }; kind = []; day = []; pkind = []; pday = [] }

-- the start that a shelf of the code says
abbrev pub said_shelf : Shelf → Start
said_shelf shelf = record { n = shelf.n; m = shelf.m; mode = shelf.mode }

-- the 16 desks of a run at its start; those from n on are refused, and have records of zeros
pub record AllOpened (x : Start) (ds : List Desk) : Type 0 where
  pub long : length ds ≡ 16
  pub each : (p : ℕ) → p < 16 → get_or ds p no_desk ≡ (open_of x.n x.m p x.mode).desk

-- "clear trays", those of 16 desks; and a place for each desk's latest sheet
unfoldable pub clear_trays : List ℕ
clear_trays = replicate 101888 0

unfoldable pub no_sheets : List ℕ
no_sheets = replicate 6368 0

-- what is asked of `run`: 1 to 16 desks, no more lines than 1,000, and room for them
pub record Runs (steps : List ℕ) (n : ℕ) (out : List ℕ) (at : ℕ) : Type 0 where
  pub some_desks : 1 ≤ n
  pub few_desks : n ≤ 16
  pub few_lines : length (lines_of steps) ≤ 1000
  pub room : at + 64 * length (lines_of steps) ≤ length out

-- the text of the steps of these lines
abbrev pub run_of : List ℕ → Start → List ℕ
run_of steps x = numbered 1 (step_answers x.n (start document01 (shelf_of x)) (lines_of steps))

-- this text laid over a buffer from `at` on, and where it ends, within the buffer
pub record Ran (x out : List ℕ) (at : ℕ) (out' : List ℕ) (end : ℕ) : Type 0 where
  pub bytes : out' ≡ laid_over out at x
  pub ends : end ≡ at + length x
  pub room : end ≤ length out

-- the mode in force; none, where a desk can't be opened
abbrev pub mode_in_force : Start → Option ℕ
mode_in_force x = cond (opens x) (Some (mode_for x.mode)) None

-- the header, and the text of the steps
abbrev pub shelf_text : List ℕ → Start → List ℕ
shelf_text steps x = header_text x.n x.m (mode_for x.mode) ++ run_of steps x

-- what `started` finds: line 1 says a start, whose desks can be opened, in this mode; and the lines behind it
pub record Starts (input : List ℕ) (x : Start) (mode : ℕ) (steps : List ℕ) : Type 0 where
  pub can_open : opens x ≡ true
  pub in_force : mode ≡ mode_for x.mode
  pub text : lines_text (lines_of input) ≡ shelf_text steps x
  pub lines : length (lines_of input) ≡ suc (length (lines_of steps))
