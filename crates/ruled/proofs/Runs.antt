-- The steps of a schedule are calls of the run of demand 3 (specs/Promises.antt).
--   first_as_all : FirstAsAll
--   schedules_are_runs : SchedulesAreRuns
-- Assumes nothing.
use Prim.Native.Nat.{ℕ, suc, ◌+◌, ◌<◌}
use mathlib.Core.Path.{◌≡◌, refl, ap, ◌∙◌, subst}
use mathlib.Core.Bool.{Bool, true, false, cond}
use mathlib.Core.List.{List, [], ◌∷◌, ◌++◌}
use mathlib.Core.Option.{Option, none, some}
use native.Mathlib.Omega.{arith}
use lib.Dec.{eqb}
use lib.ListN.{length}
use borrow.Author.Tests.{lt-leb}
use mir.Syntax.{w32}
use mir.Val.{SFits}
use Rattle.answer.specs.Answer.{Answer}
use Rattle.content.specs.declared.Content.{Content}
use Rattle.content.specs.Content.{day_of}
use Rattle.desk.specs.Answers.{Value}
use Rattle.desk.specs.Calls.{document01, mode_for, open_of}
use Rattle.runs.specs.Call.{Call}
use Rattle.runs.specs.Run.{Within, SentSheet, State, start, made, after, Possible, Run, answers_of}
use Rattle.runs.proofs.TurnRules.{turn_rules}
use Rattle.runs.proofs.Laws.Lists.{run_split}
use Rattle.schedule.specs.Step as spec
use Rattle.schedule.specs.Lines.{Line, lines_of}
use Rattle.schedule.specs.Start.{Start}
use Rattle.schedule.specs.Step.{Act, Step, step_in}
use Rattle.printing.specs.Printing.{header_text}
use Rattle.lines.specs.Promises.{StepInRange}
use Rattle.lines.proofs.Steps.{steps_are_in_range}
use Rattle.play.specs.Steps.{latest_from, latest_of, delivers_latest, call_by, call_of, call_answer, step_answer, after_call, after_step}
use Rattle.play.specs.Rounds.{answers_then, step_answers, numbered, shelf_of, opens, bad_start, run_text, lines_text, printed}
use Rattle.ruled.specs.Promises.{FirstAsAll, calls_then, step_then, calls_in, call_answers, SchedulesAreRuns}
use Rattle.play.proofs.Laws.Whole.{opens_says}
use Rattle.text.specs.Text.{text}

-- ---- the desks

pub first_as_all : FirstAsAll
unfolding open_of
first_as_all n m mode p l = rw (lt-leb n p l, lt-leb n 0 (omega arith))

-- ---- the answers

answers_of_lem : (n : ℕ) (s : State) (lines : List Line) → call_answers (step_answers n s lines) ≡ answers_of document01 s (calls_in n s lines)
unfolding step_answers calls_in answers_of step_answer after_step
answers_of_lem n s [] = refl
answers_of_lem n s (line ∷ lines) = by_step (step_in n line) (λ t. answers_of_lem n t lines)
  where
    by_call_lem : (o : Option Call) → ((t : State) → call_answers (step_answers n t lines) ≡ answers_of document01 t (calls_in n t lines))
        → call_answers (call_answer s o ∷ step_answers n (after_call s o) lines) ≡ answers_of document01 s (calls_then s o (λ t. calls_in n t lines))
    by_call_lem none more = more s
    by_call_lem (some c) more = ap (λ (l : List (Answer Value)). (made document01 s c).answer ∷ l) (more (after document01 s c))

    by_step : (o : Option Step) → ((t : State) → call_answers (step_answers n t lines) ≡ answers_of document01 t (calls_in n t lines))
        → call_answers (answers_then s o (λ t. step_answers n t lines)) ≡ answers_of document01 s (step_then s o (λ t. calls_in n t lines))
    by_step none more = refl
    by_step (some step) more = by_call_lem (call_of s step) more

-- ---- the calls

-- a sheet that is delivered was sent
within : Option ℕ → ℕ → Type 0
within none k = Unit {0}
within (some i) k = i < k

there_from : (q k : ℕ) (found : Option ℕ) (line : List SentSheet) → within found k → within (latest_from q k found line) (k + length line)
unfolding latest_from within
there_from q k found [] so = sooner found so
  where
    sooner : (o : Option ℕ) → within o k → within o (k + 0)
    sooner none l = tt
    sooner (some i) l = omega arith
there_from q k found (x ∷ line) so =
    let on : suc k + length line ≡ k + suc (length line) = omega arith in
    subst (within (latest_from q (suc k) (cond (eqb x.from q) (some k) found) line)) on
    (there_from q (suc k) (cond (eqb x.from q) (some k) found) line (by_test (eqb x.from q) found so))
  where
    by_test : (b : Bool) (o : Option ℕ) → within o k → within (cond b (some k) o) (suc k)
    by_test true o l = omega arith
    by_test false none l = tt
    by_test false (some i) l = omega arith

-- a step's call may be next
abbrev Next : ℕ → State → Option Call → Type 0
Next n s none = Unit {0}
Next n s (some c) = Possible n s c

module _ (n : ℕ) (s : State) where
  by_latest : (p : ℕ) → p < n → (o : Option ℕ) → within o (length s.line) → Next n s (delivers_latest p o)
  unfolding within
  by_latest p l none there = tt
  by_latest p l (some k) there = (l, there)

  by_act : (p : ℕ) (a : Act) → p < n → ((cell : ℕ) (c : Content) → a ≡ spec.writes cell c → SFits w32 (day_of c)) → Next n s (call_by s p a)
  unfolding latest_of within
  by_act p (spec.writes cell c) l day = (l, day cell c refl)
  by_act p (spec.reads cell) l day = l
  by_act p spec.sends l day = l
  by_act p (spec.delivers q) l day =
      let all : 0 + length s.line ≡ length s.line = omega arith in
      by_latest p l (latest_of q s.line) (subst (within (latest_from q 0 none s.line)) all (there_from q 0 none s.line tt))
  by_act p spec.takes l day = l

  next_is : (step : Step) → StepInRange n step → Next n s (call_of s step)
  next_is step range = by_act step.desk step.act range.desk range.day

is_run : (n : ℕ) (s : State) (lines : List Line) → Run document01 n s (calls_in n s lines)
unfolding Run calls_in
is_run n s [] = tt
is_run n s (line ∷ lines) = by_step (step_in n line) refl (λ t. is_run n t lines)
  where
    by_call_lem : (o : Option Call) → Next n s o → ((t : State) → Run document01 n t (calls_in n t lines)) → Run document01 n s (calls_then s o (λ t. calls_in n t lines))
    by_call_lem none possible more = more s
    by_call_lem (some c) possible more = (possible, more (after document01 s c))

    by_step : (o : Option Step) → step_in n line ≡ o → ((t : State) → Run document01 n t (calls_in n t lines)) → Run document01 n s (step_then s o (λ t. calls_in n t lines))
    by_step none e more = tt
    by_step (some step) e more = by_call_lem (call_of s step) (next_is n s step (steps_are_in_range n line step e)) more

-- ---- a schedule is a run

shelf_within : (x : Start) → opens x ≡ true → Within (shelf_of x)
shelf_within x can =
    let allowed = opens_says x.n x.m x.mode can in
    record {
      desks_least = allowed.desks_least;
      desks_most = allowed.desks_most;
      cells_least = allowed.cells_least;
      cells_most = allowed.cells_most;
      modes_most = λ p l. allowed.mode_most;
    }

pub schedules_are_runs : SchedulesAreRuns
unfolding printed
schedules_are_runs input x lines so =
    let n : ℕ = x.n in
    let limits = shelf_within x so.can_open in
    let run = is_run n (start document01 (shelf_of x)) lines in
    record {
      is_run = record { within = limits; run = run };
      same_answers = answers_of_lem n (start document01 (shelf_of x)) lines;
      prints =
          ap (λ (b : Bool). cond b (text "too long\n") (lines_text (lines_of input))) so.fits
          ∙ ap lines_text so.all_lines
          ∙ ap (λ (o : Option Start). run_text o lines) so.says
          ∙ ap (λ (b : Bool). cond b (header_text n x.m (mode_for x.mode) ++ numbered 1 (step_answers n (start document01 (shelf_of x)) lines)) bad_start) so.can_open;
      turn_rules = λ cs ds e.
          turn_rules (shelf_of x) cs
          (record { within = limits; run = (run_split document01 n (start document01 (shelf_of x)) cs ds (subst (Run document01 n (start document01 (shelf_of x))) e run)).0 });
    }
