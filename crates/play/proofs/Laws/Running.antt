-- What the functions of src/lib.rt and src/running.rt know at each return, but for `run`, `started` and `play`.
--   longs, modes                          sets for `search`: the tests on the input's length, and the mode of an opened desk
--   OpenedSoFar                           the loop that opens the desks
-- Assumes nothing.
use Prim.Native.Nat.{ℕ, ◌<◌, ◌≤◌}
use Rattle.std.specs.Prelude.{Some, None, Result, Ok, Err}
use mathlib.Core.Path.{◌≡◌, refl, sym, ap, ◌∙◌}
use mathlib.Core.Bool.{Bool, true, false, cond, false≢true}
use mathlib.Core.List.{List, []}
use lib.Dec.{ltb}
use borrow.Author.Tests.{lt-ltb, le-ltb}
use lib.ListN.{length, get_or, replicate}
use Rattle.answer.specs.Answer.{accepted}
use Rattle.answer.specs.declared.Refusal.{Refusal}
use Rattle.desk.specs.declared.Answer.{Answer}
use Rattle.desk.specs.declared.Desk.{Desk}
use Rattle.desk.specs.declared.Outcome.{Outcome}
use Rattle.desk.specs.Answers.{opened, Done, said_answer, outcome}
use Rattle.desk.specs.Calls.{open_rules, mode_for, blank_desk, fresh_head, open_of}
use Rattle.runs.proofs.Laws.Steps.{by_call}
use Rattle.schedule.specs.Lines.{lines_of}
use Rattle.schedule.specs.Start.{Start}
use Rattle.play.specs.Rounds.{too_long}
use Rattle.play.specs.Parts.Running.{no_desk, clear_trays, no_sheets, mode_in_force}

-- ---- the input's length

module _ (input : List ℕ) where
  pub long_bytes : 16384 < length input → true ≡ too_long input
  unfolding too_long
  long_bytes h = rw (lt-ltb 16384 (length input) h)

  pub long_lines : length input ≤ 16384 → (lines : ℕ) → lines ≡ length (lines_of input) → ltb 1001 lines ≡ too_long input
  unfolding too_long
  long_lines h lines e = rw (le-ltb 16384 (length input) h, e) refl

pub ruleset longs = (long_bytes, long_lines)

-- ---- the mode

module _ (x : Start) (o : Outcome) (is : outcome o [] ≡ open_of x.n x.m 0 x.mode) where
  head_mode : accepted (said_answer o.answer) ≡ true → o.desk.head.mode ≡ mode_for x.mode
  unfolding open_of
  head_mode on =
      ap (λ (y : Done). y.desk.head.mode) is
      ∙ by_call (λ (y : Done). accepted y.answer ≡ true → y.desk.head.mode ≡ mode_for x.mode) (open_rules x.n x.m 0 x.mode) (blank_desk (fresh_head 0 0 0 0)) [] opened
      (blank_desk (fresh_head x.n x.m 0 (mode_for x.mode)))
      []
      (λ k first e. absurd (false≢true e))
      (λ silent e. refl)
      (sym (ap (λ (y : Done). accepted y.answer) is) ∙ on)

  pub mode_opened : (a : Answer) → o.answer ≡ Ok a → Some o.desk.head.mode ≡ mode_in_force x
  mode_opened a e =
      let on : accepted (said_answer o.answer) ≡ true = ap (λ (r : Result Answer Refusal). accepted (said_answer r)) e in
      ap (λ (k : ℕ). Some k) (head_mode on)
      ∙ ap (λ (b : Bool). cond b (Some (mode_for x.mode)) None) (sym on ∙ ap (λ (y : Done). accepted y.answer) is)

  pub mode_refused : (r : Refusal) → o.answer ≡ Err r → None ≡ mode_in_force x
  mode_refused r e =
      let off : accepted (said_answer o.answer) ≡ false = ap (λ (r : Result Answer Refusal). accepted (said_answer r)) e in
      ap (λ (b : Bool). cond b (Some (mode_for x.mode)) None) (sym off ∙ ap (λ (y : Done). accepted y.answer) is)

pub ruleset modes = (mode_opened, mode_refused)

-- ---- the desks

pub record OpenedSoFar (x : Start) (ds : List Desk) (p : ℕ) : Type 0 where
  pub long : length ds ≡ 16
  pub each : (q : ℕ) → q < p → get_or ds q no_desk ≡ (open_of x.n x.m q x.mode).desk

-- ---- the bytes that a run is lent

pub trays_clear : replicate 101888 0 ≡ clear_trays
unfolding clear_trays
trays_clear = refl

pub sheets_none : replicate 6368 0 ≡ no_sheets
unfolding no_sheets
sheets_none = refl
