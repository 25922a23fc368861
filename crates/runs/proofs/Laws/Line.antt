-- The line: sheets stay on it, where they are.
--   more_long, more_same, more_last      one more sheet: how long the line is then, that the others stay, and where the new one is
--   Longer, longer, line_kept            after a call, and after a list of calls
-- Assumes nothing.
use Prim.Native.Nat.{ℕ, suc, ◌<◌, ◌≤◌}
use mathlib.Core.Path.{◌≡◌, ◌∙◌, refl}
use mathlib.Core.List.{List, [], ◌∷◌, ◌++◌}
use native.Mathlib.Numerals.{add-one}
use lib.ListN.{length, length-append, get_or-append}
use lib.Seq.{get_or-append_seam}
use Rattle.runs.specs.Run.{SentSheet, sheet_on, State, after, after_all}
use native.Mathlib.Omega.{arith}
use Rattle.answer.specs.Answer.{Answer}
use Rattle.desk.specs.Answers.{Value}
use Rattle.runs.specs.Call.{Call}
use Rattle.desk.specs.Calls.{document01}
use Rattle.runs.proofs.Laws.Steps.{sheet_by, Step, is_refused, is_stored, is_read, is_waiting, is_sent, is_held, is_taken, step}

-- ---- one more sheet

module _ (line : List SentSheet) (y : SentSheet) where
  abbrev more : List SentSheet
  more = line ++ (y ∷ [])

  pub more_long : length more ≡ suc (length line)
  more_long = length-append line (y ∷ []) ∙ add-one (length line)

  pub more_same : (k : ℕ) → k < length line → sheet_on more k ≡ sheet_on line k
  more_same k l = get_or-append line _ _ _ l

  pub more_last : sheet_on more (length line) ≡ y
  more_last = get_or-append_seam line y [] _

-- ---- after calls

pub record Longer (before reached : List SentSheet) : Type 0 where
  pub long : length before ≤ length reached
  pub same : (k : ℕ) → k < length before → sheet_on reached k ≡ sheet_on before k

as_long : {line : List SentSheet} → Longer line line
as_long = record { long = omega arith; same = λ k l. refl }

pub longer : {s : State} {c : Call} {a : Answer Value} {t : State} → Step s c a t → Longer s.line t.line
longer (is_refused c k f) = as_long
longer (is_stored p cell c silent) = as_long
longer (is_read p cell silent w) = as_long
longer (is_waiting p cell silent w) = as_long
longer {s} (is_sent p buffer silent) =
    let y : SentSheet = record { from = p; bytes = sheet_by (s.desk p) } in
    record { long = omega (arith, more_long s.line y); same = more_same s.line y }
longer (is_held p k silent) = as_long
longer (is_taken p silent) = as_long

pub line_kept : (s : State) (cs : List Call) → Longer s.line (after_all document01 s cs).line
unfolding after_all
line_kept s [] = as_long
line_kept s (c ∷ cs) =
    let one = longer (step s c) in
    let rest = line_kept (after document01 s c) cs in
    record { long = omega (arith, one.long, rest.long); same = λ k l. rest.same k (omega (arith, one.long)) ∙ one.same k l }
