-- That given calls are a run, and that none of them is such a call, where a test that computes says so.
--   computing                  a proof with this on its `unfolding` line computes what calls answer and leave
--   below_two, below_three     what is so of each of the least two or three numbers
--   is_possible, is_run        a call is one that a run may have next; so is every one of these calls
--   answered_last              the last of these calls answers a read, and all others let it wait
--   no_take, no_answer         none of these calls takes a sheet at desk p; none answers a read of desk p
-- Assumes nothing.
use mathlib.Core.Path.{◌≡◌, refl, sym, ◌∙◌}
use mathlib.Core.Bool.{Bool, true, false, ◌&&◌, ◌||◌, false≢true}
use mathlib.Core.List.{List, [], ◌∷◌, ◌++◌}
use mathlib.Core.Option.{none, some}
use Prim.Native.Nat.{ℕ, zero, suc, ◌<◌, ◌^◌}
use native.Mathlib.Omega.{arith}
use lib.Dec.{eqb, ltb}
use lib.Signed.{mag}
use lib.ListN.{length}
use borrow.Author.Tests.{ltb-true, eq-eqb}
use Rattle.answer.specs.Answer.{Answer, refused, answered}
use Rattle.content.specs.Content.{day_of}
use Rattle.laying.specs.Laying.{laid_over}
use Rattle.sheet.specs.Good.{good}
use Rattle.numbers.proofs.Tests.{or_left, or_right, tested}
use Rattle.cells.specs.Cells.{place_at, each, put_if, anywhere}
use Rattle.sound.specs.Head.{read_waits, wait_cell}
use Rattle.sound.specs.Sound.{sound_of}
use Rattle.tray.specs.Tray.{holds_good, held_in, cleared_in}
use Rattle.pending.specs.Pending.{pending_below, sheet_of}
use Rattle.applying.specs.Applying.{laid, went_of}
use Rattle.desk.specs.Answers.{Value, opened, stored, holds, waits, sent, held, taken}
use Rattle.desk.specs.Calls.{Calls, open_of, write_of, must_wait, read_of, send_of, deliver_of, take_of}
use Rattle.runs.specs.Call.{Call, writes, reads, sends, delivers, takes}
use Rattle.runs.specs.Run.{State, start, made, put, after, Possible, Run, after_all, answers_of}
use Rattle.runs.specs.TurnRules.{ReadWaits, OneOf, first, further, TakesSheet, takes_it, AnswersRead, answers_it, ReadAnswered, at_this, waits_on, take_of_desk, takes_by}

-- the definitions of the calls and of a run, and those that they rest on: to unfold this is to unfold all of them
unfoldable pub computing : Unit {0}
unfolding answers_of start after after_all put takes_by
    open_of write_of must_wait read_of send_of deliver_of take_of
    sound_of place_at each anywhere put_if sheet_of pending_below laid went_of holds_good held_in cleared_in laid_over good
computing = tt

-- ---- few numbers

pub below_two : (P : ℕ → Type 0) → P 0 → P 1 → (p : ℕ) → p < 2 → P p
below_two P a b zero h = a
below_two P a b (suc zero) h = b
below_two P a b (suc (suc p)) h = absurd (omega arith)

pub below_three : (P : ℕ → Type 0) → P 0 → P 1 → P 2 → (p : ℕ) → p < 3 → P p
below_three P a b c zero h = a
below_three P a b c (suc p) h = below_two (λ q. P (suc q)) b c p (omega arith)

-- ---- a run

abbrev pub possible : ℕ → State → Call → Bool
possible n s (writes p cell c) = ltb p n && ltb (mag (day_of c)) (2 ^ 31)
possible n s (reads p cell) = ltb p n
possible n s (sends p buffer) = ltb p n
possible n s (delivers p k) = ltb p n && ltb k (length s.line)
possible n s (takes p) = ltb p n

pub is_possible : (n : ℕ) (s : State) (c : Call) → possible n s c ≡ true → Possible n s c
is_possible n s (writes p cell c) e = (search tested, record { sfits = search tested })
is_possible n s (reads p cell) e = ltb-true p n e
is_possible n s (sends p buffer) e = ltb-true p n e
is_possible n s (delivers p k) e = search tested
is_possible n s (takes p) e = ltb-true p n e

abbrev pub all_possible : Calls → ℕ → State → List Call → Bool
all_possible calls n s [] = true
all_possible calls n s (c ∷ cs) = possible n s c && all_possible calls n (after calls s c) cs

pub is_run : (calls : Calls) (n : ℕ) (s : State) (cs : List Call) → all_possible calls n s cs ≡ true → Run calls n s cs
unfolding Run
is_run calls n s [] e = tt
is_run calls n s (c ∷ cs) e = (is_possible n s c (search tested), is_run calls n (after calls s c) cs (search tested))

-- ---- a read that waits

abbrev pub waits_at_test : ℕ → ℕ → State → Bool
waits_at_test p cell s = read_waits (s.desk p).head && eqb (wait_cell (s.desk p).head) cell

waits_at : (p cell : ℕ) (s : State) → waits_at_test p cell s ≡ true → ReadWaits s p cell
waits_at p cell s e = search tested

abbrev pub waits_on_test : Calls → (p cell : ℕ) → State → List Call → Bool
waits_on_test calls p cell s [] = waits_at_test p cell s
waits_on_test calls p cell s (c ∷ cs) = waits_at_test p cell s && waits_on_test calls p cell (after calls s c) cs

pub answered_last : (calls : Calls) (p cell : ℕ) (s : State) (cs : List Call) (c : Call)
    → waits_on_test calls p cell s cs ≡ true
    → AnswersRead calls p cell (after_all calls s cs) c
    → ReadAnswered calls p cell s (cs ++ c ∷ [])
unfolding after_all
answered_last calls p cell s [] c e h = at_this (waits_at p cell s e) h
answered_last calls p cell s (d ∷ cs) c e h =
    waits_on (waits_at p cell s (search tested)) (answered_last calls p cell (after calls s d) cs c (search tested) h)

-- ---- none of these calls

abbrev pub some_seen : Calls → (State → Call → Bool) → State → List Call → Bool
some_seen calls test s [] = false
some_seen calls test s (c ∷ cs) = test s c || some_seen calls test (after calls s c) cs

module _ (calls : Calls) (such : State → Call → Type 0) (test : State → Call → Bool)
    (sees : (s : State) (c : Call) → such s c → test s c ≡ true) where
  unseen : {s : State} {cs : List Call} → some_seen calls test s cs ≡ false → OneOf calls such s cs → ⊥
  unseen e (first {s} {c} {cs} h) = false≢true (sym (or_left (test s c) _ e) ∙ sees s c h)
  unseen e (further {s} {c} {cs} h) = unseen (or_right (test s c) _ e) h

-- a take of desk p, accepted or not
abbrev pub sees_take : ℕ → State → Call → Bool
sees_take p s c = take_of_desk p c

abbrev pub carries_content : Answer Value → Bool
carries_content (refused k) = false
carries_content (answered opened) = false
carries_content (answered stored) = false
carries_content (answered (holds c)) = false
carries_content (answered waits) = false
carries_content (answered (sent turn entries)) = false
carries_content (answered held) = false
carries_content (answered (taken turn entries applied none)) = false
carries_content (answered (taken turn entries applied (some c))) = true

-- one that carries a content
abbrev pub sees_answer : Calls → ℕ → State → Call → Bool
sees_answer calls p s c = take_of_desk p c && carries_content (made calls s c).answer

module _ (calls : Calls) (p : ℕ) where
  pub no_take : (sheet : ℕ) (s : State) (cs : List Call)
      → some_seen calls (sees_take p) s cs ≡ false
      → OneOf calls (TakesSheet calls p sheet) s cs
      → ⊥
  no_take sheet s cs = unseen calls (TakesSheet calls p sheet) (sees_take p) sees
    where
      sees : (s : State) (c : Call) → TakesSheet calls p sheet s c → sees_take p s c ≡ true
      sees s c (takes_it v e l h) = eq-eqb p p refl

  one_answers : {cell : ℕ} {s : State} {cs : List Call} → ReadAnswered calls p cell s cs → OneOf calls (AnswersRead calls p cell) s cs
  one_answers (at_this {s} {c} {cs} w h) = first {s = s} {c = c} h
  one_answers (waits_on w h) = further (one_answers h)

  pub no_answer : (cell : ℕ) (s : State) (cs : List Call)
      → some_seen calls (sees_answer calls p) s cs ≡ false
      → ReadAnswered calls p cell s cs
      → ⊥
  no_answer cell s cs e a = unseen calls (AnswersRead calls p cell) (sees_answer calls p) sees e (one_answers a)
    where
      sees : (s : State) (c : Call) → AnswersRead calls p cell s c → sees_answer calls p s c ≡ true
      sees s c (answers_it turn entries applied content e h over) = rw (eq-eqb p p refl, e)
