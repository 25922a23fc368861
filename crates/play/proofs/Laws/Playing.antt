-- The loop of `run` (src/running.rt): what is printed so far, with what the lines that are left print, is the whole.
--   line_laid, line_end                  a line that was printed, where it has room
--   ran_long                             what a run leaves is as long as what was lent
--   RunSoFar, run_begun, run_ended       the loop, its start and its end
--   turns                                a set for `search`: what a turn's calls and numbers ask for
--   run_turned, run_bad                  a turn, and one that ends the run
-- Assumes nothing.
use Prim.Native.Nat.{ℕ, suc, ◌+◌, ◌*◌, ◌-◌, ◌<◌, ◌≤◌}
use mathlib.Core.Path.{◌≡◌, refl, sym, ap, ◌∙◌, subst}
use mathlib.Core.Bool.{Bool, true, false, false≢true}
use mathlib.Core.List.{List, [], ◌∷◌, ◌++◌, append_assoc, append-nil}
use mathlib.Core.Option.{Option}
use native.Mathlib.Omega.{arith}
use lib.ListN.{length, get_or, set, take, drop, length-append, take-append-drop}
use mir.Syntax.{w64}
use mir.Val.{Fits}
use lib.Dec.{eqb}
use borrow.Author.Tests.{le-leb, eqb-true}
use Rattle.laying.specs.Laying.{laid_over}
use Rattle.laying.proofs.Laws.{laid, laid_behind}
use Rattle.tray.proofs.Laws.Parts.{laid_long}
use Rattle.desk.specs.declared.Desk.{Desk}
use Rattle.desk.specs.Calls.{document01}
use Rattle.runs.specs.Run.{State, start}
use Rattle.schedule.specs.declared.Act.{Act}
use Rattle.schedule.specs.declared.Step as declared
use Rattle.schedule.specs.Lines.{Line, lines_of}
use Rattle.schedule.specs.Start.{Start}
use Rattle.schedule.specs.Step.{Step, said_act}
use Rattle.schedule.proofs.Laws.Lines.{no_lines}
use Rattle.lines.proofs.Steps.{steps_are_in_range}
use Rattle.printing.specs.StepAnswer.{StepAnswer, bad_line, said_step_answer}
use Rattle.printing.specs.Printing.{Wrote, wrote, line_text}
use Rattle.play.specs.declared.making.StepOutcome.{StepOutcome}
use Rattle.play.specs.Steps.{after_step}
use Rattle.play.specs.Rounds.{shelf_of, answers_then, step_answers, numbered}
use Rattle.play.specs.Parts.Lines.{said, BadFirst, FirstStep}
use Rattle.play.specs.Parts.Making.{step_outcome, make_of, SenderThere}
use Rattle.play.specs.Parts.Running.{no_desk, AllOpened, clear_trays, no_sheets, Runs, run_of, Ran}
use Rattle.play.proofs.Laws.Trays.{tray_in, tray_room, spliced}
use Rattle.play.proofs.Laws.Standing.{Stands, stands_at_start, follows}
use Rattle.play.proofs.Laws.Lines.{some_line}

-- ---- a line that was printed

module _ (out : List ℕ) (w : ℕ) (line : List ℕ) (out' : List ℕ) (w' : ℕ) (put : record { bytes = out'; end = w' } ≡ wrote out w line) (room : w + 64 ≤ length out) where
  as_laid : wrote out w line ≡ record { bytes = laid_over out w line; end = w + length line }
  unfolding wrote
  as_laid = rw (le-leb (w + 64) (length out) room)

  pub line_laid : out' ≡ laid_over out w line
  line_laid = ap (λ (x : Wrote). x.bytes) (put ∙ as_laid)

  pub line_end : w' ≡ w + length line
  line_end = ap (λ (x : Wrote). x.end) (put ∙ as_laid)

laid_nothing : (b : List ℕ) (at : ℕ) → at ≤ length b → laid_over b at [] ≡ b
laid_nothing b at room =
    let zero_more : at + 0 ≡ at = omega arith in
    laid b at [] (omega arith) ∙ ap (λ (l : List ℕ). l ++ drop (at + 0) b) (append-nil (take at b)) ∙ ap (λ (k : ℕ). take at b ++ drop k b) zero_more ∙ take-append-drop at b

pub ran_long : {x out : List ℕ} {at : ℕ} {out' : List ℕ} {end : ℕ} → Ran x out at out' end → length out' ≡ length out
ran_long {x} {out} {at} ran = ap (λ (l : List ℕ). length l) ran.bytes ∙ laid_long out at x

-- ---- the loop

-- the test on what is left
pub left_some : (rest : List ℕ) (t : Bool) → t ≡ eqb (length rest) 0 → t ≡ false → 0 < length rest
left_some [] t is off = absurd (false≢true (sym off ∙ is))
left_some (b ∷ bs) t is off = omega arith

pub left_none : (rest : List ℕ) (t : Bool) → t ≡ eqb (length rest) 0 → t ≡ true → rest ≡ []
left_none [] t is on = refl
left_none (b ∷ bs) t is on = let none : suc (length bs) ≡ 0 = eqb-true (suc (length bs)) 0 (sym is ∙ on) in absurd (omega arith)

pub record RunSoFar (steps : List ℕ) (x : Start) (out₀ : List ℕ) (at size : ℕ) (out : List ℕ) (ds : List Desk) (trays latest rest : List ℕ) (w k : ℕ) : Type 0 where
  pub some_desks : 1 ≤ x.n
  pub few_desks : x.n ≤ 16
  pub size_is : size ≡ 398 * x.n
  pub state : State
  pub stands : Stands x.n state ds trays latest
  pub done : List ℕ
  pub out_is : out ≡ laid_over out₀ at done
  pub place : w ≡ at + length done
  pub whole : run_of steps x ≡ done ++ numbered k (step_answers x.n state (lines_of rest))
  pub room : w + 64 * length (lines_of rest) ≤ length out₀
  pub few_lines : k + length (lines_of rest) ≤ 1001

module _ (steps : List ℕ) (x : Start) (out₀ : List ℕ) (at : ℕ) where
  pub run_begun : Runs steps x.n out₀ at → (ds : List Desk) → AllOpened x ds → (trays : List ℕ) → trays ≡ clear_trays → (latest : List ℕ) → latest ≡ no_sheets
      → RunSoFar steps x out₀ at (398 * x.n) out₀ ds trays latest steps at 1
  unfolding clear_trays no_sheets
  run_begun asked ds opened trays clear latest none_sent =
      record {
        some_desks = asked.some_desks;
        few_desks = asked.few_desks;
        size_is = refl;
        state = start document01 (shelf_of x);
        stands =
            subst (λ (t : List ℕ). Stands x.n (start document01 (shelf_of x)) ds t latest) (sym clear)
            (subst (Stands x.n (start document01 (shelf_of x)) ds clear_trays) (sym none_sent)
            (stands_at_start x asked.few_desks ds opened 101888 6368 refl refl));
        done = [];
        out_is = sym (laid_nothing out₀ at (omega (arith, asked.room)));
        place = omega arith;
        whole = refl;
        room = asked.room;
        few_lines = omega (arith, asked.few_lines);
      }

  module _ (size : ℕ) (out : List ℕ) (ds : List Desk) (trays latest rest : List ℕ) (w k : ℕ) (so : RunSoFar steps x out₀ at size out ds trays latest rest w k) where
    pub run_ended : rest ≡ [] → Ran (run_of steps x) out₀ at out w
    unfolding step_answers numbered
    run_ended h =
        let none_left : lines_of rest ≡ [] = ap lines_of h ∙ no_lines in
        let is : run_of steps x ≡ so.done = so.whole ∙ ap (λ (ls : List Line). so.done ++ numbered k (step_answers x.n so.state ls)) none_left ∙ append-nil so.done in
        record { bytes = so.out_is ∙ ap (laid_over out₀ at) (sym is); ends = so.place ∙ ap (λ (l : List ℕ). at + length l) (sym is); room = omega (arith, so.room) }

    out_long : length out ≡ length out₀
    out_long = ap (λ (l : List ℕ). length l) so.out_is ∙ laid_long out₀ at so.done

    -- a turn: there is a line
    module _ (more : 1 ≤ length (lines_of rest)) where
      line_room : w + 64 ≤ length out
      line_room = omega (arith, so.room, more, out_long)

      -- what it prints
      module _ (a : StepAnswer) (out' : List ℕ) (w' : ℕ) (put : record { bytes = out'; end = w' } ≡ wrote out w (line_text k a)) (near : w' ≤ w + 64) where
        abbrev line : List ℕ
        line = line_text k a

        -- the text, one line longer
        longer : out' ≡ laid_over out₀ at (so.done ++ line)
        longer =
            line_laid out w line out' w' put line_room
            ∙ ap (λ (l : List ℕ). laid_over l w line) so.out_is
            ∙ ap (λ (z : ℕ). laid_over (laid_over out₀ at so.done) z line) so.place
            ∙ laid_behind out₀ at so.done line (omega (arith, so.place, line_end out w line out' w' put line_room, near, so.room, more))

        further : w' ≡ at + length (so.done ++ line)
        further = omega (arith, so.place, line_end out w line out' w' put line_room, length-append so.done line)

        whole_with : (answers : List StepAnswer) → step_answers x.n so.state (lines_of rest) ≡ a ∷ answers → run_of steps x ≡ (so.done ++ line) ++ numbered (k + 1) answers
        unfolding numbered
        whole_with answers e =
            so.whole
            ∙ ap (λ (l : List StepAnswer). so.done ++ numbered k l) e
            ∙ sym (append_assoc so.done line (numbered (k + 1) answers))

    -- "prints its step number and `bad line` and ends the run"
    pub run_bad : 0 < length rest → BadFirst x.n (lines_of rest) → (out' : List ℕ) (w' : ℕ) → record { bytes = out'; end = w' } ≡ wrote out w (line_text k bad_line) → w' ≤ w + 64
        → Ran (run_of steps x) out₀ at out' w'
    unfolding step_answers numbered
    run_bad bytes bad out' w' put near =
        let more : 1 ≤ length (lines_of rest) = some_line rest bytes in
        let is : run_of steps x ≡ so.done ++ line_text k bad_line =
        whole_with more bad_line out' w' put near [] (by_lines (lines_of rest) more bad) ∙ append-nil (so.done ++ line_text k bad_line)
        in
        record {
          bytes = longer more bad_line out' w' put near ∙ ap (laid_over out₀ at) (sym is);
          ends = further more bad_line out' w' put near ∙ ap (λ (l : List ℕ). at + length l) (sym is);
          room = omega (arith, near, so.room, more);
        }
      where
        by_lines : (ls : List Line) → 1 ≤ length ls → BadFirst x.n ls → step_answers x.n so.state ls ≡ bad_line ∷ []
        by_lines [] least bad = absurd (omega arith)
        by_lines (l ∷ ls) least bad = ap (λ (o : Option Step). answers_then so.state o (λ t. step_answers x.n t ls)) bad

    -- a step of desk p
    module _ (step : declared.Step) (after : List ℕ) (first : FirstStep x.n rest (said step) after) where
      abbrev p : ℕ
      p = step.desk

      abbrev a : Act
      a = step.act

      abbrev st : Step
      st = said step

      one_less : length (lines_of rest) ≡ suc (length (lines_of after))
      one_less = ap (λ (ls : List Line). length ls) first.lines

      pub fewer_left : length after < length rest
      fewer_left = first.shorter

      pub number_fits : k + 1 ≤ 1001
      number_fits = omega (arith, one_less, so.few_lines)

      desk_there : p < x.n
      desk_there = (steps_are_in_range x.n first.line st first.says).desk

      pub desk_few : p < 16
      desk_few = omega (arith, desk_there, so.few_desks)

      -- a record has 652 bytes
      pub desk_offset : Fits w64 (p * 652)
      desk_offset = let few = desk_few in omega arith

      sender_there : SenderThere x.n a
      sender_there q e = (steps_are_in_range x.n first.line st first.says).sender q (ap said_act e)

      pub sender_few : SenderThere 16 a
      sender_few q e = omega (arith, sender_there q e, so.few_desks)

      -- its tray is there
      pub tray_end : p * size + size ≤ length trays
      tray_end = rw so.size_is (omega (arith, so.stands.trays_long, tray_room x.n p so.few_desks desk_there))

      pub tray_offset : Fits w64 (p * size)
      tray_offset = let there = tray_end in omega (arith, so.stands.trays_long)

      pub tray_offset_end : Fits w64 (p * size + size)
      tray_offset_end = let there = tray_end in omega (arith, so.stands.trays_long)

      -- the part of the trays that is lent
      abbrev lent : List ℕ
      lent = take (p * size + size - p * size) (drop (p * size) trays)

      lent_is : lent ≡ tray_in (398 * x.n) trays p
      lent_is =
          let many : p * size + size - p * size ≡ size = omega arith in
          ap (λ (z : ℕ). take z (drop (p * size) trays)) many ∙ ap (λ (z : ℕ). tray_in z trays p) so.size_is

      -- what it leaves, and what it prints
      module _ (o : StepOutcome) (tray' latest' : List ℕ)
          (made : step_outcome o tray' latest' ≡ make_of (get_or ds p no_desk) p a (take (p * size + size - p * size) (drop (p * size) trays)) latest)
          (out' : List ℕ) (w' : ℕ) (put : record { bytes = out'; end = w' } ≡ wrote out w (line_text k (said_step_answer o.answer))) (near : w' ≤ w + 64) where
        trays_laid : length tray' ≡ 398 * x.n → take (p * size) trays ++ (tray' ++ drop (p * size + size - p * size) (drop (p * size) trays)) ≡ laid_over trays (p * (398 * x.n)) tray'
        trays_laid long =
            spliced trays tray' (p * size) (p * size + size - p * size) (omega (arith, so.size_is, long)) (omega (arith, tray_end, so.size_is, long))
            ∙ ap (λ (z : ℕ). laid_over trays (p * z) tray') so.size_is

        pub run_turned : RunSoFar steps x out₀ at size out' (set ds p o.desk) (take (p * size) trays ++ (tray' ++ drop (p * size + size - p * size) (drop (p * size) trays))) latest' after w' (k + 1)
        unfolding step_answers
        run_turned =
            let more : 1 ≤ length (lines_of rest) = omega (arith, one_less) in
            let f = follows so.few_desks so.stands desk_there (get_or ds p no_desk) refl lent lent_is a sender_there (step_outcome o tray' latest') made in
            let v : StepAnswer = said_step_answer o.answer in
            let answers : List StepAnswer = step_answers x.n (after_step so.state st) (lines_of after) in
            record {
              some_desks = so.some_desks;
              few_desks = so.few_desks;
              size_is = so.size_is;
              state = after_step so.state st;
              stands = subst (λ (l : List ℕ). Stands x.n (after_step so.state st) (set ds p o.desk) l latest') (sym (trays_laid f.as_long)) f.stands;
              done = so.done ++ line_text k v;
              out_is = longer more v out' w' put near;
              place = further more v out' w' put near;
              whole =
                  whole_with more v out' w' put near answers
                  (ap (step_answers x.n so.state) first.lines
                  ∙ ap (λ (z : Option Step). answers_then so.state z (λ t. step_answers x.n t (lines_of after))) first.says
                  ∙ ap (λ (u : StepAnswer). u ∷ answers) (sym f.answer_is));
              room = omega (arith, near, one_less, so.room);
              few_lines = omega (arith, one_less, so.few_lines);
            }

pub ruleset turns = (desk_few, desk_offset, sender_few, tray_end, tray_offset, tray_offset_end, fewer_left, number_fits)
