-- What `started` and `play` know at each return (src/lib.rt), and that it is what `printed` says (specs/Rounds.antt).
--   opens_says                        a desk that can be opened: its numbers
--   starting, plays                   sets for `search`: `started`, `play`
-- Assumes nothing.
use Prim.Native.Nat.{ℕ, ◌+◌, ◌≤◌}
use Rattle.std.proofs.Common as std
use Rattle.std.proofs.Common.{None, Some}
use Rattle.std.proofs.lemmas.Option.{none-some}
use mathlib.Core.Path.{◌≡◌, refl, sym, ap, ◌∙◌, subst}
use mathlib.Core.Bool.{Bool, true, false, cond, false≢true}
use mathlib.Core.List.{List, [], ◌∷◌, ◌++◌}
use mathlib.Core.Option.{Option, none, some}
use native.Mathlib.Omega.{arith}
use lib.ListN.{length, length-append}
use Rattle.laying.specs.Laying.{laid_over}
use Rattle.laying.proofs.Laws.{laid_behind}
use Rattle.tray.proofs.Laws.Parts.{laid_long}
use Rattle.desk.specs.Answers.{opened, Done}
use Rattle.desk.specs.Calls.{mode_for, open_rules, blank_desk, fresh_head, open_of}
use Rattle.desk.proofs.Laws.Allowed.{OpenAllowed, open_allows}
use Rattle.runs.proofs.Laws.Steps.{by_call}
use Rattle.text.specs.Text.{text}
use Rattle.schedule.specs.Lines.{Line, ended, last_line, lines_of}
use Rattle.schedule.specs.Start.{Start, start_in, said_start}
use Rattle.schedule.specs.declared.Shelf as declared
use Rattle.printing.specs.Printing.{wrote, header_text}
use Rattle.answer.specs.Answer.{accepted}
use Rattle.numbers.proofs.Tests.{tested}
use Rattle.play.specs.Parts.Lines.{NoneEnded, FirstLine}
use Rattle.play.specs.Rounds.{too_long, opens, bad_start, run_text, lines_text, printed, Prints}
use Rattle.play.specs.Parts.Running.{said_shelf, Runs, run_of, Ran, mode_in_force, Starts, shelf_text}
use Rattle.play.proofs.Laws.Playing.{line_laid, line_end}

-- ---- a shelf whose desks can be opened

pub opens_says : (n m mode : ℕ) → opens (record { n = n; m = m; mode = mode }) ≡ true → OpenAllowed n m 0 mode
unfolding open_of
opens_says n m mode =
    by_call (λ (x : Done). accepted x.answer ≡ true → OpenAllowed n m 0 mode) (open_rules n m 0 mode) (blank_desk (fresh_head 0 0 0 0)) [] opened
    (blank_desk (fresh_head n m 0 (mode_for mode)))
    []
    (λ k first e. absurd (false≢true e))
    (λ silent e. open_allows n m 0 mode silent)

-- ---- line 1

module _ (input : List ℕ) where
  by_first : (line rest : List ℕ) → FirstLine input line rest → (o : Option Start) → start_in (ended line) ≡ o → lines_text (lines_of input) ≡ run_text o (lines_of rest)
  by_first line rest first o says = ap lines_text first.lines ∙ ap (λ (z : Option Start). run_text z (lines_of rest)) says

  pub start_cut : NoneEnded input → lines_text (lines_of input) ≡ bad_start
  unfolding start_in
  start_cut e = ap lines_text e ∙ by_bytes input
    where
      by_bytes : (l : List ℕ) → lines_text (last_line l) ≡ bad_start
      by_bytes [] = refl
      by_bytes (b ∷ bs) = refl

  module _ (line rest : List ℕ) (first : FirstLine input line rest) (s : std.Option declared.Shelf) (says : said_start s ≡ start_in (ended line)) where
    pub start_bad : s ≡ None → lines_text (lines_of input) ≡ bad_start
    start_bad e = by_first line rest first none (sym says ∙ ap said_start e)

    module _ (shelf : declared.Shelf) (is : s ≡ Some shelf) where
      by_opening : (b : Bool) → opens (said_shelf shelf) ≡ b → lines_text (lines_of input) ≡ cond b (shelf_text rest (said_shelf shelf)) bad_start
      by_opening b e =
          by_first line rest first (some (said_shelf shelf)) (sym says ∙ ap said_start is)
          ∙ ap (λ (t : Bool). cond t (shelf_text rest (said_shelf shelf)) bad_start) e

      module _ (force : std.Option ℕ) (force_is : force ≡ mode_in_force (said_shelf shelf)) where
        pub start_shut : force ≡ None → lines_text (lines_of input) ≡ bad_start
        start_shut e = by_test (opens (said_shelf shelf)) refl
          where
            by_test : (b : Bool) → opens (said_shelf shelf) ≡ b → lines_text (lines_of input) ≡ bad_start
            by_test true t = absurd (none-some _ (sym e ∙ force_is ∙ ap (λ (c : Bool). cond c (Some (mode_for shelf.mode)) None) t))
            by_test false t = by_opening false t

        pub starts : (mode : ℕ) → force ≡ Some mode → Starts input (said_shelf shelf) mode rest
        starts mode e = by_test (opens (said_shelf shelf)) refl
          where
            by_test : (b : Bool) → opens (said_shelf shelf) ≡ b → Starts input (said_shelf shelf) mode rest
            by_test true t =
                let same : ◌≡◌ {A = std.Option ℕ} (Some mode) (Some (mode_for shelf.mode)) =
                sym e ∙ force_is ∙ ap (λ (c : Bool). cond c (Some (mode_for shelf.mode)) None) t
                in
                record {
                  can_open = t;
                  in_force = cc;
                  text = by_opening true t;
                  lines = ap (λ (ls : List Line). length ls) first.lines;
                }
            by_test false t = absurd (none-some mode (sym (sym e ∙ force_is ∙ ap (λ (c : Bool). cond c (Some (mode_for shelf.mode)) None) t)))

pub ruleset starting = (start_cut, start_bad, start_shut, starts)

-- ---- the whole

module _ (input out : List ℕ) (long : length out ≡ 64064) where
  by_text : (t : List ℕ) → printed input ≡ t → (out' : List ℕ) (r : ℕ) → Prints t out out' r → Prints (printed input) out out' r
  by_text t e out' r prints = subst (λ (l : List ℕ). Prints l out out' r) (sym e) prints

  -- a short line, alone
  alone : {t : List ℕ} → length t ≤ 10 → (out' : List ℕ) → out' ≡ laid_over out 0 t → (r : ℕ) → r ≡ length t → Prints t out out' r
  alone {t} short out' is r size = record { bytes = is; long = size; room = omega (arith, long, ap (λ (l : List ℕ). length l) is ∙ laid_long out 0 t) }

  module _ (test : Bool) (test_is : test ≡ too_long input) where
    pub played_long : test ≡ true → (out' : List ℕ) → out' ≡ laid_over out 0 (text "too long\n") → (r : ℕ) → r ≡ length (text "too long\n") → Prints (printed input) out out' r
    unfolding printed
    played_long on out' is r size = by_text (text "too long\n") (ap (λ (b : Bool). cond b (text "too long\n") (lines_text (lines_of input))) (sym test_is ∙ on)) out' r (alone (omega arith) out' is r size)

    module _ (off : test ≡ false) where
      by_lines : printed input ≡ lines_text (lines_of input)
      unfolding printed
      by_lines = ap (λ (b : Bool). cond b (text "too long\n") (lines_text (lines_of input))) (sym test_is ∙ off)

      few_lines : length (lines_of input) ≤ 1001
      unfolding too_long
      few_lines = search (sym test_is ∙ off, tested)

      pub played_bad : lines_text (lines_of input) ≡ bad_start → (out' : List ℕ) → out' ≡ laid_over out 0 (text "bad start\n") → (r : ℕ) → r ≡ length (text "bad start\n") → Prints (printed input) out out' r
      played_bad e out' is r size = by_text bad_start (by_lines ∙ e) out' r (alone (omega arith) out' is r size)

      module _ (x : Start) (mode : ℕ) (steps : List ℕ) (so : Starts input x mode steps) (out₁ : List ℕ) (at : ℕ)
          (put : record { bytes = out₁; end = at } ≡ wrote out 0 (header_text x.n x.m mode)) (near : at ≤ 0 + 64) where
        abbrev header : List ℕ
        header = header_text x.n x.m mode

        header_laid : out₁ ≡ laid_over out 0 header
        header_laid = line_laid out 0 header out₁ at put (omega (arith, long))

        header_end : at ≡ 0 + length header
        header_end = line_end out 0 header out₁ at put (omega (arith, long))

        out_long : length out₁ ≡ 64064
        out_long = ap (λ (l : List ℕ). length l) header_laid ∙ laid_long out 0 header ∙ long

        pub can_run : Runs steps x.n out₁ at
        can_run =
            let allowed = opens_says x.n x.m x.mode so.can_open in
            record {
              some_desks = allowed.desks_least;
              few_desks = allowed.desks_most;
              few_lines = omega (arith, few_lines, so.lines);
              room = omega (arith, near, few_lines, so.lines, out_long);
            }

        pub played : (out₂ : List ℕ) (r : ℕ) → Ran (run_of steps x) out₁ at out₂ r → Prints (printed input) out out₂ r
        played out₂ r ran =
            let all : List ℕ = run_of steps x in
            let r_is : r ≡ length (header ++ all) = omega (arith, ran.ends, header_end, length-append header all) in
            by_text (shelf_text steps x) (by_lines ∙ so.text) out₂ r
            (record {
              bytes =
                  ran.bytes
                  ∙ ap (λ (l : List ℕ). laid_over l at all) header_laid
                  ∙ ap (λ (z : ℕ). laid_over (laid_over out 0 header) z all) header_end
                  ∙ laid_behind out 0 header all (omega (arith, header_end, ran.ends, ran.room, out_long, long))
                  ∙ ap (λ (f : ℕ). laid_over out 0 (header_text x.n x.m f ++ all)) so.in_force;
              long = r_is ∙ ap (λ (f : ℕ). length (header_text x.n x.m f ++ all)) so.in_force;
              room = omega (arith, ran.room, ap (λ (l : List ℕ). length l) ran.bytes ∙ laid_long out₁ at all);
            })

pub ruleset plays = (played_long, played_bad, can_run, played)
