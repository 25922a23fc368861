-- The first line of a text.
--   firsts                    a set for `search`: what `first_line` finds
--   first_bad, first_says     a set for `search`: what `first_step` finds of a line
--   some_line                 a text with bytes has a line
-- Assumes nothing.
use Rattle.std.proofs.Common as std
use Rattle.std.proofs.Common.{Some, None}
use Prim.Native.Nat.{ℕ, ◌+◌, ◌-◌, ◌<◌, ◌≤◌}
use mathlib.Core.Path.{◌≡◌, refl, sym, ap, ◌∙◌, subst}
use mathlib.Core.Bool.{Bool, true, false}
use mathlib.Core.List.{List, [], ◌∷◌}
use native.Mathlib.Omega.{arith}
use lib.Dec.{ltb}
use lib.ListN.{length, take, drop, length-drop}
use lib.Seq.{take_all}
use borrow.Author.Tests.{ltb-true, ltb-false}
use Rattle.text.specs.Separated.{first_part, line_feed}
use Rattle.text.proofs.Laws.Parts.{part_within}
use Rattle.schedule.specs.Lines.{Line, ended, cut, last_line, lines_of}
use Rattle.schedule.specs.Step.{step_in, said_step}
use Rattle.schedule.specs.declared.Step as declared
use Rattle.schedule.proofs.Laws.Lines.{no_lines, line_taken, line_ended, line_cut}
use Rattle.lines.proofs.Steps.{no_step_of_cut}
use Rattle.play.specs.Parts.Lines.{NoneEnded, FirstLine, said, BadFirst, FirstStep}

module _ (text : List ℕ) (end : ℕ) (ends : end ≡ 0 + length (first_part line_feed (drop 0 text))) where
  pub end_within : end ≤ length text
  end_within = let at_most = part_within line_feed text 0 (omega arith) in omega arith

  pub none_ended : length text ≤ end → NoneEnded text
  none_ended h = by_bytes text refl
    where
      by_bytes : (l : List ℕ) → text ≡ l → lines_of text ≡ last_line text
      by_bytes [] e = rw e no_lines
      by_bytes (b ∷ bs) e =
          line_cut text 0 (omega (arith, ap (λ (l : List ℕ). length l) e)) (omega (arith, end_within))
          ∙ ap (λ (l : List ℕ). cut l ∷ []) e
          ∙ ap last_line (sym e)

  pub first_ended : end < length text → FirstLine text (take end text) (drop (end + 1) text)
  first_ended h =
      let all : end - 0 ≡ end = omega arith in
      record {
        lines =
            line_ended text 0 (omega arith)
            ∙ ap (λ (l : List ℕ). ended l ∷ lines_of (drop (0 + length (first_part line_feed (drop 0 text)) + 1) text)) (line_taken text 0)
            ∙ ap (λ (e : ℕ). ended (take (e - 0) (drop 0 text)) ∷ lines_of (drop (e + 1) text)) (sym ends)
            ∙ ap (λ (e : ℕ). ended (take e text) ∷ lines_of (drop (end + 1) text)) all;
        shorter = omega (arith, length-drop (end + 1) text);
      }

  -- as the code cuts it
  pub first_cut : end < length text → FirstLine text (take end text) (take (length text - (end + 1)) (drop (end + 1) text))
  first_cut h =
      subst (FirstLine text (take end text)) (sym (take_all (length text - (end + 1)) (drop (end + 1) text) (omega (arith, length-drop (end + 1) text)))) (first_ended h)

pub ruleset firsts = (none_ended, first_cut)

-- ---- its step

module _ (n : ℕ) (text : List ℕ) where
  pub bad_cut : NoneEnded text → BadFirst n (lines_of text)
  bad_cut e = rw e (by_bytes text)
    where
      by_bytes : (l : List ℕ) → BadFirst n (last_line l)
      by_bytes [] = tt
      by_bytes (b ∷ bs) = no_step_of_cut n (b ∷ bs)

  module _ (line rest : List ℕ) (first : FirstLine text line rest) (s : std.Option declared.Step) (says : said_step s ≡ step_in n (ended line)) where
    pub first_bad : s ≡ None → BadFirst n (lines_of text)
    first_bad e = rw first.lines (sym says ∙ ap said_step e)

    pub first_says : (step : declared.Step) → s ≡ Some step → FirstStep n text (said step) rest
    first_says step e = record { line = ended line; says = sym says ∙ ap said_step e; lines = first.lines; shorter = first.shorter }

pub ruleset first_steps = (bad_cut, first_bad, first_says)

-- ---- how many there are

pub some_line : (text : List ℕ) → 0 < length text → 1 ≤ length (lines_of text)
some_line text h = by_test (ltb end (length text)) refl
  where
    end : ℕ
    end = 0 + length (first_part line_feed (drop 0 text))

    by_test : (b : Bool) → ltb end (length text) ≡ b → 1 ≤ length (lines_of text)
    by_test true t = let more = ap (λ (ls : List Line). length ls) (first_ended text end refl (ltb-true end (length text) t)).lines in omega arith
    by_test false t =
        let last = ap (λ (ls : List Line). length ls) (line_cut text 0 h (omega (arith, end_within text end refl, ltb-false end (length text) t))) in omega arith
