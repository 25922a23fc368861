-- A line says a step exactly if it is the line of a step within the limits (specs/Promises.antt).
--   steps_are_in_range : StepsAreInRange
--   one_line_per_step : OneLinePerStep
--   every_step_has_a_line : EveryStepHasALine
--   no_step_of_cut           a cut line says none
--   said_act_tells_apart : ActsApart
--   said_step_tells_apart : StepsApart
-- Assumes nothing.
use Rattle.std.proofs.Common as std
use Rattle.std.proofs.Common.{None, Some}
use mathlib.Core.Path.{◌≡◌, refl, sym, ap, ◌∙◌, subst}
use mathlib.Core.List.{List, [], ◌∷◌}
use mathlib.Core.Bool.{Bool, true, false, cond, ◌&&◌}
use mathlib.Core.Option.{Option, none, some}
use Prim.Native.Nat.{ℕ, ◌<◌, ◌≤◌}
use Prim.Native.String.{String}
use native.Mathlib.Omega.{arith}
use Rattle.answer.proofs.Laws as answer
use Rattle.text.specs.Text.{text}
use Rattle.text.specs.Decimal.{value, decimal}
use Rattle.numbers.proofs.Tests.{and_split}
use Rattle.schedule.specs.Lines.{Line, ended, cut}
use Rattle.schedule.specs.Words.{words, is, is_number, is_desk, is_content_word, content_of_word}
use Rattle.content.specs.declared.Content.{Content}
use Rattle.schedule.specs.declared.Act as declared_act
use Rattle.schedule.specs.declared.Act.TheVariants as act
use Rattle.schedule.specs.declared.Step as declared_step
use Rattle.schedule.specs.Step.{Act, writes, reads, sends, delivers, takes, Step, write_in, read_in, deliver_in, desk_in, step_of, step_in, said_act, said_step}
use Rattle.lines.specs.Line.{spaced, content_word, words_by, step_line}
use Rattle.lines.specs.Promises.{StepInRange, StepsAreInRange, OneLinePerStep, EveryStepHasALine, ActsApart, StepsApart}
use Rattle.lines.proofs.Words.{apart, all_free, words_spaced, spaced_words, word_is, number_most, number_word, desk_below, desk_word, number_back, number_free, number_said, desk_said, content_read, content_said}

-- ---- read

-- these words say the step: it is within the limits, and they are its words
record Tells (n : ℕ) (ws : List (List ℕ)) (step : Step) : Type 0 where
  pub in_range : StepInRange n step
  pub words_are : ws ≡ words_by step.desk step.act

module _ (n : ℕ) (step : Step) (l : List ℕ) where
  nothing : (ws : List (List ℕ)) → none ≡ some step → Tells n ws step
  nothing ws e = apart (cc)

  if_so : (ws : List (List ℕ)) (t : Bool) (x : Step) → (t ≡ true → Tells n ws x) → cond t (some x) none ≡ some step → Tells n ws step
  if_so ws true x tells e = let same : x ≡ step = cc in subst (Tells n ws) same (tells refl)
  if_so ws false x tells e = nothing ws e

  write_tells : is "w" l ≡ true → (ws : List (List ℕ)) → write_in n ws ≡ some step → Tells n (l ∷ ws) step
  write_tells w [] e = nothing _ e
  write_tells w (p ∷ []) e = nothing _ e
  write_tells w (p ∷ cell ∷ []) e = nothing _ e
  write_tells w (p ∷ cell ∷ c ∷ []) e =
      if_so _ (is_desk n p && (is_number cell && is_content_word c)) (record { desk = value p; act = writes (value cell) (content_of_word c) }) (λ t.
      let parts = and_split (is_desk n p) (is_number cell && is_content_word c) t in
      let others = and_split (is_number cell) (is_content_word c) parts.1 in
      let content = content_read c others.1 in
      record {
        in_range =
            record {
              desk = desk_below n p parts.0;
              sender = λ q s. apart (cc);
              cell_written = λ k x s. let same : value cell ≡ k = cc in omega (arith, number_most cell others.0);
              cell_read = λ k s. apart (cc);
              day = λ k x s. let same : content_of_word c ≡ x = cc in rw same at content.fits;
              not_blank = λ k x s b. content.not_blank (cc);
            };
        words_are = cc (word_is "w" l w, desk_word n p parts.0, number_word cell others.0, content.written);
      }) e
  write_tells w (p ∷ cell ∷ c ∷ word ∷ ws) e = nothing _ e

  read_tells : is "r" l ≡ true → (ws : List (List ℕ)) → read_in n ws ≡ some step → Tells n (l ∷ ws) step
  read_tells r [] e = nothing _ e
  read_tells r (p ∷ []) e = nothing _ e
  read_tells r (p ∷ cell ∷ []) e =
      if_so _ (is_desk n p && is_number cell) (record { desk = value p; act = reads (value cell) }) (λ t.
      let both = and_split (is_desk n p) (is_number cell) t in
      record {
        in_range =
            record {
              desk = desk_below n p both.0;
              sender = λ q s. apart (cc);
              cell_written = λ k x s. apart (cc);
              cell_read = λ k s. let same : value cell ≡ k = cc in omega (arith, number_most cell both.1);
              day = λ k x s. apart (cc);
              not_blank = λ k x s b. apart (cc);
            };
        words_are = cc (word_is "r" l r, desk_word n p both.0, number_word cell both.1);
      }) e
  read_tells r (p ∷ cell ∷ word ∷ ws) e = nothing _ e

  deliver_tells : is "d" l ≡ true → (ws : List (List ℕ)) → deliver_in n ws ≡ some step → Tells n (l ∷ ws) step
  deliver_tells d [] e = nothing _ e
  deliver_tells d (q ∷ []) e = nothing _ e
  deliver_tells d (q ∷ p ∷ []) e =
      if_so _ (is_desk n q && is_desk n p) (record { desk = value p; act = delivers (value q) }) (λ t.
      let both = and_split (is_desk n q) (is_desk n p) t in
      record {
        in_range =
            record {
              desk = desk_below n p both.1;
              sender = λ k s. let same : value q ≡ k = cc in omega (arith, desk_below n q both.0);
              cell_written = λ k x s. apart (cc);
              cell_read = λ k s. apart (cc);
              day = λ k x s. apart (cc);
              not_blank = λ k x s b. apart (cc);
            };
        words_are = cc (word_is "d" l d, desk_word n q both.0, desk_word n p both.1);
      }) e
  deliver_tells d (q ∷ p ∷ word ∷ ws) e = nothing _ e

  -- "`s` desk", "`t` desk"
  act_tells : (letter : String) (a : Act) → is letter l ≡ true → ((p : ℕ) → p < n → StepInRange n (record { desk = p; act = a }))
      → ((p : ℕ) → words_by p a ≡ text letter ∷ decimal p ∷ []) → (ws : List (List ℕ)) → desk_in n a ws ≡ some step → Tells n (l ∷ ws) step
  act_tells letter a t range words [] e = nothing _ e
  act_tells letter a t range words (p ∷ []) e =
      if_so _ (is_desk n p) (record { desk = value p; act = a }) (λ there.
      record {
        in_range = range (value p) (desk_below n p there);
        words_are = cc (word_is letter l t, desk_word n p there, words (value p));
      }) e
  act_tells letter a t range words (p ∷ word ∷ ws) e = nothing _ e

  -- a step that names no sender and no cell
  plain_range : (a : Act) → ((q : ℕ) → a ≡ delivers q → ⊥) → ((k : ℕ) (x : Content) → a ≡ writes k x → ⊥) → ((k : ℕ) → a ≡ reads k → ⊥)
      → (p : ℕ) → p < n → StepInRange n (record { desk = p; act = a })
  plain_range a no_sender no_write no_read p h =
      record {
        desk = h;
        sender = λ q s. absurd (no_sender q s);
        cell_written = λ k x s. absurd (no_write k x s);
        cell_read = λ k s. absurd (no_read k s);
        day = λ k x s. absurd (no_write k x s);
        not_blank = λ k x s b. no_write k x s;
      }

  send_range : (p : ℕ) → p < n → StepInRange n (record { desk = p; act = sends })
  send_range = plain_range sends (λ q s. apart (cc)) (λ k x s. apart (cc)) (λ k s. apart (cc))

  take_range : (p : ℕ) → p < n → StepInRange n (record { desk = p; act = takes })
  take_range = plain_range takes (λ q s. apart (cc)) (λ k x s. apart (cc)) (λ k s. apart (cc))

  either : (ws : List (List ℕ)) (t : Bool) (x y : Option Step) → (t ≡ true → x ≡ some step → Tells n ws step) → (y ≡ some step → Tells n ws step)
      → cond t x y ≡ some step → Tells n ws step
  either ws true x y one other e = one refl e
  either ws false x y one other e = other e

  tells_of : (ws : List (List ℕ)) → step_of n (l ∷ ws) ≡ some step → Tells n (l ∷ ws) step
  tells_of ws e =
      either _ (is "w" l) _ _ (λ t. write_tells t ws)
      (either _ (is "r" l) _ _ (λ t. read_tells t ws)
      (either _ (is "s" l) _ _ (λ t. act_tells "s" sends t send_range (λ p. refl) ws)
      (either _ (is "d" l) _ _ (λ t. deliver_tells t ws)
      (either _ (is "t" l) _ _ (λ t. act_tells "t" takes t take_range (λ p. refl) ws) (nothing _))))) e

module _ (n : ℕ) (step : Step) where
  tells : (ws : List (List ℕ)) → step_of n ws ≡ some step → Tells n ws step
  tells [] e = apart (cc)
  tells (l ∷ ws) e = tells_of n step l ws e

  record TellsIn (l : Line) : Type 0 where
    pub in_range : StepInRange n step
    pub line_is : l ≡ ended (step_line step)

  tells_in : (l : Line) → step_in n l ≡ some step → TellsIn l
  unfolding step_in
  tells_in (ended line) e =
      let so = tells (words line) e in
      record { in_range = so.in_range; line_is = ap ended (sym (spaced_words line) ∙ ap spaced so.words_are) }
  tells_in (cut line) e = apart (cc)

pub steps_are_in_range : StepsAreInRange
steps_are_in_range n l step says = (tells_in n step l says).in_range

pub one_line_per_step : OneLinePerStep
one_line_per_step n l step says = (tells_in n step l says).line_is

-- "A last line without it counts as a line, of another form."
pub no_step_of_cut : (n : ℕ) (line : List ℕ) → step_in n (cut line) ≡ none
unfolding step_in
no_step_of_cut n line = refl

-- ---- written

module _ (n : ℕ) (few : n ≤ 4294967296) where
  small : (p : ℕ) → p < n → p ≤ 4294967295
  small p there = omega arith

  -- what words say, their line says
  by_words : (w : List ℕ) (ws : List (List ℕ)) (o : Option Step) → all_free (w ∷ ws) ≡ true → step_of n (w ∷ ws) ≡ o → step_in n (ended (spaced (w ∷ ws))) ≡ o
  unfolding step_in
  by_words w ws o t e = ap (step_of n) (words_spaced w ws t) ∙ e

  reads_back : (p : ℕ) (a : Act) → StepInRange n (record { desk = p; act = a }) → step_in n (ended (spaced (words_by p a))) ≡ some (record { desk = p; act = a })
  unfolding is
  reads_back p (writes k c) range =
      let l = small p range.desk in
      let m : k ≤ 4294967295 = omega (arith, range.cell_written k c refl) in
      let said = content_said c (range.day k c refl) (range.not_blank k c refl) in
      by_words (text "w") (decimal p ∷ decimal k ∷ content_word c ∷ []) _
      (rw (number_free p l, number_free k m, said.without_spaces))
      (rw (desk_said p l n range.desk, number_said k m, said.is_content, (number_back p l).same_number, (number_back k m).same_number, said.same_content))
  reads_back p (reads k) range =
      let l = small p range.desk in
      let m : k ≤ 4294967295 = omega (arith, range.cell_read k refl) in
      by_words (text "r") (decimal p ∷ decimal k ∷ []) _
      (rw (number_free p l, number_free k m))
      (rw (desk_said p l n range.desk, number_said k m, (number_back p l).same_number, (number_back k m).same_number))
  reads_back p sends range =
      let l = small p range.desk in
      by_words (text "s") (decimal p ∷ []) _ (rw (number_free p l)) (rw (desk_said p l n range.desk, (number_back p l).same_number))
  reads_back p (delivers q) range =
      let l = small p range.desk in
      let there = range.sender q refl in
      let m = small q there in
      by_words (text "d") (decimal q ∷ decimal p ∷ []) _
      (rw (number_free q m, number_free p l))
      (rw (desk_said q m n there, desk_said p l n range.desk, (number_back q m).same_number, (number_back p l).same_number))
  reads_back p takes range =
      let l = small p range.desk in
      by_words (text "t") (decimal p ∷ []) _ (rw (number_free p l)) (rw (desk_said p l n range.desk, (number_back p l).same_number))

pub every_step_has_a_line : EveryStepHasALine
every_step_has_a_line n step few range = reads_back n few step.desk step.act range

-- ---- the code's enum, and its struct

acting : Act → declared_act.Act
acting (writes cell c) = act.Write cell c
acting (reads cell) = act.Read cell
acting sends = act.Send
acting (delivers q) = act.Deliver q
acting takes = act.Take

act_found : (a : declared_act.Act) → acting (said_act a) ≡ a
unfolding acting
act_found (act.Write cell c) = refl
act_found (act.Read cell) = refl
act_found act.Send = refl
act_found (act.Deliver q) = refl
act_found act.Take = refl

pub said_act_tells_apart : ActsApart
said_act_tells_apart a b = answer.apart said_act acting act_found

stepping : Option Step → std.Option declared_step.Step
stepping none = None
stepping (some x) = Some (record { desk = x.desk; act = acting x.act })

step_found : (a : std.Option declared_step.Step) → stepping (said_step a) ≡ a
unfolding stepping
step_found None = refl
step_found (Some step) = rw (act_found step.act)

pub said_step_tells_apart : StepsApart
said_step_tells_apart a b = answer.apart said_step stepping step_found
