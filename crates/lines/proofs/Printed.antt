-- What `rounds` prints of a step can be read back, so no two lines are printed alike (specs/Printed.antt).
--   lines_printed_apart : LinesPrintedApart
--   contents_printed_apart : ContentsPrintedApart
--   never_alike : NeverAlike
--   said_step_answer_tells_apart : StepAnswersApart (specs/Promises.antt)
-- What an answer carries is read off the front of its words, number by number (`number_then`) and content by content (`content_or`), and the first word
-- says which answer it is (`by_word`).
-- Assumes nothing.
use mathlib.Core.Path.{◌≡◌, refl, sym, ap, ◌∙◌}
use mathlib.Core.List.{List, [], ◌∷◌, ◌++◌, append_assoc}
use mathlib.Core.Bool.{true, cond}
use mathlib.Core.Option.{Option, none, some}
use Prim.Native.Nat.{ℕ}
use native.Mathlib.Omega.{arith}
use lib.ListN.{length, get_or, drop}
use lib.Seq.{drop-append_seam}
use Rattle.std.specs.Prelude.{Result, Ok, Err}
use Rattle.answer.specs.Answer.{Answer, refused, answered}
use Rattle.answer.proofs.Laws as answers
use Rattle.content.specs.declared.Content.{Content}
use Rattle.content.specs.declared.Content.TheVariants.{Blank, Open, Day}
use Rattle.desk.specs.declared.Answer as desk_answer
use Rattle.desk.specs.Answers.{Value, opened, stored, holds, waits, sent, held, taken}
use Rattle.desk.proofs.Laws.Answers.{answering, found}
use Rattle.text.specs.Text.{text}
use Rattle.text.specs.Separated.{parts, first_part, line_feed, space}
use Rattle.text.specs.Decimal.{value, decimal, signed_decimal}
use Rattle.schedule.specs.Words.{is, content_of_word}
use Rattle.printing.specs.declared.StepAnswer.TheVariants as cases
use Rattle.printing.specs.StepAnswer.{StepAnswer, of_call, nothing_sent, bad_line, told_answer}
use Rattle.printing.specs.Printing.{content_text, waited_text, step_answer_text, line_text}
use Rattle.lines.specs.Line.{spaced}
use Rattle.lines.specs.Promises.{StepAnswersApart}
use Rattle.lines.specs.Printed.{Of32Bits, ContentFits, WaitedFits, AnswerFits, NeverAlike, ContentsPrintedApart, LinesPrintedApart}
use Rattle.lines.proofs.Words.{apart, all_free, words_ended, number_back, number_free, content_said}

-- ---- what the words of a line say

-- a number off the front, and the words behind it
number_then : (ℕ → List (List ℕ) → StepAnswer) → List (List ℕ) → StepAnswer
number_then f [] = bad_line
number_then f (w ∷ ws) = f (value w) ws

day_then : (Content → StepAnswer) → List (List ℕ) → StepAnswer
day_then f [] = bad_line
day_then f (w ∷ ws) = f (content_of_word w)

-- a content, or words that begin with none
content_or : (Content → StepAnswer) → (List ℕ → List (List ℕ) → StepAnswer) → List (List ℕ) → StepAnswer
content_or f g [] = bad_line
content_or f g (w ∷ ws) = cond (is "blank" w) (f Blank) (cond (is "open" w) (f Open) (cond (is "day" w) (day_then f ws) (g w ws)))

abbrev answers_with : Value → StepAnswer
answers_with v = of_call (answered v)

taken_then : (turn entries applied : ℕ) → List (List ℕ) → StepAnswer
taken_then turn entries applied =
    content_or (λ c. answers_with (taken turn entries applied (some c))) (λ w ws. answers_with (taken turn entries applied none))

by_word : List ℕ → List (List ℕ) → StepAnswer
by_word w ws =
    cond (is "refused" w) (number_then (λ k rest. of_call (refused k)) ws)
    (cond (is "opened" w) (answers_with opened)
    (cond (is "stored" w) (answers_with stored)
    (cond (is "waits" w) (answers_with waits)
    (cond (is "sent" w) (number_then (λ turn. number_then (λ entries rest. answers_with (sent turn entries))) ws)
    (cond (is "held" w) (answers_with held)
    (cond (is "taken" w) (number_then (λ turn. number_then (λ entries. number_then (λ applied. taken_then turn entries applied))) ws)
    (cond (is "nothing" w) nothing_sent bad_line)))))))

answer_back : List (List ℕ) → StepAnswer
answer_back = content_or (λ c. answers_with (holds c)) by_word

-- ---- an answer is found again

-- the text is words without spaces, of which this is so
record Printed (its_text : List ℕ) (So : List (List ℕ) → Type 0) : Type 0 where
  pub first : List ℕ
  pub rest : List (List ℕ)
  pub text_is : its_text ≡ spaced (first ∷ rest)
  pub words_free : all_free (first ∷ rest) ≡ true
  pub says : So (first ∷ rest)

so_too : {x : List ℕ} {So Too : List (List ℕ) → Type 0} → ((ws : List (List ℕ)) → So ws → Too ws) → Printed x So → Printed x Too
so_too f p =
    record {
      first = p.first;
      rest = p.rest;
      text_is = p.text_is;
      words_free = p.words_free;
      says = f (p.first ∷ p.rest) p.says;
    }

-- a content, wherever it is printed
abbrev SaysContent : Content → List (List ℕ) → Type 0
SaysContent c ws = (f : Content → StepAnswer) (g : List ℕ → List (List ℕ) → StepAnswer) → content_or f g ws ≡ f c

content_printed : (c : Content) → ContentFits c → Printed (content_text c) (SaysContent c)
unfolding content_or day_then is
content_printed Blank fits = record { first = text "blank"; rest = []; text_is = refl; words_free = refl; says = λ f g. refl }
content_printed Open fits = record { first = text "open"; rest = []; text_is = refl; words_free = refl; says = λ f g. refl }
content_printed (Day d) fits =
    let said = content_said (Day d) fits (λ e. apart (cc)) in
    record {
      first = text "day";
      rest = signed_decimal d ∷ [];
      text_is = refl;
      words_free = rw said.without_spaces;
      says = λ f g. ap f said.same_content;
    }

-- a content that was waited for, or `-`
abbrev SaysWaited : Option Content → List (List ℕ) → Type 0
SaysWaited o ws = (turn entries applied : ℕ) → taken_then turn entries applied ws ≡ answers_with (taken turn entries applied o)

waited_printed : (o : Option Content) → WaitedFits o → Printed (waited_text o) (SaysWaited o)
unfolding taken_then content_or is
waited_printed none fits = record { first = text "-"; rest = []; text_is = refl; words_free = refl; says = λ turn entries applied. refl }
waited_printed (some c) fits =
    so_too
    (λ ws says turn entries applied. says (λ c. answers_with (taken turn entries applied (some c))) (λ w ws. answers_with (taken turn entries applied none)))
    (content_printed c fits)

abbrev Says : StepAnswer → List (List ℕ) → Type 0
Says a ws = answer_back ws ≡ a

alone : (a : StepAnswer) (w : List ℕ) → step_answer_text a ≡ w → all_free (w ∷ []) ≡ true → Says a (w ∷ []) → Printed (step_answer_text a) (Says a)
alone a w its free says = record { first = w; rest = []; text_is = its; words_free = free; says = says }

four : (a b c d : List ℕ) → a ++ b ++ c ++ d ≡ a ++ (b ++ (c ++ d))
four a b c d = simp append_assoc

eight : (a b c d e f g h : List ℕ) → a ++ b ++ c ++ d ++ e ++ f ++ g ++ h ≡ a ++ (b ++ (c ++ (d ++ (e ++ (f ++ (g ++ h))))))
eight a b c d e f g h = simp append_assoc

printed : (a : StepAnswer) → AnswerFits a → Printed (step_answer_text a) (Says a)
unfolding answer_back content_or by_word number_then is
printed (of_call (refused k)) fits =
    record {
      first = text "refused";
      rest = decimal k ∷ [];
      text_is = refl;
      words_free = rw (number_free k fits);
      says = rw (number_back k fits).same_number;
    }
printed (of_call (answered opened)) fits = alone _ (text "opened") refl refl refl
printed (of_call (answered stored)) fits = alone _ (text "stored") refl refl refl
printed (of_call (answered (holds c))) fits = so_too (λ ws says. says (λ c. answers_with (holds c)) by_word) (content_printed c fits)
printed (of_call (answered waits)) fits = alone _ (text "waits") refl refl refl
printed (of_call (answered (sent turn entries))) fits =
    record {
      first = text "sent";
      rest = decimal turn ∷ decimal entries ∷ [];
      text_is = four (text "sent ") (decimal turn) (text " ") (decimal entries);
      words_free = rw (number_free turn fits.0, number_free entries fits.1);
      says = rw ((number_back turn fits.0).same_number, (number_back entries fits.1).same_number);
    }
printed (of_call (answered held)) fits = alone _ (text "held") refl refl refl
printed (of_call (answered (taken turn entries applied waited))) fits =
    let said = waited_printed waited fits.3 in
    record {
      first = text "taken";
      rest = decimal turn ∷ decimal entries ∷ decimal applied ∷ said.first ∷ said.rest;
      text_is =
          rw said.text_is
          (eight (text "taken ") (decimal turn) (text " ") (decimal entries) (text " ") (decimal applied) (text " ") (spaced (said.first ∷ said.rest)));
      words_free = rw (number_free turn fits.0, number_free entries fits.1, number_free applied fits.2) said.words_free;
      says =
          rw ((number_back turn fits.0).same_number, (number_back entries fits.1).same_number, (number_back applied fits.2).same_number)
          (said.says turn entries applied);
    }
printed nothing_sent fits = record { first = text "nothing"; rest = text "sent" ∷ []; text_is = refl; words_free = refl; says = refl }
printed bad_line fits = record { first = text "bad"; rest = text "line" ∷ []; text_is = refl; words_free = refl; says = refl }

-- ---- a line is found again, whatever stands behind it

-- the words of its first line
line_words : List ℕ → List (List ℕ)
line_words l = parts space (first_part line_feed l)

number_in : List (List ℕ) → ℕ
number_in [] = 0
number_in (w ∷ ws) = value w

answer_in : List (List ℕ) → StepAnswer
answer_in [] = bad_line
answer_in (w ∷ ws) = answer_back ws

line_put : (number answer rest : List ℕ) → number ++ text " " ++ answer ++ text "\n" ++ rest ≡ number ++ space ∷ answer ++ line_feed ∷ rest
line_put number answer rest = simp append_assoc

module _ (k : ℕ) (a : StepAnswer) (rest : List ℕ) (k_fits : Of32Bits k) (a_fits : AnswerFits a) where
  said : Printed (step_answer_text a) (Says a)
  said = printed a a_fits

  words_are : line_words (line_text k a ++ rest) ≡ decimal k ∷ said.first ∷ said.rest
  unfolding line_words line_text
  words_are =
      rw (said.text_is, line_put (decimal k) (spaced (said.first ∷ said.rest)) rest)
      (words_ended (decimal k) (said.first ∷ said.rest) rest (rw (number_free k k_fits) said.words_free))

  number_found : number_in (line_words (line_text k a ++ rest)) ≡ k
  unfolding number_in
  number_found = ap number_in words_are ∙ (number_back k k_fits).same_number

  answer_found : answer_in (line_words (line_text k a ++ rest)) ≡ a
  unfolding answer_in
  answer_found = ap answer_in words_are ∙ said.says

same_found : {A : Type 0} (find : List ℕ → A) {x y : A} {l m : List ℕ} → find l ≡ x → find m ≡ y → l ≡ m → x ≡ y
same_found find x_found y_found e = sym x_found ∙ ap find e ∙ y_found

same_behind : (l m rest other : List ℕ) → l ≡ m → l ++ rest ≡ m ++ other → rest ≡ other
same_behind l m rest other same e =
    same_found (drop (length l)) (drop-append_seam l rest) (ap (λ (x : List ℕ). drop (length x) (m ++ other)) same ∙ drop-append_seam m other) e

pub lines_printed_apart : LinesPrintedApart
lines_printed_apart k j a b rest other k_fits j_fits a_fits b_fits e =
    let number = same_found (λ l. number_in (line_words l)) (number_found k a rest k_fits a_fits) (number_found j b other j_fits b_fits) e in
    let answer = same_found (λ l. answer_in (line_words l)) (answer_found k a rest k_fits a_fits) (answer_found j b other j_fits b_fits) e in
    (number, answer, same_behind (line_text k a) (line_text j b) rest other (rw (number, answer)) e)

pub contents_printed_apart : ContentsPrintedApart
unfolding line_text
contents_printed_apart a b a_fits b_fits e =
    let lines = lines_printed_apart 0 0 (answers_with (holds a)) (answers_with (holds b)) [] [] (omega arith) (omega arith) a_fits b_fits (rw e) in
    let same : answers_with (holds a) ≡ answers_with (holds b) = lines.1 in
    cc

-- ---- by the first byte

pub never_alike : NeverAlike
never_alike =
    record {
      blank_is_not_open = λ e. omega (arith, first _ _ e);
      blank_is_no_day = λ d e. omega (arith, first _ _ e);
      open_is_no_day = λ d e. omega (arith, first _ _ e);
    }
  where
    first : (a b : List ℕ) → a ≡ b → get_or a 0 0 ≡ get_or b 0 0
    first a b e = ap (λ (l : List ℕ). get_or l 0 0) e

-- ---- the code's enum

-- a call's answer is found by what is told of it
answer_told : Answer Value → Result desk_answer.Answer ℕ
answer_told (answered v) = Ok (answering v)
answer_told (refused k) = Err k

told_back : (r : Result desk_answer.Answer ℕ) → answer_told (told_answer r) ≡ r
unfolding answer_told
told_back (Ok a) = ap Ok (found a)
told_back (Err k) = refl

pub said_step_answer_tells_apart : StepAnswersApart
said_step_answer_tells_apart (cases.OfCall a) (cases.OfCall b) e = ap cases.OfCall (answers.apart told_answer answer_told told_back (same_answer (told_answer a) (told_answer b) e))
  where
    same_answer : (x y : Answer Value) → of_call x ≡ of_call y → x ≡ y
    same_answer x y e = cc
said_step_answer_tells_apart (cases.OfCall a) cases.NothingSent e = apart (cc)
said_step_answer_tells_apart (cases.OfCall a) cases.BadLine e = apart (cc)
said_step_answer_tells_apart cases.NothingSent (cases.OfCall b) e = apart (cc)
said_step_answer_tells_apart cases.NothingSent cases.NothingSent e = refl
said_step_answer_tells_apart cases.NothingSent cases.BadLine e = apart (cc)
said_step_answer_tells_apart cases.BadLine (cases.OfCall b) e = apart (cc)
said_step_answer_tells_apart cases.BadLine cases.NothingSent e = apart (cc)
said_step_answer_tells_apart cases.BadLine cases.BadLine e = refl
