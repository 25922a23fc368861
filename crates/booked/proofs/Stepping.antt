-- What specs/Stepping.antt states of a step, and of stepping back through a book.
--   step_gives : StepGives step_back, step_none : StepNone step_back
--   none_at_the_front : NoneAtTheFront step_back, after_a_step : AfterAStep place_after
--   steps_through : StepsThrough step_back place_after
--   steps_once : StepsOnce
-- Assumes nothing.
use mathlib.Core.Path.{◌≡◌, refl, sym, ap, ◌∙◌, subst}
use mathlib.Core.Bool.{true}
use mathlib.Core.List.{List, [], ◌∷◌, ◌++◌, append_assoc, append-nil}
use Prim.Native.Nat.{ℕ, ◌+◌, ◌-◌}
use native.Mathlib.Omega.{arith}
use lib.ListN.{length, take, drop, length-append, length-take}
use lib.Seq.{take-add, length-take-le, drop-append_seam, take_at}
use Rattle.std.specs.Prelude.{Option, Some, None}
use Rattle.std.proofs.lemmas.Option.{none-some, same_Some}
use Rattle.numbers.proofs.Tests.{tested}
use Rattle.sheet.specs.Good.{good}
use Rattle.sheet.proofs.Laws.Good.{good_is_long}
use Rattle.book.specs.declared.Back.{Back}
use Rattle.book.specs.Sheets.{last_start, last_sheet, end_to_end}
use Rattle.book.specs.Good.{numbers_in, every_sheet}
use Rattle.book.specs.Stepping.{part_of, step_back, place_after}
use Rattle.book.proofs.Laws.Sheets.{start_behind}
use Rattle.book.proofs.Laws.Stepping.{back, part_is, step_sheet, stepped}
use Rattle.booked.specs.Stepping.{SheetEndsAt, StepGives, StepNone, NoneAtTheFront, AfterAStep, GivesBack, none_comes, one_back, StepsThrough, StepsOnce}

-- ---- one step

module _ (b : List ℕ) (place start : ℕ) (ends : SheetEndsAt b place start) where
  -- up to the place, a good sheet that ends there is the last
  start_is : last_start (take place b) ≡ start
  start_is =
      let whole : place ≡ start + (place - start) = omega (arith, ends.starts_before) in
      ap (λ (i : ℕ). last_start (take i b)) whole
      ∙ ap last_start (take-add start (place - start) b)
      ∙ start_behind (take start b) (part_of b start place) ends.is_good
      ∙ length-take-le start b (omega (arith, ends.starts_before, ends.in_book))

  gives_it : step_back b place ≡ back start place (numbers_in (part_of b start place))
  gives_it =
      let same : last_sheet (take place b) ≡ part_of b start place = part_is b place ends.in_book ∙ ap (λ (i : ℕ). part_of b i place) start_is in
      step_sheet b place ends.in_book (ap good same ∙ ends.is_good)
      ∙ ap (λ (i : ℕ). back i place (numbers_in (last_sheet (take place b)))) start_is
      ∙ ap (λ (s : List ℕ). back start place (numbers_in s)) same

pub step_gives : StepGives step_back
step_gives b place s = (
  λ e.
      let it = stepped b place (step_back b place) refl s e in
      (record { starts_before = omega (arith, it.starts); in_book = it.within; is_good = it.is_good }, it.ends, it.numbers_are),
  λ given. gives_it b place s.start given.0 ∙ sym (ap (λ (i : ℕ). back s.start i s.numbers) given.1 ∙ ap (back s.start place) given.2),
)

pub step_none : StepNone step_back
step_none b place = (
  λ e start ends. none-some _ (sym e ∙ gives_it b place start ends),
  λ none. by_step none (step_back b place) refl,
)
  where
    by_step : ((start : ℕ) → SheetEndsAt b place start → ⊥) → (r : Option Back) → step_back b place ≡ r → step_back b place ≡ None
    by_step none None e = e
    by_step none (Some s) e = absurd (none s.start ((step_gives b place s).0 e).0)

pub none_at_the_front : NoneAtTheFront step_back
none_at_the_front b =
    (step_none b 0).1
    (λ start ends. omega (arith, good_is_long (part_of b start 0) ends.is_good, length-take (0 - start) (drop start b)))

pub after_a_step : AfterAStep place_after
after_a_step = record { at_its_start = λ s place. refl; where_it_was = λ place. refl }

-- ---- from a place on

-- good sheets end to end, and then other bytes: from the end of those sheets
through : (ss : List (List ℕ)) (rest : List ℕ) → every_sheet good ss ≡ true → GivesBack step_back place_after (end_to_end ss ++ rest) (length (end_to_end ss)) ss
unfolding end_to_end
through [] rest g = none_comes (none_at_the_front rest)
through (s ∷ older) rest g =
    let front = end_to_end older in
    let b = (front ++ s) ++ rest in
    let place = length (front ++ s) in
    let long : place ≡ length front + length s = length-append front s in
    let size : place - length front ≡ length s = omega (arith, long) in
    let part : part_of b (length front) place ≡ s =
    ap (λ (l : List ℕ). take (place - length front) (drop (length front) l)) (append_assoc front s rest)
    ∙ ap (take (place - length front)) (drop-append_seam front (s ++ rest))
    ∙ take_at s rest (place - length front) (sym size)
    in
    let ends : SheetEndsAt b place (length front) =
    record { starts_before = omega (arith, long); in_book = omega (arith, length-append (front ++ s) rest); is_good = ap good part ∙ search tested }
    in
    let further : GivesBack step_back place_after b (length front) older =
    subst (λ (l : List ℕ). GivesBack step_back place_after l (length front) older) (sym (append_assoc front s rest)) (through older (s ++ rest) (search tested))
    in
    subst (λ (l : List ℕ). GivesBack step_back place_after b place (l ∷ older)) part (one_back (gives_it b place (length front) ends) further)

pub steps_through : StepsThrough step_back place_after
steps_through ss g =
    subst (λ (l : List ℕ). GivesBack step_back place_after l (length (end_to_end ss)) ss) (append-nil (end_to_end ss)) (through ss [] g)

once : {step : List ℕ → ℕ → Option Back} {next : Option Back → ℕ → ℕ} {b : List ℕ} {place : ℕ} {ss ts : List (List ℕ)}
    → GivesBack step next b place ss → GivesBack step next b place ts → ss ≡ ts
once (none_comes e) (none_comes f) = refl
once (none_comes e) (one_back {s = s} f t) = absurd (none-some s (sym e ∙ f))
once (one_back {s = s} e t) (none_comes f) = absurd (none-some s (sym f ∙ e))
once {step} {next} {b} {place} (one_back {s = s} {older = older} e t) (one_back {s = s'} {older = older'} f t') =
    let same : Some s' ≡ Some s = sym f ∙ e in
    let rest : older ≡ older' = once t (subst (λ (x : Option Back). GivesBack step next b (next x place) older') same t') in
    ap (λ (x : Back). part_of b x.start x.end ∷ older) (sym (same_Some s' s same)) ∙ ap (λ (l : List (List ℕ)). part_of b s'.start s'.end ∷ l) rest

pub steps_once : StepsOnce
steps_once step next b place ss ts = once
