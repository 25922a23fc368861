-- Laws of `answer` and `leaves` (specs/Answer.antt), the same for every call.
--   answered_only_if, answered_if, changed_if      a call is carried out exactly if no rule applies
--   refused_only_if, refused_if, unchanged_if      it is refused with k exactly if the first rule that applies has the number k, and
--                                                  changes nothing then
--   first_is_some, numbered_both                   of rules that have numbers (specs/Parts.antt): the first that applies has one; and so have more of them
--   gives, gives_such, either_way                  whether the number that is given is such a number, as a test that computes on a list of rules: with
--                                                  `simp` and what is known of some of them, wherever they stand in the list
--   first_that_applies : EveryCallAnswers, refused_changes_nothing : RefusedChangesNothing (specs/Promises.antt)
--   refused_is_not_answered                        a refusal is no other answer
--   apart, again                                   answers have different meanings: shown by a function, mostly `again`, that finds the answer
-- Assumes nothing.
use mathlib.Core.Path.{◌≡◌, refl, sym, ap, ◌∙◌}
use mathlib.Core.Bool.{Bool, true, false, cond}
use mathlib.Core.List.{List, [], ◌∷◌, ◌++◌}
use Prim.Native.Nat.{ℕ}
use native.Mathlib.Omega.{arith}
use Rattle.answer.specs.Parts.{Numbered}
use Rattle.answer.specs.Promises.{Silent, First, this, later, EveryCallAnswers, RefusedChangesNothing}
use Rattle.answer.specs.Answer.{Answer, refused, answered, Rule, answer, leaves}

pub refused_is_not_answered : {A : Type 0} (k : ℕ) (a : A) → refused k ≡ answered a → ⊥
refused_is_not_answered k a e = let z : ◌≡◌ {A = ℕ} 0 1 = cc in omega arith

same_answered : {A : Type 0} (a b : A) → answered a ≡ answered b → a ≡ b
same_answered a b e = cc

same_number : {A : Type 0} (j k : ℕ) (a : A) → ◌≡◌ {A = Answer A} (refused j) (refused k) → j ≡ k
same_number j k a e = cc

-- ---- carried out

pub answered_only_if : {A : Type 0} (rs : List Rule) (a b : A) → answer rs a ≡ answered b → Silent rs × (a ≡ b)
answered_only_if [] a b e = (tt, same_answered a b e)
answered_only_if (r ∷ rs) a b e = by_test (answered_only_if rs a b) r.applies refl
  where
    by_test : (answer rs a ≡ answered b → Silent rs × (a ≡ b)) → (t : Bool) → r.applies ≡ t → Silent (r ∷ rs) × (a ≡ b)
    by_test rest true p = absurd (refused_is_not_answered r.number b (sym (rw p) ∙ e))
    by_test rest false p = let after = rest (sym (rw p) ∙ e) in ((p, after.0), after.1)

pub answered_if : {A : Type 0} (rs : List Rule) (a : A) → Silent rs → answer rs a ≡ answered a
answered_if [] a s = refl
answered_if (r ∷ rs) a s = rw s.0 (answered_if rs a s.1)

pub changed_if : {A : Type 0} (rs : List Rule) (before after : A) → Silent rs → leaves rs before after ≡ after
changed_if [] before after s = refl
changed_if (r ∷ rs) before after s = rw s.0 (changed_if rs before after s.1)

-- ---- refused

pub refused_only_if : {A : Type 0} (rs : List Rule) (a : A) (k : ℕ) → answer rs a ≡ refused k → First k rs
refused_only_if [] a k e = absurd (refused_is_not_answered k a (sym e))
refused_only_if (r ∷ rs) a k e = by_test (refused_only_if rs a k) r.applies refl
  where
    by_test : (answer rs a ≡ refused k → First k rs) → (t : Bool) → r.applies ≡ t → First k (r ∷ rs)
    by_test rest true p = this p (same_number r.number k a (sym (rw p) ∙ e))
    by_test rest false p = later p (rest (sym (rw p) ∙ e))

pub refused_if : {A : Type 0} {k : ℕ} {rs : List Rule} (a : A) → First k rs → answer rs a ≡ refused k
refused_if a (this p n) = rw p (ap refused n)
refused_if a (later p f) = rw p (refused_if a f)

-- "and the record and all lent bytes are as before"
pub unchanged_if : {A : Type 0} {k : ℕ} {rs : List Rule} (before after : A) → First k rs → leaves rs before after ≡ before
unchanged_if before after (this p n) = rw p
unchanged_if before after (later p f) = rw p (unchanged_if before after f)

-- ---- numbered rules

pub first_is_some : {k : ℕ} {rs : List Rule} → Numbered rs → First k rs → k ≡ 0 → ⊥
first_is_some some (this p n) e = let z = n ∙ e in omega (arith, some.0, z)
first_is_some some (later p f) e = first_is_some some.1 f e

pub numbered_both : (rs more : List Rule) → Numbered rs → Numbered more → Numbered (rs ++ more)
numbered_both [] more some rest = rest
numbered_both (r ∷ rs) more some rest = (some.0, numbered_both rs more some.1 rest)

-- ---- which number is given

abbrev pub gives : (ℕ → Bool) → List Rule → Bool
gives such [] = false
gives such (r ∷ rs) = cond r.applies (such r.number) (gives such rs)

pub gives_such : (such : ℕ → Bool) {k : ℕ} {rs : List Rule} → First k rs → gives such rs ≡ such k
gives_such such (this p n) = rw p (ap such n)
gives_such such (later p f) = rw p (gives_such such f)

-- whether a rule applies does not matter where the rest gives no such number either
pub either_way : (t : Bool) → cond t false false ≡ false
either_way true = refl
either_way false = refl

-- ---- as specs/Promises.antt states it

pub first_that_applies : EveryCallAnswers
first_that_applies A rs a =
    record {
      refused_exactly = λ k. (refused_only_if rs a k, refused_if a);
      answered_exactly = (λ e. (answered_only_if rs a a e).0, answered_if rs a);
    }

pub refused_changes_nothing : RefusedChangesNothing
refused_changes_nothing A B rs b k before after e = unchanged_if before after (refused_only_if rs b k e)

-- ---- meanings

-- the case of an enum that says this, where one case is for a refusal and the others for values
abbrev pub again : {A E : Type 0} → (ℕ → E) → (A → E) → Answer A → E
again no_value value (refused k) = no_value k
again no_value value (answered a) = value a

pub apart : {A B : Type 0} (said : A → B) (again : B → A) → ((a : A) → again (said a) ≡ a) → {a b : A} → said a ≡ said b → a ≡ b
apart said again found {a} {b} same = sym (found a) ∙ ap again same ∙ found b
