-- A call by what its tests say: `said` of their answers, as the code has it.
--   silent_if_said, first_if_said               no rule applies; the first that applies has this number
--   silent_both, first_of_first, first_of_rest  rules that are tested in two parts
--   refused_so, done_so                         what a call comes to then, as the code answers it
-- Assumes nothing.
use Prim.Native.Nat.{ℕ}
use mathlib.Core.Path.{◌≡◌, sym}
use mathlib.Core.List.{List, [], ◌∷◌, ◌++◌}
use Rattle.std.specs.Prelude.{Result, Ok, Err}
use Rattle.answer.specs.Answer.{Rule, refused, answered}
use Rattle.answer.specs.Promises.{Silent, First, this, later}
use Rattle.answer.specs.declared.Refusal.{Refusal}
use Rattle.answer.specs.Refusals.{number_of, first_of}
use Rattle.answer.proofs.Laws.{answered_only_if, answered_if, changed_if, refused_only_if, refused_if, unchanged_if}
use Rattle.desk.specs.declared.Desk.{Desk}
use Rattle.desk.specs.declared.Answer as declared
use Rattle.desk.specs.Answers.{Value, value_of, settled, call}

module _ (rs : List Rule) where
  pub silent_if_said : {u : Unit {0}} → answered u ≡ first_of rs → Silent rs
  silent_if_said {u} e = (answered_only_if rs tt u (sym e)).0

  pub first_if_said : {k : ℕ} → refused k ≡ first_of rs → First k rs
  first_if_said {k} e = refused_only_if rs tt k (sym e)

pub silent_both : (rs more : List Rule) → Silent rs → Silent more → Silent (rs ++ more)
silent_both [] more s t = t
silent_both (r ∷ rs) more s t = (s.0, silent_both rs more s.1 t)

pub first_of_first : {k : ℕ} {rs : List Rule} (more : List Rule) → First k rs → First k (rs ++ more)
first_of_first more (this p n) = this p n
first_of_first more (later p f) = later p (first_of_first more f)

pub first_of_rest : {k : ℕ} (rs : List Rule) {more : List Rule} → Silent rs → First k more → First k (rs ++ more)
first_of_rest [] s f = f
first_of_rest (r ∷ rs) s f = later s.0 (first_of_rest rs s.1 f)

module _ (rules : List Rule) (d : Desk) (lent : List ℕ) (v : Value) (d' : Desk) (lent' : List ℕ) where
  pub refused_so : {r : Result declared.Answer Refusal} {x : Refusal} → r ≡ Err x → First (number_of x) rules → settled r d lent ≡ call rules d lent v d' lent'
  refused_so e f = rw (e, refused_if v f, unchanged_if d d' f, unchanged_if lent lent' f)

  pub done_so : (a : declared.Answer) → value_of a ≡ v → Silent rules → settled (Ok a) d' lent' ≡ call rules d lent v d' lent'
  done_so a e s = rw (e, answered_if rules v s, changed_if rules d d' s, changed_if rules lent lent' s)
