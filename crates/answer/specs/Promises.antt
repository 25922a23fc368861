-- What holds of every call that is stated by `answer` and `leaves`. proofs/Laws.antt proves it.
-- Assumes nothing.
use Rattle.std.specs.Prelude.{◌≡◌, true, false, List, [], ◌∷◌, ◌↔◌, ℕ}
use Rattle.answer.specs.Answer.{Rule, answer, leaves, refused, answered}

-- no rule applies: a pair for each rule, in their order
abbrev pub Silent : List Rule → Type 0
Silent [] = Unit {0}
Silent (r ∷ rs) = (r.applies ≡ false) × Silent rs

-- the first rule that applies has the number k
pub data First (k : ℕ) : List Rule → Type 0 where
  this : {r : Rule} {rs : List Rule} → r.applies ≡ true → r.number ≡ k → First k (r ∷ rs)
  later : {r : Rule} {rs : List Rule} → r.applies ≡ false → First k rs → First k (r ∷ rs)

-- "the first that applies is given, and none otherwise"
pub record FirstThatApplies {A : Type 0} (rs : List Rule) (a : A) : Type 0 where
  pub refused_exactly : (k : ℕ) → (answer rs a ≡ refused k) ↔ First k rs
  pub answered_exactly : (answer rs a ≡ answered a) ↔ Silent rs

abbrev pub EveryCallAnswers : Type 1
EveryCallAnswers = (A : Type 0) (rs : List Rule) (a : A) → FirstThatApplies rs a

-- demand 1: "a refused call changes no record and no lent byte"
abbrev pub RefusedChangesNothing : Type 1
RefusedChangesNothing =
    (A B : Type 0) (rs : List Rule) (b : B) (k : ℕ) (before after : A) → answer rs b ≡ refused k → leaves rs before after ≡ before
