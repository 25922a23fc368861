-- 01, "Numbers given back": "Order within a call is left to right; the first that applies is given, and none otherwise. The answer is
-- then that number alone, and the record and all lent bytes are as before."
-- What any call answers and leaves behind is stated by these. The code answers a `Result` with a refusal of its own
-- (specs/Refusals.antt): `said` gives it as an `Answer`, and so does a definition of each call, whose name begins with `said_`.
-- Assumes nothing.
use Rattle.std.specs.Prelude.{ℕ, Bool, true, false, cond, List, [], ◌∷◌}

-- a refusal's number alone, or the values of the call that was carried out
pub data Answer (A : Type 0) : Type 0 where
  refused : ℕ → Answer A
  answered : A → Answer A

-- it is not refused
abbrev pub accepted : {A : Type 0} → Answer A → Bool
accepted (refused k) = false
accepted (answered a) = true

-- a row of 01's table: a number, and whether it applies
pub record Rule : Type 0 where
  pub number : ℕ
  pub applies : Bool

infix 70 ◌if◌
abbrev pub ◌if◌ : ℕ → Bool → Rule
n if t = record { number = n; applies = t }

-- the answer of a call with these rules, in their order: the first that applies, or else the values
abbrev pub answer : {A : Type 0} → List Rule → A → Answer A
answer [] a = answered a
answer (r ∷ rs) a = cond r.applies (refused r.number) (answer rs a)

-- what was lent to such a call, or its record: as before where a rule applies, or else as the call leaves it
abbrev pub leaves : {A : Type 0} → List Rule → A → A → A
leaves [] before after = after
leaves (r ∷ rs) before after = cond r.applies before (leaves rs before after)
