-- Laws of a call's rules that every call's proof goes by.
--   kept                     what holds of a thing as it was, and as a call that is carried out leaves it, holds after the call
--   Off, never_given         a number whose rules do not apply is never given
-- Assumes nothing.
use Prim.Native.Nat.{ℕ}
use mathlib.Core.Path.{◌≡◌, refl, sym, ◌∙◌}
use mathlib.Core.Bool.{Bool, true, false, cond, false≢true}
use mathlib.Core.List.{List, [], ◌∷◌}
use Rattle.answer.specs.Answer.{Rule, leaves}
use Rattle.answer.specs.Promises.{Silent, First, this, later}

pub kept : {A : Type 0} (P : A → Type 0) (rs : List Rule) (before after : A) → P before → (Silent rs → P after) → P (leaves rs before after)
kept P [] before after p f = f tt
kept P (r ∷ rs) before after p f = by_test (kept P rs before after p) r.applies refl
  where
    by_test : ((Silent rs → P after) → P (leaves rs before after)) → (t : Bool) → r.applies ≡ t → P (cond r.applies before (leaves rs before after))
    by_test rest true e = rw e p
    by_test rest false e = rw e (rest (λ s. f (e, s)))

-- every rule with the number k is off, as far as the rules before it do not apply: a pair for each rule, in their order
abbrev pub Off : ℕ → List Rule → Type 0
Off k [] = Unit {0}
Off k (r ∷ rs) = (r.number ≡ k → r.applies ≡ false) × (r.applies ≡ false → Off k rs)

pub never_given : {k : ℕ} {rs : List Rule} → First k rs → Off k rs → ⊥
never_given (this p n) off = false≢true (sym (off.0 n) ∙ p)
never_given (later p f) off = never_given f (off.1 p)
