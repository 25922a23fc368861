-- A call goes by its rules (specs/Demand2.antt, `ByRules`): every call of document 01 is stated by `answer` and `leaves` over its rules
-- (crates/desk/specs/Answers.antt, `call`), so the laws of those say it.
--   by_call          so it is of a call, where what is carried out is as it should be
--   sound_next       the next record of such a call: sound, with its own rest
--   either           a rule applies, or none does
--   settled          two outcomes by the same rules are the same, where two that are carried out are
-- Assumes nothing.
use Prim.Native.Nat.{ℕ}
use mathlib.Core.Path.{◌≡◌, refl, sym, ◌∙◌, subst}
use mathlib.Core.Bool.{Bool, true, false}
use mathlib.Core.List.{List, [], ◌∷◌}
use Rattle.answer.specs.Answer.{Rule, answered, leaves}
use Rattle.answer.specs.Promises.{Silent, First, this, later}
use Rattle.answer.proofs.Laws.{answered_if, changed_if, refused_if, unchanged_if}
use Rattle.desk.specs.declared.Desk.{Desk}
use Rattle.desk.specs.Answers.{Value, Done, call}
use Rattle.desk.specs.Calls.{sound}
use Rattle.desk.specs.Values.{DeskFits}
use Rattle.figure.specs.Demand2.{ByRules, rest_at, SoundWith}

pub by_call : (rules : List Rule) (d : Desk) (lent : List ℕ) (v : Value) (d' : Desk) (lent' : List ℕ) (CarriedOut : Done → Type 0)
    → (Silent rules → CarriedOut (record { answer = answered v; desk = d'; lent = lent' })) → ByRules rules d lent CarriedOut (call rules d lent v d' lent')
by_call rules d lent v d' lent' CarriedOut so =
    record {
      refused_with = λ k first. λ i. record { answer = refused_if v first i; desk = unchanged_if d d' first i; lent = unchanged_if lent lent' first i };
      carried_out = λ silent.
          subst CarriedOut
          (λ i. record { answer = sym (answered_if rules v silent) i; desk = sym (changed_if rules d d' silent) i; lent = sym (changed_if rules lent lent' silent) i })
          (so silent);
    }

-- the record that a call leaves is the next record, where the call is carried out: it has its own rest, and is sound if that is
pub sound_next : (rules : List Rule) (d d' : Desk) → Silent rules → sound (leaves rules d d') ≡ true → DeskFits (leaves rules d d')
    → SoundWith (rest_at d' d'.head.turn) d'
sound_next rules d d' silent is_sound fits =
    let same = changed_if rules d d' silent in
    record { rest_is = refl; is_sound = subst (λ (x : Desk). sound x ≡ true) same is_sound; fits = subst DeskFits same fits }

pub either : {X : Type 0} (rules : List Rule) → ((k : ℕ) → First k rules → X) → (Silent rules → X) → X
either [] some none = none tt
either {X} (r ∷ rs) some none = by_test r.applies refl (λ same. either rs (λ k first. some k (later same first)) (λ silent. none (same, silent)))
  where
    by_test : (t : Bool) → r.applies ≡ t → (r.applies ≡ false → X) → X
    by_test true e rest = some r.number (this e refl)
    by_test false e rest = rest e

pub settled : (rules : List Rule) (d : Desk) (lent : List ℕ) (CarriedOut : Done → Type 0) (done done' : Done)
    → ByRules rules d lent CarriedOut done → ByRules rules d lent CarriedOut done'
    → (Silent rules → CarriedOut done → CarriedOut done' → done ≡ done') → done ≡ done'
settled rules d lent CarriedOut done done' one other same =
    either rules (λ k first. one.refused_with k first ∙ sym (other.refused_with k first)) (λ silent. same silent (one.carried_out silent) (other.carried_out silent))
