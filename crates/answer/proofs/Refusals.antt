-- Laws of `said` (specs/Refusals.antt), the same for every call.
--   refusal_of, refusal_back       a refusal is found by its number
--   said_apart                     two different answers never say the same, where two different values do not
--   when_went_on, when_refused     what a test of one rule says: that it does not apply, or that it does, and is the refusal
-- Assumes nothing.
use mathlib.Core.Path.{◌≡◌, refl, ap}
use mathlib.Core.Bool.{Bool, true, false, cond}
use Prim.Native.Nat.{ℕ}
use lib.Dec.{eqb}
use Rattle.std.specs.Prelude.{Result, Ok, Err}
use Rattle.answer.specs.declared.Refusal.{Refusal}
use Rattle.answer.specs.declared.Refusal.TheVariants as refusal
use Rattle.answer.specs.Answer.{Answer, refused, answered}
use Rattle.answer.specs.Refusals.{number_of, said, refused_when}
use Rattle.answer.proofs.Laws.{apart}

abbrev pub refusal_of : ℕ → Refusal
refusal_of k =
    cond (eqb k 1) refusal.DesksOutside (cond (eqb k 2) refusal.CellsOutside (cond (eqb k 3) refusal.OwnNumberOutside (cond (eqb k 4) refusal.ModeOutside
    (cond (eqb k 5) refusal.NotSound (cond (eqb k 6) refusal.CellNotBelow (cond (eqb k 7) refusal.BlankWritten (cond (eqb k 8) refusal.ReadWaits
    (cond (eqb k 9) refusal.TurnElsewhere (cond (eqb k 10) refusal.LastTurn (cond (eqb k 11) refusal.BufferShort (cond (eqb k 12) refusal.TrayLength
    (cond (eqb k 13) refusal.SheetNotGood (cond (eqb k 14) refusal.OtherShelf (cond (eqb k 15) refusal.OwnSheet (cond (eqb k 16) refusal.NumberBelow
    (cond (eqb k 17) refusal.NumberFarAbove (cond (eqb k 18) refusal.PlaceNotFree (cond (eqb k 19) refusal.OwnTurn (cond (eqb k 20) refusal.NoSheet
    (cond (eqb k 21) refusal.NotThatSheet (cond (eqb k 22) refusal.OutsideCalendar refusal.BookNotGood)))))))))))))))))))))

pub refusal_back : (r : Refusal) → refusal_of (number_of r) ≡ r
refusal_back refusal.DesksOutside = refl
refusal_back refusal.CellsOutside = refl
refusal_back refusal.OwnNumberOutside = refl
refusal_back refusal.ModeOutside = refl
refusal_back refusal.NotSound = refl
refusal_back refusal.CellNotBelow = refl
refusal_back refusal.BlankWritten = refl
refusal_back refusal.ReadWaits = refl
refusal_back refusal.TurnElsewhere = refl
refusal_back refusal.LastTurn = refl
refusal_back refusal.BufferShort = refl
refusal_back refusal.TrayLength = refl
refusal_back refusal.SheetNotGood = refl
refusal_back refusal.OtherShelf = refl
refusal_back refusal.OwnSheet = refl
refusal_back refusal.NumberBelow = refl
refusal_back refusal.NumberFarAbove = refl
refusal_back refusal.PlaceNotFree = refl
refusal_back refusal.OwnTurn = refl
refusal_back refusal.NoSheet = refl
refusal_back refusal.NotThatSheet = refl
refusal_back refusal.OutsideCalendar = refl
refusal_back refusal.BookNotGood = refl

abbrev again : {A B : Type 0} → (B → A) → Answer B → Result A Refusal
again value (answered b) = Ok (value b)
again value (refused k) = Err (refusal_of k)

module _ {A B : Type 0} (values : A → B) (value : B → A) (found : (a : A) → value (values a) ≡ a) where
  back : (r : Result A Refusal) → again value (said values r) ≡ r
  back (Ok a) = ap Ok (found a)
  back (Err r) = ap Err (refusal_back r)

  pub said_apart : (r q : Result A Refusal) → said values r ≡ said values q → r ≡ q
  said_apart r q = apart (said values) (again value) back

-- ---- one rule, tested by `when`

module _ (r : Refusal) where
  pub when_went_on : (applies : Bool) → Ok (tt {0}) ≡ refused_when r applies → applies ≡ false
  when_went_on true e = cc
  when_went_on false e = refl

  pub when_refused : (applies : Bool) (x : Refusal) → Err x ≡ refused_when r applies → (applies ≡ true) × (x ≡ r)
  when_refused true x e = (refl, cc)
  when_refused false x e = cc
