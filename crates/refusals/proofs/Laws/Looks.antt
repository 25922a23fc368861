-- A look at the place of the desk whose turn it is, as the code makes it: by what is in the place.
--   looked, looked_so
-- Assumes nothing.
use Prim.Native.Nat.{ℕ}
use mathlib.Core.Path.{◌≡◌, refl, sym, ap, ◌∙◌}
use mathlib.Core.Bool.{Bool, true, false, cond}
use mathlib.Core.List.{List}
use Rattle.answer.specs.Answer.{Answer, refused, answered}
use Rattle.sound.specs.declared.Head.{Head}
use Rattle.tray.specs.declared.Place.{Place}
use Rattle.tray.specs.declared.Place.TheVariants as place
use Rattle.layout.specs.Layout.{trailer_in, numbers_of}
use Rattle.tray.specs.Tray.{free, sheet_at, holds_good, place_of}
use Rattle.refusals.specs.Rules.{is_next, looked_at}

abbrev pub looked : Head → Place → Answer ℕ
looked h place.Free = refused 20
looked h (place.Holds x) = cond (is_next h x) (answered x.entries) (refused 21)
looked h place.Spoilt = refused 21

module _ (h : Head) (tray : List ℕ) (q : ℕ) where
  by_place : looked h (place_of tray q) ≡ looked_at h tray q
  unfolding looked_at place_of
  by_place = by_tests (free tray q) (holds_good tray q) (is_next h (numbers_of (trailer_in (sheet_at tray q)))) refl refl refl
    where
      by_tests : (f g n : Bool) → free tray q ≡ f → holds_good tray q ≡ g → is_next h (numbers_of (trailer_in (sheet_at tray q))) ≡ n → looked h (place_of tray q) ≡ looked_at h tray q
      by_tests true g n p r t = rw p
      by_tests false true true p r t = rw (p, r, t)
      by_tests false true false p r t = rw (p, r, t)
      by_tests false false n p r t = rw (p, r)

  pub looked_so : {p : Place} → p ≡ place_of tray q → looked_at h tray q ≡ looked h p
  looked_so e = sym by_place ∙ ap (looked h) (sym e)
