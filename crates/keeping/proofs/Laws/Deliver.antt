-- A delivery keeps the record whatever it is: "The record stays." The tray is as long as before.
--   deliver_same, deliver_long
-- Assumes nothing.
use mathlib.Core.Path.{◌≡◌, refl}
use mathlib.Core.List.{List}
use Prim.Native.Nat.{ℕ}
use lib.ListN.{length}
use Rattle.layout.specs.Layout.{trailer_in}
use Rattle.tray.specs.Tray.{held_in}
use Rattle.tray.proofs.Laws.Places.{held_long}
use Rattle.desk.specs.declared.Desk.{Desk}
use Rattle.desk.specs.Calls.{deliver_rules, deliver_of}
use Rattle.keeping.proofs.Laws.Rules.{kept}

module _ (d : Desk) (tray s : List ℕ) where
  pub deliver_same : (deliver_of d tray s).desk ≡ d
  unfolding deliver_of
  deliver_same = kept (λ (x : Desk). x ≡ d) (deliver_rules d tray s) d d refl (λ silent. refl)

  pub deliver_long : length (deliver_of d tray s).lent ≡ length tray
  unfolding deliver_of
  deliver_long =
      let q = (trailer_in s).sender in
      kept (λ (l : List ℕ). length l ≡ length tray) (deliver_rules d tray s) tray (held_in tray q s) refl (λ silent. held_long tray q s)
