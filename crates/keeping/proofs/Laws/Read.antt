-- A read keeps a record sound: it changes nothing but the waiting read, and one that begins to wait is as `must_wait` says. It keeps a record
-- that fits, too.
--   wait_says                      what `must_wait` says, as the clauses on a waiting read
--   read_sound, read_fits
-- Assumes nothing.
use Prim.Native.Nat.{ℕ, ◌+◌, ◌-◌, ◌<◌}
use mathlib.Core.Path.{◌≡◌, refl}
use mathlib.Core.Bool.{Bool, true, false, cond}
use native.Mathlib.Omega.{arith}
use Rattle.numbers.proofs.Tests.{tested}
use Rattle.sound.proofs.Laws.Sound.{Waiting}
use Rattle.desk.specs.declared.Desk.{Desk}
use Rattle.desk.specs.Calls.{sound, read_rules, must_wait, waiting_desk, read_of}
use Rattle.desk.specs.Values.{DeskFits}
use Rattle.desk.proofs.Laws.Allowed.{desk_says, read_allows}
use Rattle.keeping.proofs.Laws.Kept.{KeptSound, KeptFits}
use Rattle.keeping.proofs.Laws.Rules.{kept}
use Rattle.keeping.proofs.Laws.Places.{numbers_are, place_is, sound_by_places}

module _ (d : Desk) (cell : ℕ) where
  pub wait_says : must_wait d cell ≡ true → cell < d.head.m → Waiting (waiting_desk d cell).head d.pkind
  unfolding must_wait
  wait_says e low =
      let back : cell + 1 - 1 ≡ cell = omega arith in
      record {
        mode_is = search tested;
        cell_below = omega arith;
        cell_blank = rw back (search tested);
        something = search tested;
        elsewhere = search tested;
      }

  -- the record after a read that was carried out, whether it waits or not
  pub read_sound : KeptSound d (read_of d cell)
  unfolding read_of
  read_sound fits e =
      kept (λ (x : Desk). sound x ≡ true) (read_rules d cell) d (cond (must_wait d cell) (waiting_desk d cell) d) e
      (λ silent. by_test (read_allows d cell silent).cell_below (must_wait d cell) refl)
    where
      by_test : cell < d.head.m → (t : Bool) → must_wait d cell ≡ t → sound (cond t (waiting_desk d cell) d) ≡ true
      by_test low true must =
          let s = desk_says d e in
          sound_by_places (waiting_desk d cell).head d.kind d.day d.pkind d.pday (numbers_are s) (place_is s) (λ w. wait_says must low)
      by_test low false must = e

  pub read_fits : KeptFits d (read_of d cell)
  unfolding read_of
  read_fits fits = kept DeskFits (read_rules d cell) d (cond (must_wait d cell) (waiting_desk d cell) d) fits (λ silent. by_test (must_wait d cell))
    where
      by_test : (t : Bool) → DeskFits (cond t (waiting_desk d cell) d)
      by_test true =
          record {
            kinds = fits.kinds;
            days = fits.days;
            pkinds = fits.pkinds;
            pdays = fits.pdays;
            day = fits.day;
            pday = fits.pday;
            turn = fits.turn;
          }
      by_test false = fits
