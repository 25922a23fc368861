-- A write keeps a record sound: its cell is below m and takes the content on the shelf and as its pending entry, no read waits, and every
-- other place stays. It keeps a record that fits, too, where the content's day has 32 bits.
--   write_sound, write_fits
-- Assumes nothing.
use Prim.Native.Nat.{ℕ, ◌≤◌, ◌<◌}
use mathlib.Core.Path.{◌≡◌, refl, ◌∙◌}
use mathlib.Core.Bool.{Bool, true, false}
use mathlib.Core.List.{List}
use native.Mathlib.Omega.{arith}
use lib.Dec.{eqb}
use lib.IntN.{ℤ, pos}
use lib.ListN.{length}
use mir.Syntax.{w32}
use mir.Val.{SFits}
use borrow.Author.Tests.{eqb-true, eqb-false, not-false}
use Rattle.content.specs.declared.Content.{Content}
use Rattle.content.specs.declared.Content.TheVariants.{Blank, Open, Day}
use Rattle.content.specs.Content.{kind_of, day_of}
use Rattle.cells.specs.Cells.{kind_at, day_at, put_if}
use Rattle.cells.proofs.Laws.{place_put, place_kept, place_length}
use Rattle.sound.specs.Sound.{day_fits}
use Rattle.sound.proofs.Laws.Sound.{Sound}
use Rattle.desk.specs.declared.Desk.{Desk}
use Rattle.desk.specs.Calls.{sound, write_rules, written_desk, write_of}
use Rattle.desk.specs.Values.{DeskFits}
use Rattle.desk.proofs.Laws.Allowed.{desk_says, write_allows}
use Rattle.keeping.proofs.Laws.Kept.{KeptSound, KeptFits}
use Rattle.keeping.proofs.Laws.Rules.{kept}
use Rattle.keeping.proofs.Laws.Places.{FairPlace, numbers_are, place_is, sound_by_places}

-- ---- a content that is not blank, on the shelf and pending

kind_small : (c : Content) → kind_of c ≤ 2
kind_small Blank = omega arith
kind_small Open = omega arith
kind_small (Day d) = omega arith

content_fits : (c : Content) → day_fits (kind_of c) (day_of c) ≡ true
content_fits Blank = refl
content_fits Open = refl
content_fits (Day d) = refl

some_content : (m mode cell : ℕ) (c : Content) → cell < m → (kind_of c ≡ 0 → ⊥) → FairPlace m mode cell (kind_of c) (day_of c) (kind_of c) (day_of c)
some_content m mode cell c low some =
    record {
      kind_is = kind_small c;
      pkind_is = kind_small c;
      day_fits_lem = content_fits c;
      pday_fits = content_fits c;
      blank_past = λ l. absurd (omega (arith, l, low));
      pending_shown = λ f. some;
      agree = λ o f. (refl, refl);
    }

-- ---- the places after a write

module _ (d : Desk) (cell : ℕ) (c : Content) where
  place_after : DeskFits d → Sound d.head d.kind d.day d.pkind d.pday → cell < d.head.m → (kind_of c ≡ 0 → ⊥) → (i : ℕ) → i < 64
      → FairPlace d.head.m d.head.mode i (kind_at (written_desk d cell c).kind i) (day_at (written_desk d cell c).day i)
      (kind_at (written_desk d cell c).pkind i) (day_at (written_desk d cell c).pday i)
  place_after fits s low some i b = by_test (eqb i cell) refl
    where
      by_test : (t : Bool) → eqb i cell ≡ t
          → FairPlace d.head.m d.head.mode i (kind_at (put_if true d.kind cell (kind_of c)) i) (day_at (put_if true d.day cell (day_of c)) i)
          (kind_at (put_if true d.pkind cell (kind_of c)) i) (day_at (put_if true d.pday cell (day_of c)) i)
      by_test true e =
          let here : i ≡ cell = eqb-true i cell e in
          let room : cell < 64 = omega arith in
          rw (here, place_put 0 d.kind cell (kind_of c) fits.kinds room, place_put (pos 0) d.day cell (day_of c) fits.days room, place_put 0 d.pkind cell (kind_of c) fits.pkinds room, place_put (pos 0) d.pday cell (day_of c) fits.pdays room)
          (some_content d.head.m d.head.mode cell c low some)
      by_test false e =
          let other = eqb-false i cell e in
          rw (place_kept 0 d.kind cell (kind_of c) true i other, place_kept (pos 0) d.day cell (day_of c) true i other, place_kept 0 d.pkind cell (kind_of c) true i other, place_kept (pos 0) d.pday cell (day_of c) true i other)
          (place_is s i b)

  pub write_sound : KeptSound d (write_of d cell c)
  unfolding write_of
  write_sound fits e =
      let s = desk_says d e in
      let after = written_desk d cell c in
      kept (λ (x : Desk). sound x ≡ true) (write_rules d cell c) d after e
      (λ silent.
      let allowed = write_allows d cell c silent in
      sound_by_places d.head after.kind after.day after.pkind after.pday (numbers_are s)
      (place_after fits s allowed.cell_below allowed.not_blank)
      (λ w. absurd (w (eqb-true d.head.wait 0 (not-false _ allowed.none_waits)))))

  -- ---- days of 32 bits

  days_after : SFits w32 (day_of c) → cell < 64 → (days : List ℤ) → length days ≡ 64 → ((i : ℕ) → SFits w32 (day_at days i))
      → (i : ℕ) → SFits w32 (day_at (put_if true days cell (day_of c)) i)
  days_after signed room days long fit i = by_test (eqb i cell) refl
    where
      by_test : (t : Bool) → eqb i cell ≡ t → SFits w32 (day_at (put_if true days cell (day_of c)) i)
      by_test true e = rw (eqb-true i cell e, place_put (pos 0) days cell (day_of c) long room) signed
      by_test false e = rw (place_kept (pos 0) days cell (day_of c) true i (eqb-false i cell e)) (fit i)

  pub write_fits : SFits w32 (day_of c) → KeptFits d (write_of d cell c)
  unfolding write_of
  write_fits signed fits =
      kept DeskFits (write_rules d cell c) d (written_desk d cell c) fits
      (λ silent.
      let allowed = write_allows d cell c silent in
      let room : cell < 64 = omega (arith, allowed.cell_below, (desk_says d allowed.is_sound).cells_most) in
      record {
        kinds = place_length true d.kind cell (kind_of c) ∙ fits.kinds;
        days = place_length true d.day cell (day_of c) ∙ fits.days;
        pkinds = place_length true d.pkind cell (kind_of c) ∙ fits.pkinds;
        pdays = place_length true d.pday cell (day_of c) ∙ fits.pdays;
        day = days_after signed room d.day fits.days fits.day;
        pday = days_after signed room d.pday fits.pdays fits.pday;
        turn = fits.turn;
      })
