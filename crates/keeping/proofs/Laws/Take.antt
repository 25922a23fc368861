-- A take keeps a record sound: pending entries stay, and an entry that goes to the shelf is open or a day, its cell is below m, and in modes
-- 1 and 3 it is not pending. A read that still waits has the turn elsewhere. It keeps a record that fits, too: four bytes make a day of 32 bits,
-- and 10 comes at the last turn number.
--   laid_place                     what holds of a cell's kind and day, and of those of every entry that goes to it, holds of them afterwards
--   entry_is                       a good entry that goes to a cell leaves it as it should be
--   waits_after                    the waiting read after a take
--   take_sound
--   entries_days                   the days of entries in bytes have 32 bits
--   take_fits
--   take_long                      the tray is as long as before
-- Assumes nothing.
use Prim.Native.Nat.{ℕ, zero, suc, ◌+◌, ◌%◌, ◌≤◌, ◌<◌}
use mathlib.Core.Path.{◌≡◌, refl, sym, ◌∙◌, subst}
use mathlib.Core.Bool.{Bool, true, false, cond, ◌&&◌, or-false, false≢true}
use mathlib.Core.List.{List, [], ◌∷◌}
use native.Mathlib.Omega.{arith}
use lib.Dec.{eqb}
use lib.IntN.{ℤ, pos}
use lib.ListN.{length, drop}
use mir.Syntax.{w32}
use mir.Val.{SFits}
use mir.Facts.{sfits_to_z}
use borrow.Author.Tests.{eqb-true, eqb-false, ne_eqb, ltb-true}
use Rattle.layout.specs.declared.Entry.{Entry}
use Rattle.layout.specs.Layout.{entry_of, entries_of, trailer_in}
use Rattle.layout.specs.Values.{AreBytes}
use Rattle.layout.proofs.Bytes.{front_bytes, back_bytes}
use Rattle.sheet.specs.Good.{every, below, kind_and_day}
use Rattle.numbers.proofs.Tests.{tested}
use Rattle.sheet.proofs.Laws.Good.{good_entries_are}
use Rattle.cells.specs.Cells.{kind_at, day_at, put_if}
use Rattle.cells.proofs.Laws.{place_put, place_kept, place_length}
use Rattle.sound.specs.declared.Head.{Head}
use Rattle.sound.specs.Head.{causal, turn_desk}
use Rattle.sound.specs.Sound.{day_fits}
use Rattle.sound.proofs.Laws.Sound.{Waiting}
use Rattle.tray.specs.Tray.{length_at, place_start, sheet_at, cleared_in}
use Rattle.tray.proofs.Laws.Places.{holds_says, cleared_long}
use Rattle.applying.specs.Applying.{goes, laid, kind_on, day_on}
use Rattle.applying.proofs.Laws.{Every, laid_length, laid_every}
use Rattle.refusals.specs.Rules.{last_turn}
use Rattle.desk.specs.declared.Desk.{Desk}
use Rattle.desk.specs.Calls.{sound, next_head, take_rules, entries_taken, read_ends, taken_desk, take_of}
use Rattle.desk.specs.Values.{DeskFits}
use Rattle.desk.proofs.Laws.Allowed.{desk_says, take_allows}
use Rattle.keeping.proofs.Laws.Kept.{KeptSound, KeptFits}
use Rattle.keeping.proofs.Laws.Rules.{kept}
use Rattle.keeping.proofs.Laws.Places.{FairPlace, numbers_are, place_is, sound_by_places}

-- ---- a cell's kind and day after entries

module _ (P : ℕ → ℤ → Type 0) (going : Entry → Bool) (i : ℕ) (room : i < 64) where
  put_place : (kinds : List ℕ) (days : List ℤ) (e : Entry) → length kinds ≡ 64 → length days ≡ 64 → (going e ≡ true → e.cell ≡ i → P (kind_on e) (day_on e))
      → P (kind_at kinds i) (day_at days i) → P (kind_at (put_if (going e) kinds e.cell (kind_on e)) i) (day_at (put_if (going e) days e.cell (day_on e)) i)
  unfolding put_if
  put_place kinds days e klong dlong q p = by_test (going e) (eqb i e.cell) refl refl
    where
      by_test : (t u : Bool) → going e ≡ t → eqb i e.cell ≡ u → P (kind_at (put_if t kinds e.cell (kind_on e)) i) (day_at (put_if t days e.cell (day_on e)) i)
      by_test true true g same =
          let here : i ≡ e.cell = eqb-true i e.cell same in
          subst (λ (j : ℕ). P (kind_at (put_if true kinds j (kind_on e)) i) (day_at (put_if true days j (day_on e)) i)) here
          (rw (place_put 0 kinds i (kind_on e) klong room, place_put (pos 0) days i (day_on e) dlong room) (q g (sym here)))
      by_test true false g other =
          let apart = eqb-false i e.cell other in
          rw (place_kept 0 kinds e.cell (kind_on e) true i apart, place_kept (pos 0) days e.cell (day_on e) true i apart) p
      by_test false u g same = p

  pub laid_place : (kinds : List ℕ) (days : List ℤ) (es : List Entry) → length kinds ≡ 64 → length days ≡ 64
      → Every (λ e. going e ≡ true → e.cell ≡ i → P (kind_on e) (day_on e)) es
      → P (kind_at kinds i) (day_at days i) → P (kind_at (laid going kind_on kinds es) i) (day_at (laid going day_on days es) i)
  unfolding laid
  laid_place kinds days [] klong dlong all p = p
  laid_place kinds days (e ∷ es) klong dlong all p =
      laid_place (put_if (going e) kinds e.cell (kind_on e)) (put_if (going e) days e.cell (day_on e)) es
      (place_length (going e) kinds e.cell (kind_on e) ∙ klong)
      (place_length (going e) days e.cell (day_on e) ∙ dlong)
      all.1
      (put_place kinds days e klong dlong all.0 p)

-- ---- a good entry

-- it is open, with day 0, or a day
kind_of : (e : Entry) → kind_and_day e ≡ true → (e.kind ≤ 2) × (e.kind ≡ 0 → ⊥) × (day_fits (kind_on e) (day_on e) ≡ true)
kind_of e g = by_test (eqb e.kind 2) refl
  where
    by_test : (t : Bool) → eqb e.kind 2 ≡ t → (e.kind ≤ 2) × (e.kind ≡ 0 → ⊥) × (day_fits (kind_on e) (day_on e) ≡ true)
    by_test true p = let two = eqb-true e.kind 2 p in (omega arith, λ z. omega (arith, z), rw p)
    by_test false p =
        let open_so : eqb e.kind 1 && eqb e.day 0 ≡ true = sym (or-false _) ∙ (rw p at g) in
        let one : e.kind ≡ 1 = search tested in
        let zero_day : e.day ≡ 0 = search tested in
        (omega arith, λ z. omega (arith, z), rw (p, zero_day))

module _ (h : Head) (pkind : List ℕ) (i : ℕ) (k : ℕ) (d : ℤ) (q : ℤ) (before : FairPlace h.m h.mode i k d (kind_at pkind i) q) where
  -- an entry that goes to a cell goes there in causal mode, or the cell is not pending
  not_both : (e : Entry) → goes (causal h) pkind e ≡ true → e.cell ≡ i → (h.mode ≡ 2 → ⊥) → (kind_at pkind i ≡ 0 → ⊥) → ⊥
  not_both e going here other some =
      false≢true (sym (rw (ne_eqb h.mode 2 other, here, ne_eqb (kind_at pkind i) 0 some)) ∙ going)

  pub entry_is : (e : Entry) → below h.m e ≡ true → kind_and_day e ≡ true → goes (causal h) pkind e ≡ true → e.cell ≡ i
      → FairPlace h.m h.mode i (kind_on e) (day_on e) (kind_at pkind i) q
  entry_is e low fine going here =
      let kind = kind_of e fine in
      record {
        kind_is = kind.0;
        pkind_is = before.pkind_is;
        day_fits_lem = kind.2;
        pday_fits = before.pday_fits;
        blank_past = λ l. absurd (omega (arith, l, here, ltb-true e.cell h.m low));
        pending_shown = λ some. kind.1;
        agree = λ other some. absurd (not_both e going here other some);
      }

  entries_are : (es : List Entry) → every (below h.m) es ≡ true → every kind_and_day es ≡ true
      → Every (λ e. goes (causal h) pkind e ≡ true → e.cell ≡ i → FairPlace h.m h.mode i (kind_on e) (day_on e) (kind_at pkind i) q) es
  entries_are [] low fine = tt
  entries_are (e ∷ es) low fine =
      (entry_is e (search tested) (search tested), entries_are es (search tested) (search tested))

-- ---- the waiting read

pub waits_after : (h : Head) (pkind : List ℕ) → ((h.wait ≡ 0 → ⊥) → Waiting h pkind) → (t : Bool) → read_ends h ≡ t
    → (cond t 0 h.wait ≡ 0 → ⊥) → Waiting (next_head h (cond t 0 h.wait)) pkind
waits_after h pkind waits true e w = absurd (w refl)
waits_after h pkind waits false e w =
    let z = waits w in
    record {
      mode_is = z.mode_is;
      cell_below = z.cell_below;
      cell_blank = z.cell_blank;
      something = z.something;
      elsewhere = eqb-false ((h.turn + 1) % h.n) h.own (sym (rw (ne_eqb h.wait 0 w)) ∙ e);
    }

-- ---- days of 32 bits

pub entries_days : (going : Entry → Bool) (n : ℕ) (l : List ℕ) → AreBytes l → Every (λ e. going e ≡ true → SFits w32 (day_on e)) (entries_of n l)
entries_days going zero l b = tt
entries_days going (suc n) l b =
    (λ g. sfits_to_z {w = w32} {n = (entry_of l).day} (record { fits = omega (arith, b 2, b 3, b 4, b 5) }), entries_days going n (drop 6 l) (back_bytes 6 l b))

-- ---- the record after a take

module _ (d : Desk) (tray : List ℕ) where
  pub take_sound : KeptSound d (take_of d tray)
  unfolding take_of
  take_sound fits e =
      let h = d.head in
      let q = turn_desk h in
      let es = entries_taken d tray in
      let s = desk_says d e in
      let after = taken_desk d es in
      kept (λ (x : Desk). sound x ≡ true) (take_rules d tray) d after e
      (λ silent.
      let allowed = take_allows d tray silent in
      let tests = good_entries_are (sheet_at tray q) (holds_says tray q allowed.holds_good_lem).sheet_good in
      let low : every (below (trailer_in (sheet_at tray q)).cells) es ≡ true = search tested in
      sound_by_places after.head after.kind after.day after.pkind after.pday (numbers_are s)
      (λ i b.
      laid_place (λ (k : ℕ) (x : ℤ). FairPlace h.m h.mode i k x (kind_at d.pkind i) (day_at d.pday i)) (goes (causal h) d.pkind) i b d.kind d.day es fits.kinds fits.days
      (entries_are h d.pkind i (kind_at d.kind i) (day_at d.day i) (day_at d.pday i) (place_is s i b) es (rw allowed.is_next.cells at low) (search tested))
      (place_is s i b))
      (waits_after h d.pkind s.waits (read_ends h) refl))

  pub take_fits : AreBytes tray → KeptFits d (take_of d tray)
  unfolding take_of
  take_fits bytes fits =
      let h = d.head in
      let q = turn_desk h in
      let es = entries_taken d tray in
      let going = goes (causal h) d.pkind in
      let days = entries_days going (trailer_in (sheet_at tray q)).entries (sheet_at tray q) (front_bytes (length_at tray q) (drop (place_start q + 2) tray) (back_bytes (place_start q + 2) tray bytes)) in
      kept DeskFits (take_rules d tray) d (taken_desk d es) fits
      (λ silent.
      record {
        kinds = laid_length going kind_on d.kind es ∙ fits.kinds;
        days = laid_length going day_on d.day es ∙ fits.days;
        pkinds = fits.pkinds;
        pdays = fits.pdays;
        day = λ i. laid_every (SFits w32) (pos 0) going day_on i d.day es days (fits.day i);
        pday = fits.pday;
        turn = omega (arith, fits.turn, eqb-false h.turn last_turn (take_allows d tray silent).not_last);
      })

  pub take_long : length (take_of d tray).lent ≡ length tray
  unfolding take_of
  take_long =
      let q = turn_desk d.head in
      kept (λ (l : List ℕ). length l ≡ length tray) (take_rules d tray) tray (cleared_in tray q) refl (λ silent. cleared_long tray q)
