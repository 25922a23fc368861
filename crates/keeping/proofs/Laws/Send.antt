-- A send keeps a record sound: nothing is pending after it, and no read waits, since a waiting read has the turn elsewhere and 9 would have
-- come. It keeps a record that fits, too: 10 comes at the last turn number.
--   none_waits                     on the desk's own turn no read waits
--   send_sound, send_fits
--   sheet_fits, never_11           a desk's sheet has 396 bytes at most, and 11 never comes where 396 are lent
--   send_long                      the buffer is as long as before
-- Assumes nothing.
use Prim.Native.Nat.{ℕ, ◌≤◌, ◌<◌}
use mathlib.Core.Path.{◌≡◌, refl, ◌∙◌}
use mathlib.Core.Bool.{true}
use mathlib.Core.List.{List, ◌++◌}
use native.Mathlib.Omega.{arith}
use lib.IntN.{ℤ, pos}
use lib.ListN.{length, drop, replicate, length-append, length-drop, length-replicate}
use borrow.Author.Tests.{eqb-true, eqb-false, le-ltb}
use Rattle.answer.specs.Answer.{refused}
use Rattle.answer.proofs.Laws.{refused_only_if}
use Rattle.cells.specs.Cells.{kind_at, day_at}
use Rattle.sound.specs.Head.{own_turn}
use Rattle.sound.proofs.Laws.Sound.{Sound}
use Rattle.pending.specs.Pending.{pending_entries, sheet_of}
use Rattle.pending.proofs.Laws.Sending.{sheet_most}
use Rattle.refusals.specs.Rules.{last_turn}
use Rattle.desk.specs.declared.Desk.{Desk}
use Rattle.desk.specs.Answers.{sent}
use Rattle.desk.specs.Calls.{sound, send_rules, sent_desk, send_of}
use Rattle.desk.specs.Values.{DeskFits}
use Rattle.desk.proofs.Laws.Allowed.{desk_says, send_allows}
use Rattle.keeping.proofs.Laws.Kept.{KeptSound, KeptFits}
use Rattle.keeping.proofs.Laws.Rules.{kept, never_given}
use Rattle.keeping.proofs.Laws.Places.{FairPlace, numbers_are, place_is, sound_by_places, blank_place}

-- ---- the places after a send

-- a place keeps what it has on the shelf, and has nothing pending
nothing_pending : (m mode i k : ℕ) (d : ℤ) (p : ℕ) (q : ℤ) → FairPlace m mode i k d p q → FairPlace m mode i k d 0 (pos 0)
nothing_pending m mode i k d p q f =
    record {
      kind_is = f.kind_is;
      pkind_is = omega arith;
      day_fits_lem = f.day_fits_lem;
      pday_fits = refl;
      blank_past = λ l. ((f.blank_past l).0, refl);
      pending_shown = λ some. absurd (some refl);
      agree = λ o some. absurd (some refl);
    }

module _ (d : Desk) where
  place_after : Sound d.head d.kind d.day d.pkind d.pday → (i : ℕ) → i < 64
      → FairPlace d.head.m d.head.mode i (kind_at d.kind i) (day_at d.day i) (kind_at (replicate 64 0) i) (day_at (replicate 64 (pos 0)) i)
  place_after s i b =
      rw (blank_place {A = ℕ} 0 i, blank_place (pos 0) i)
      (nothing_pending d.head.m d.head.mode i (kind_at d.kind i) (day_at d.day i) (kind_at d.pkind i) (day_at d.pday i) (place_is s i b))

  pub none_waits : Sound d.head d.kind d.day d.pkind d.pday → own_turn d.head ≡ true → (d.head.wait ≡ 0 → ⊥) → ⊥
  none_waits s own w = (s.waits w).elsewhere (eqb-true _ _ own)

  pub sheet_fits : length (sheet_of d.head d.pkind d.pday) ≤ 396
  sheet_fits = sheet_most d.head d.pkind d.pday

  module _ (buf : List ℕ) where
    pub send_sound : KeptSound d (send_of d buf)
    unfolding send_of
    send_sound fits e =
        let s = desk_says d e in
        let after = sent_desk d in
        kept (λ (x : Desk). sound x ≡ true) (send_rules d buf) d after e
        (λ silent.
        sound_by_places after.head after.kind after.day after.pkind after.pday (numbers_are s) (place_after s)
        (λ w. absurd (none_waits s (send_allows d buf silent).own_turn_lem w)))

    pub send_fits : KeptFits d (send_of d buf)
    unfolding send_of
    send_fits fits =
        kept DeskFits (send_rules d buf) d (sent_desk d) fits
        (λ silent.
        record {
          kinds = fits.kinds;
          days = fits.days;
          pkinds = length-replicate {A = ℕ} 64 0;
          pdays = length-replicate 64 (pos 0);
          day = fits.day;
          pday = λ i. rw (blank_place (pos 0) i) (record { sfits = omega arith });
          turn = omega (arith, fits.turn, eqb-false d.head.turn last_turn (send_allows d buf silent).not_last);
        })

    pub never_11 : 396 ≤ length buf → (send_of d buf).answer ≡ refused 11 → ⊥
    unfolding send_of
    never_11 room e =
        let sheet = sheet_of d.head d.pkind d.pday in
        let value = sent d.head.turn (length (pending_entries d.pkind d.pday)) in
        never_given (refused_only_if (send_rules d buf) value 11 e)
        (λ n. absurd (omega (arith, n)), λ a. (λ n. absurd (omega (arith, n)), λ b. (λ n. absurd (omega (arith, n)), λ c. (λ n. le-ltb (length buf) (length sheet) (omega (arith, sheet_fits)), λ e. tt))))

    pub send_long : length (send_of d buf).lent ≡ length buf
    unfolding send_of
    send_long =
        let sheet = sheet_of d.head d.pkind d.pday in
        kept (λ (l : List ℕ). length l ≡ length buf) (send_rules d buf) buf (sheet ++ drop (length sheet) buf) refl
        (λ silent.
        let room : length sheet ≤ length buf = (send_allows d buf silent).room in
        length-append sheet (drop (length sheet) buf) ∙ omega (arith, length-drop (length sheet) buf))
