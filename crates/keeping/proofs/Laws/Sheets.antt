-- The sheet of a sound record whose turn it is, below the last turn number: what a send that is carried out sends.
--   fair_head, fair_places                    the record's numbers and pending places are within limits
--   sheet_good, sheet_read, sheet_numbers, sheet_entries    the sheet is good, and gives back the desk's numbers and the pending entries
-- Assumes nothing.
use Prim.Native.Nat.{ℕ}
use mathlib.Core.Path.{◌≡◌, sym, ap, ◌∙◌}
use mathlib.Core.Bool.{true, false}
use mathlib.Core.List.{List}
use native.Mathlib.Omega.{arith}
use lib.Dec.{eqb}
use lib.IntN.{ℤ, pos}
use lib.ListN.{length}
use borrow.Author.Tests.{eqb-true, eqb-false}
use Rattle.answer.specs.Answer.{answered}
use Rattle.layout.specs.declared.Entry.{Entry}
use Rattle.layout.specs.Layout.{trailer_in, numbers_of, entries_of}
use Rattle.sheet.specs.Good.{good}
use Rattle.sheet.specs.Reading.{Sheet, sheet_in, reading_of}
use Rattle.sheet.proofs.Laws.Reading.{good_read}
use Rattle.cells.specs.Cells.{kind_at, day_at}
use Rattle.sound.specs.Head.{own_turn}
use Rattle.sound.specs.Sound.{day_fits}
use Rattle.sound.proofs.Laws.Sound.{Sound}
use Rattle.sound.proofs.Laws.Days.{same_day_lem}
use Rattle.pending.specs.Pending.{pending_entries, numbers_for, sheet_of}
use Rattle.pending.proofs.Laws.Good.{FairPlaces, FairHead, sheet_is_good, sheet_reads_back}
use Rattle.refusals.specs.Rules.{last_turn}
use Rattle.desk.specs.declared.Desk.{Desk}
use Rattle.desk.specs.Values.{DeskFits}

open_day : (kind : ℕ) (day : ℤ) → day_fits kind day ≡ true → kind ≡ 1 → day ≡ pos 0
open_day kind day e one = same_day_lem day (pos 0) (rw one at e)

same_answered : (a b : Sheet) → answered a ≡ answered b → a ≡ b
same_answered a b e = cc

module _ (d : Desk) (fits : DeskFits d) (s : Sound d.head d.kind d.day d.pkind d.pday) (own : own_turn d.head ≡ true) (more : eqb d.head.turn last_turn ≡ false) where
  pub fair_head : FairHead d.head
  fair_head =
      record {
        desks_least = s.desks_least;
        desks_most = s.desks_most;
        cells_least = s.cells_least;
        cells_most = s.cells_most;
        own_below = s.own_below;
        turn_most = let other : d.head.turn ≡ 4294967295 → ⊥ = eqb-false d.head.turn last_turn more in omega (arith, fits.turn, other);
        turn_is_own = eqb-true _ _ own;
      }

  pub fair_places : FairPlaces d.pkind d.pday d.head.m
  fair_places =
      record {
        kinds = s.pkind_is;
        opens = λ i h one. open_day (kind_at d.pkind i) (day_at d.pday i) (s.pday_fits i h) one;
        blanks = λ i h past. (s.blank_past i h past).1;
      }

  abbrev sheet : List ℕ
  sheet = sheet_of d.head d.pkind d.pday

  abbrev es : List Entry
  es = pending_entries d.pkind d.pday

  pub sheet_good : good sheet ≡ true
  sheet_good = sheet_is_good d.head d.pkind d.pday fair_head fair_places (λ i h. fits.pday i)

  pub sheet_read : reading_of sheet ≡ answered (record { numbers = numbers_for d.head (length es); entries = es })
  sheet_read = sheet_reads_back d.head d.pkind d.pday fair_head fair_places (λ i h. fits.pday i)

  read_as : sheet_in sheet (numbers_of (trailer_in sheet)) ≡ record { numbers = numbers_for d.head (length es); entries = es }
  read_as = same_answered _ _ (sym (good_read sheet sheet_good) ∙ sheet_read)

  pub sheet_numbers : numbers_of (trailer_in sheet) ≡ numbers_for d.head (length es)
  sheet_numbers = ap (λ (x : Sheet). x.numbers) read_as

  pub sheet_entries : entries_of (trailer_in sheet).entries sheet ≡ es
  sheet_entries = ap (λ (x : Sheet). x.entries) read_as
