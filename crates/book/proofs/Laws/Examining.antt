-- Laws of `examined_of` and `older_of` (specs/Parts.antt): one pass back through a book, as the code
-- goes.
--   OlderSoFar, olders             the loop over the sheets before a place: what was looked at so far, and the rest, is the whole; a set for `search`
--   examines                       a set for `search`: what the pass knows at each of its returns, and what it answers
-- Assumes nothing.
use mathlib.Core.Path.{◌≡◌, refl, sym, ap, ◌∙◌}
use mathlib.Core.Bool.{Bool, true, false, not, ◌&&◌}
use mathlib.Core.List.{List, [], ◌∷◌}
use Prim.Native.Nat.{ℕ, suc, ◌+◌, ◌<◌, ◌≤◌}
use native.Mathlib.Omega.{arith}
use lib.ListN.{length, take}
use lib.Seq.{length-take-le}
use mir.Syntax.{w64}
use mir.Val.{Fits}
use borrow.Author.Tests.{not-true, not-false}
use Rattle.std.specs.Prelude.{Option, Some, None, Result, Ok, Err}
use Rattle.std.proofs.lemmas.Option.{none-some, cond_some}
use Rattle.answer.specs.declared.Refusal.{Refusal}
use Rattle.answer.specs.declared.Refusal.TheVariants as refusal
use Rattle.layout.specs.declared.Numbers.{Numbers}
use Rattle.book.specs.declared.Back.{Back}
use Rattle.book.specs.declared.examined.Seen.{Seen}
use Rattle.book.specs.Sheets.{last_sheet, before, sheets_of}
use Rattle.book.specs.Good.{good_sheets, good_book}
use Rattle.book.specs.Stepping.{part_of, step_back}
use Rattle.book.specs.Parts.{fits_before, good_before, older_of, examined_of}
use Rattle.book.proofs.Laws.Sheets.{sheets_none, sheets_cut, sheets_few}
use Rattle.book.proofs.Laws.Good.{good_is_before}
use Rattle.book.proofs.Laws.Stepping.{Stepped, stepped, sheets_end, none_end}

-- ---- the sheets before a sheet

pub record OlderSoFar (b : List ℕ) (newest : Numbers) (rest : List ℕ) (turn sheets : ℕ) : Type 0 where
  pub few : sheets + length rest ≤ length b
  pub same : good_before newest newest.turn (sheets_of b) ≡ good_before newest turn (sheets_of rest)
  pub count : length (sheets_of b) ≡ sheets + length (sheets_of rest)

module _ (b : List ℕ) (newest : Numbers) where
  abbrev whole : Option ℕ
  whole = older_of newest newest.turn (sheets_of b)

  pub older_begun : OlderSoFar b newest b newest.turn 0
  older_begun = record { few = omega arith; same = refl; count = omega arith }

  module _ {rest : List ℕ} {turn sheets : ℕ} (so : OlderSoFar b newest rest turn sheets) where
    older_bad : good_before newest turn (sheets_of rest) ≡ false → None ≡ whole
    older_bad g = rw (so.same, g)

    pub older_ended : length rest ≡ 0 → Some sheets ≡ whole
    unfolding good_before
    older_ended h =
        let none : sheets_of rest ≡ [] = sheets_none rest h in
        let all : length (sheets_of b) ≡ sheets = so.count ∙ rw none (omega arith) in
        rw (so.same, none, all)

    module _ (r : Option Back) (is : r ≡ step_back rest (length rest)) where
      pub older_none : (length rest ≡ 0 → ⊥) → r ≡ None → None ≡ whole
      unfolding good_before
      older_none h e = older_bad (rw (sheets_cut rest (omega arith), none_end rest r is e))

      module _ (s : Back) (e : r ≡ Some s) where
        step : Stepped rest (length rest) s
        step = stepped rest (length rest) r is s e

        left : length (take s.start rest) ≡ s.start
        left = length-take-le s.start rest (omega (arith, step.starts))

        pub older_front : s.start ≡ length (take s.start rest)
        older_front = sym left

        pub older_room : s.start ≤ length rest
        older_room = omega (arith, step.starts)

        pub older_less : length (take s.start rest) < length rest
        older_less = omega (arith, step.starts, left)

        pub older_fits : Fits w64 (length b) → Fits w64 (sheets + 1)
        older_fits f = record { fits = omega (arith, so.few, step.starts, f.fits) }

        module _ (t : Bool) (test : t ≡ fits_before s.numbers newest turn) where
          goes_on : good_before newest turn (sheets_of rest) ≡ t && good_before newest s.numbers.turn (sheets_of (take s.start rest))
          unfolding good_before
          goes_on =
              rw (sheets_end rest s step, step.is_good)
              (ap (λ (x : Numbers). fits_before x newest turn && good_before newest x.turn (sheets_of (take s.start rest))) (sym step.numbers_are)
              ∙ ap (λ (u : Bool). u && good_before newest s.numbers.turn (sheets_of (take s.start rest))) (sym test))

          pub older_misfit : not t ≡ true → None ≡ whole
          older_misfit off = older_bad (goes_on ∙ rw (not-true t off))

          pub older_turned : not t ≡ false → OlderSoFar b newest (take s.start rest) s.numbers.turn (sheets + 1)
          older_turned on =
              let one : length (sheets_of rest) ≡ suc (length (sheets_of (take s.start rest))) = ap length (sheets_end rest s step) in
              record {
                few = omega (arith, so.few, step.starts, left);
                same = so.same ∙ goes_on ∙ rw (not-false t on);
                count = so.count ∙ omega (arith, one);
              }

pub ruleset olders = (older_begun, older_ended, older_none, older_room, older_front, older_less, older_fits, older_misfit, older_turned)

-- ---- the whole book

module _ (b : List ℕ) where
  abbrev of_book : Result (Option Seen) Refusal
  of_book = examined_of b

  pub examine_empty : length b ≡ 0 → Ok None ≡ of_book
  unfolding good_sheets
  examine_empty e = rw (sheets_none b e)

  module _ (some : length b ≡ 0 → ⊥) (r : Option Back) (is : r ≡ step_back b (length b)) where
    up : 0 < length b
    up = omega arith

    pub examine_none : r ≡ None → Err refusal.BookNotGood ≡ of_book
    examine_none e =
        rw (sheets_cut b up, good_is_before (last_sheet b) (sheets_of (before b)), none_end b r is e)

    module _ (s : Back) (e : r ≡ Some s) where
      last : Stepped b (length b) s
      last = stepped b (length b) r is s e

      pub examine_room : s.start ≤ length b
      examine_room = omega (arith, last.starts)

      pub examine_front : s.start ≡ length (take s.start b)
      examine_front = sym (length-take-le s.start b examine_room)

      sheets_are : sheets_of b ≡ part_of b s.start (length b) ∷ sheets_of (take s.start b)
      sheets_are = sheets_end b s last

      good_is : good_book b ≡ good_before s.numbers s.numbers.turn (sheets_of (take s.start b))
      good_is =
          ap good_sheets sheets_are
          ∙ good_is_before (part_of b s.start (length b)) (sheets_of (take s.start b))
          ∙ rw last.is_good
          (ap (λ (x : Numbers). good_before x x.turn (sheets_of (take s.start b))) (sym last.numbers_are))

      module _ (o : Option ℕ) (found : o ≡ older_of s.numbers s.numbers.turn (sheets_of (take s.start b))) where
        pub examine_older : o ≡ None → Err refusal.BookNotGood ≡ of_book
        examine_older is_bad = by_test (good_book b) refl
          where
            by_test : (g : Bool) → good_book b ≡ g → Err refusal.BookNotGood ≡ of_book
            by_test false g = rw g
            by_test true g = absurd (none-some (length (sheets_of (take s.start b))) (sym is_bad ∙ found ∙ rw (sym good_is ∙ g)))

        so_many : (k : ℕ) → o ≡ Some k → (good_book b ≡ true) × (k ≡ length (sheets_of (take s.start b)))
        so_many k is-so =
            let told = cond_some (good_before s.numbers s.numbers.turn (sheets_of (take s.start b))) _ k (sym found ∙ is-so) in
            (good_is ∙ told.0, sym told.1)

        pub examine_fits : (k : ℕ) → o ≡ Some k → Fits w64 (length b) → Fits w64 (k + 1)
        examine_fits k is-so f =
            let long : length (take s.start b) ≡ s.start = length-take-le s.start b examine_room in
            record { fits = omega (arith, (so_many k is-so).1, sheets_few (take s.start b), long, last.starts, f.fits) }

        pub examine_sheets : (k : ℕ) → o ≡ Some k → Ok (Some (record { sheets = k + 1; newest = s.numbers })) ≡ of_book
        examine_sheets k is-so =
            let so = so_many k is-so in
            let all : k + 1 ≡ suc (length (sheets_of (take s.start b))) = omega (arith, so.1) in
            ap (λ (x : ℕ). Ok (Some (record { sheets = x; newest = s.numbers }))) all
            ∙ ap (λ (n : Numbers). Ok (Some (record { sheets = suc (length (sheets_of (take s.start b))); newest = n }))) last.numbers_are
            ∙ sym (rw (so.0, sheets_are))

pub ruleset examines = (examine_empty, examine_none, examine_room, examine_front, examine_older, examine_fits, examine_sheets)
