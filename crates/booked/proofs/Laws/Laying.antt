-- Laws of `laid_all` (specs/Laid.antt).
--   laid_at                    a place after one sheet: the value of its entry, or what it had
--   laid_all_lem                   a place after all sheets: the content that is found
-- Assumes nothing.
use mathlib.Core.Path.{◌≡◌, refl, sym, ap, ◌∙◌}
use mathlib.Core.Bool.{Bool, true, false}
use mathlib.Core.List.{List, [], ◌∷◌}
use Rattle.std.specs.Prelude.{Option, Some, None}
use Prim.Native.Nat.{ℕ, ◌<◌}
use native.Mathlib.Omega.{arith}
use lib.Dec.{eqb}
use lib.IntN.{pos}
use lib.ListN.{length, replicate, length-replicate, get_or-replicate}
use borrow.Author.Tests.{eqb-true, eqb-false}
use Rattle.numbers.proofs.Tests.{tested}
use Rattle.layout.specs.declared.Entry.{Entry}
use Rattle.sheet.specs.Good.{rising, good}
use Rattle.sheet.proofs.Laws.Good.{good_entries_are}
use Rattle.cells.specs.Cells.{place_at, put_if}
use Rattle.cells.proofs.Laws.{in_place, place_put, place_kept, place_length}
use Rattle.applying.specs.Applying.{goes, laid, kind_on, day_on}
use Rattle.applying.proofs.Laws.{Every, laid_length, laid_kept}
use Rattle.book.specs.Good.{every_sheet}
use Rattle.book.specs.Lookup.{entries_in, entry_on, newest}
use Rattle.booked.specs.Laid.{laid_all, content_laid, content_found}
use Rattle.booked.proofs.Laws.Entries.{later_above}
use Rattle.booked.proofs.Laws.Newest.{newest_here, newest_older}

-- an entry's value, or what was there
abbrev or_kept : {A : Type 0} → (Entry → A) → Option Entry → A → A
or_kept value None a = a
or_kept value (Some e) a = value e

module _ {A : Type 0} (pkind : List ℕ) (value : Entry → A) (blank_one : A) where
  abbrev lay : List A → List Entry → List A
  lay = laid (goes true pkind) value

  abbrev put : List A → Entry → List A
  put l e = put_if true l e.cell (value e)

  long_all : (ss : List (List ℕ)) → length (laid_all pkind value blank_one ss) ≡ 64
  unfolding laid_all
  long_all [] = length-replicate 64 blank_one
  long_all (s ∷ older) = laid_length (goes true pkind) value (laid_all pkind value blank_one older) (entries_in s) ∙ long_all older

  module _ (cell : ℕ) (h : cell < 64) where
    abbrev at : List A → A
    at l = place_at blank_one l cell

    -- ---- one sheet

    others : (c : ℕ) (es : List Entry) → c ≡ cell → Every (λ e. c < e.cell) es → Every (λ e. goes true pkind e ≡ true → e.cell ≡ cell → ⊥) es
    others c [] same all = tt
    others c (e ∷ es) same all = (λ on is. omega (arith, all.0), others c es same all.1)

    laid_at : (l : List A) (es : List Entry) → length l ≡ 64 → rising es ≡ true → at (lay l es) ≡ or_kept value (entry_on cell es) (at l)
    unfolding laid entry_on
    laid_at l [] long r = refl
    laid_at l (e ∷ es) long r =
        by_test (laid_at (put l e) es (place_length true l e.cell (value e) ∙ long) (search tested)) (eqb e.cell cell) refl
      where
        by_test : at (lay (put l e) es) ≡ or_kept value (entry_on cell es) (at (put l e))
            → (t : Bool) → eqb e.cell cell ≡ t → at (lay (put l e) es) ≡ or_kept value (entry_on cell (e ∷ es)) (at l)
        by_test rest true q =
            let is : e.cell ≡ cell = eqb-true e.cell cell q in
            let above = later_above e.cell e.cell es (omega arith) (search tested) (search tested) in
            rw q
            (laid_kept blank_one (goes true pkind) value cell (put l e) es (others e.cell es is above)
            ∙ ap (λ (i : ℕ). at (put_if true l i (value e))) is
            ∙ place_put blank_one l cell (value e) long h)
        by_test rest false q =
            let other = eqb-false e.cell cell q in
            rw q (rest ∙ ap (or_kept value (entry_on cell es)) (place_kept blank_one l e.cell (value e) true cell (λ same. other (sym same))))

    -- ---- all sheets

    laid_none : at (laid_all pkind value blank_one []) ≡ blank_one
    unfolding laid_all
    laid_none = sym (in_place blank_one (replicate 64 blank_one) cell h) ∙ get_or-replicate 64 cell blank_one blank_one h

    laid_one : (s : List ℕ) (older : List (List ℕ)) → good s ≡ true
        → at (laid_all pkind value blank_one (s ∷ older)) ≡ or_kept value (entry_on cell (entries_in s)) (at (laid_all pkind value blank_one older))
    unfolding laid_all
    laid_one s older g = laid_at (laid_all pkind value blank_one older) (entries_in s) (long_all older) (search (good_entries_are s g, tested))

module _ (pkind : List ℕ) (cell : ℕ) (h : cell < 64) where
  pub laid_all_lem : (ss : List (List ℕ)) → every_sheet good ss ≡ true → content_found (newest cell ss) ≡ content_laid pkind ss cell
  unfolding newest
  laid_all_lem [] g = sym (rw (laid_none pkind kind_on 0 cell h))
  laid_all_lem (s ∷ older) g = by_case (laid_all_lem older (search tested)) (entry_on cell (entries_in s)) refl
    where
      kinds : place_at 0 (laid_all pkind kind_on 0 (s ∷ older)) cell ≡ or_kept kind_on (entry_on cell (entries_in s)) (place_at 0 (laid_all pkind kind_on 0 older) cell)
      kinds = laid_one pkind kind_on 0 cell h s older (search tested)

      days : place_at (pos 0) (laid_all pkind day_on (pos 0) (s ∷ older)) cell ≡ or_kept day_on (entry_on cell (entries_in s)) (place_at (pos 0) (laid_all pkind day_on (pos 0) older) cell)
      days = laid_one pkind day_on (pos 0) cell h s older (search tested)

      by_case : content_found (newest cell older) ≡ content_laid pkind older cell
          → (o : Option Entry) → entry_on cell (entries_in s) ≡ o → content_found (newest cell (s ∷ older)) ≡ content_laid pkind (s ∷ older) cell
      by_case rest None q = ap content_found (newest_older cell s older q) ∙ rest ∙ sym (rw (kinds, days, q))
      by_case rest (Some e) q = ap content_found (newest_here cell s older e q) ∙ sym (rw (kinds, days, q))
