-- Laws of `entry_on` (crates/book/specs/Lookup.antt), by the entries that a sheet has.
--   every_in, sheet_in         what a test says of every entry, and of every sheet, it says of one
--   later_above                entries that rise: those behind one have higher cells
--   has_entry, has_none        what is found a sheet has; where none is found it has none
--   found_entry, found_none    what a good sheet has is found; where it has none, none is
-- Assumes nothing.
use mathlib.Core.Path.{◌≡◌, refl, sym, ap, ◌∙◌, subst}
use mathlib.Core.Bool.{Bool, true, false, cond}
use mathlib.Core.List.{List, [], ◌∷◌}
use Rattle.std.specs.Prelude.{Option, Some, None}
use Rattle.std.proofs.lemmas.Option.{none-some}
use Prim.Native.Nat.{ℕ, ◌<◌, ◌≤◌}
use native.Mathlib.Omega.{arith}
use lib.Dec.{eqb}
use borrow.Author.Tests.{eqb-true, eq-eqb, ne_eqb, ltb-true}
use Rattle.numbers.proofs.Tests.{tested}
use Rattle.layout.specs.declared.Entry.{Entry}
use Rattle.sheet.specs.Good.{every, next_above, rising, good}
use Rattle.sheet.proofs.Laws.Good.{good_entries_are}
use Rattle.applying.proofs.Laws.{Every}
use Rattle.book.specs.Good.{every_sheet}
use Rattle.book.specs.Lookup.{entries_in, entry_on}
use Rattle.booked.specs.Lookups.{In, here, further, HasEntry, HasNone}

-- ---- one of many

pub every_in : (p : Entry → Bool) {e : Entry} {es : List Entry} → In e es → every p es ≡ true → p e ≡ true
every_in p here g = search tested
every_in p (further i) g = every_in p i (search tested)

pub sheet_in : (p : List ℕ → Bool) {s : List ℕ} {ss : List (List ℕ)} → In s ss → every_sheet p ss ≡ true → p s ≡ true
sheet_in p here g = search tested
sheet_in p (further i) g = sheet_in p i (search tested)

-- ---- the entry for a cell

module _ (cell : ℕ) where
  entry_is_in : (es : List Entry) (e : Entry) → entry_on cell es ≡ Some e → In e es × (e.cell ≡ cell)
  unfolding entry_on
  entry_is_in [] e p = absurd (none-some e p)
  entry_is_in (x ∷ es) e p = by_test (entry_is_in es e) (eqb x.cell cell) refl p
    where
      by_test : (entry_on cell es ≡ Some e → In e es × (e.cell ≡ cell)) → (t : Bool) → eqb x.cell cell ≡ t → cond t (Some x) (entry_on cell es) ≡ Some e → In e (x ∷ es) × (e.cell ≡ cell)
      by_test rest true q p =
          let same : x ≡ e = cc in
          (subst (λ (y : Entry). In y (x ∷ es)) same here, ap (λ (y : Entry). y.cell) (sym same) ∙ eqb-true x.cell cell q)
      by_test rest false q p = let i = rest p in (further i.0, i.1)

  none_in : {e : Entry} {es : List Entry} → In e es → entry_on cell es ≡ None → e.cell ≡ cell → ⊥
  unfolding entry_on
  none_in {e = e} here p c = none-some e (sym p ∙ rw (eq-eqb e.cell cell c))
  none_in {e = e} (further {y = y} {l = es} i) p c = by_test (none_in i) (eqb y.cell cell) p
    where
      by_test : (entry_on cell es ≡ None → e.cell ≡ cell → ⊥) → (t : Bool) → cond t (Some y) (entry_on cell es) ≡ None → ⊥
      by_test rest true p = none-some y (sym p)
      by_test rest false p = rest p c

  entry_none : (es : List Entry) → ((e : Entry) → In e es → e.cell ≡ cell → ⊥) → entry_on cell es ≡ None
  entry_none es not_there = by_case (entry_on cell es) refl
    where
      by_case : (o : Option Entry) → entry_on cell es ≡ o → entry_on cell es ≡ None
      by_case None p = p
      by_case (Some e) p = let i = entry_is_in es e p in absurd (not_there e i.0 i.1)

-- ---- entries that rise

pub later_above : (c least : ℕ) (es : List Entry) → c ≤ least → next_above least es ≡ true → rising es ≡ true → Every (λ e. c < e.cell) es
later_above c least [] h n r = tt
later_above c least (e ∷ es) h n r =
    let first : least < e.cell = ltb-true least e.cell n in
    (omega arith, later_above c e.cell es (omega arith) (search tested) (search tested))

one_of : (Q : Entry → Type 0) {e : Entry} {es : List Entry} → In e es → Every Q es → Q e
one_of Q here all = all.0
one_of Q (further i) all = one_of Q i all.1

entry_only : (cell : ℕ) {e : Entry} {es : List Entry} → In e es → rising es ≡ true → e.cell ≡ cell → entry_on cell es ≡ Some e
unfolding entry_on
entry_only cell {e} here r c = rw (eq-eqb e.cell cell c)
entry_only cell {e} (further {y = y} {l = es} i) r c =
    let above = one_of (λ x. y.cell < x.cell) i (later_above y.cell y.cell es (omega arith) (search tested) (search tested)) in
    rw (ne_eqb y.cell cell (omega arith)) (entry_only cell i (search tested) c)

-- ---- of a sheet

module _ (cell : ℕ) (s : List ℕ) where
  pub has_entry : (e : Entry) → entry_on cell (entries_in s) ≡ Some e → HasEntry cell s e
  has_entry e p = let i = entry_is_in cell (entries_in s) e p in record { in_sheet = i.0; its_cell = i.1 }

  pub has_none : entry_on cell (entries_in s) ≡ None → HasNone cell s
  has_none p e has = none_in cell has.in_sheet p has.its_cell

  pub found_entry : good s ≡ true → (e : Entry) → HasEntry cell s e → entry_on cell (entries_in s) ≡ Some e
  found_entry g e has = entry_only cell has.in_sheet (search (good_entries_are s g, tested)) has.its_cell

  pub found_none : HasNone cell s → entry_on cell (entries_in s) ≡ None
  found_none no_entry = entry_none cell (entries_in s) (λ e i c. no_entry e (record { in_sheet = i; its_cell = c }))
