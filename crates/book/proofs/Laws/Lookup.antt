-- Laws of `newest` and `entry_on` (specs/Lookup.antt): a lookup, as the code goes.
--   HitSoFar, hits                 the loop over a sheet's entries: what was passed over is another cell's; a set for `search`
--   NewestSoFar, newests           the loop back through a book: no sheet so far has the cell; a set for `search`
-- Assumes nothing.
use mathlib.Core.Path.{◌≡◌, refl, sym, ap, ◌∙◌}
use mathlib.Core.Bool.{Bool, true, false, false≢true}
use mathlib.Core.List.{List, [], ◌∷◌}
use Prim.Native.Nat.{ℕ, suc, ◌+◌, ◌*◌, ◌<◌, ◌≤◌}
use native.Mathlib.Omega.{arith}
use native.Mathlib.Numerals.{add-one}
use lib.Dec.{eqb}
use lib.ListN.{length, get_or, take, drop, drop_of_length-le}
use lib.Seq.{drop-cons, length-take-le, get_or-drop}
use borrow.Author.Tests.{eq-eqb, ne_eqb, le-leb, eqb-true, eqb-false}
use Rattle.std.specs.Prelude.{Option, Some, None}
use Rattle.content.specs.declared.Content.{Content}
use Rattle.layout.specs.declared.Entry.{Entry}
use Rattle.layout.specs.declared.Numbers.{Numbers}
use Rattle.layout.specs.Layout.{entry_of, entries_of, content_in}
use Rattle.layout.proofs.Laws.{entries_count, entry_of_entries}
use Rattle.numbers.proofs.Tests.{and_left, and_right}
use Rattle.sheet.specs.Good.{good}
use Rattle.sheet.specs.Reading.{no_entry, entry_at}
use Rattle.sheet.proofs.Laws.Good.{good_length}
use Rattle.book.specs.declared.Back.{Back}
use Rattle.book.specs.declared.Found.{Found}
use Rattle.book.specs.Sheets.{last_sheet, before, sheets_of}
use Rattle.book.specs.Good.{numbers_in, every_sheet}
use Rattle.book.specs.Stepping.{part_of, step_back}
use Rattle.book.specs.Lookup.{entry, entries_in, entry_on, or_older, newest}
use Rattle.book.specs.Parts.{found_of}
use Rattle.book.proofs.Laws.Sheets.{sheets_none, sheets_cut}
use Rattle.book.proofs.Laws.Stepping.{Stepped, stepped, sheets_end, none_end}

-- ---- a sheet's entries

pub record HitSoFar (s : List ℕ) (count cell k : ℕ) : Type 0 where
  pub room : 6 * count + 12 ≤ length s
  pub within : k ≤ count
  pub passed : entry_on cell (entries_of count s) ≡ entry_on cell (drop k (entries_of count s))

module _ (s : List ℕ) (count cell : ℕ) where
  abbrev es : List Entry
  es = entries_of count s

  pub hit_begun : 6 * count + 12 ≤ length s → HitSoFar s count cell 0
  hit_begun h = record { room = h; within = omega arith; passed = refl }

  module _ {k : ℕ} (so : HitSoFar s count cell k) where
    pub hit_none : count ≤ k → None ≡ entry_on cell es
    unfolding entry_on
    hit_none h = rw (so.passed, drop_of_length-le es {i = k} (omega (arith, entries_count count s)))

    module _ (h : k < count) where
      stands : drop k es ≡ entry_at s k ∷ drop (k + 1) es
      stands =
          let at : entry_at s k ≡ entry_of (drop (6 * k) s) = rw (le-leb (6 * k + 18) (length s) (omega (arith, so.room))) in
          let same : get_or es k no_entry ≡ entry_at s k = entry_of_entries count k s no_entry h ∙ sym at in
          drop-cons es k no_entry (omega (arith, entries_count count s))
          ∙ ap (λ (x : Entry). x ∷ drop (suc k) es) same
          ∙ ap (λ (i : ℕ). entry_at s k ∷ drop i es) (sym (add-one k))

      -- an entry's cell is its first byte
      its_cell : (entry_at s k).cell ≡ get_or s (6 * k) 0
      its_cell =
          let at : entry_at s k ≡ entry_of (drop (6 * k) s) = rw (le-leb (6 * k + 18) (length s) (omega (arith, so.room))) in
          let first : 6 * k + 0 ≡ 6 * k = omega arith in
          ap (λ (e : Entry). e.cell) at ∙ get_or-drop (6 * k) s 0 0 ∙ ap (λ (i : ℕ). get_or s i 0) first

      pub hit_found : get_or s (6 * k) 0 ≡ cell → (e : Entry) → e ≡ entry_at s k → Some e ≡ entry_on cell es
      unfolding entry_on
      hit_found c e entry_is =
          ap Some entry_is ∙ sym (rw (so.passed, stands, eq-eqb (entry_at s k).cell cell (its_cell ∙ c)))

      pub hit_turned : (get_or s (6 * k) 0 ≡ cell → ⊥) → HitSoFar s count cell (k + 1)
      unfolding entry_on
      hit_turned c =
          record {
            room = so.room;
            within = omega arith;
            passed = so.passed ∙ ap (entry_on cell) stands ∙ rw (ne_eqb (entry_at s k).cell cell (λ e. c (sym its_cell ∙ e)));
          }

pub ruleset hits = (hit_begun, hit_none, hit_found, hit_turned)

-- ---- back through a book

pub record NewestSoFar (b : List ℕ) (cell : ℕ) (rest : List ℕ) : Type 0 where
  pub all_good : every_sheet good (sheets_of rest) ≡ true
  pub passed : newest cell (sheets_of b) ≡ newest cell (sheets_of rest)

module _ (b : List ℕ) (cell : ℕ) where
  abbrev answer : Option Found
  answer = found_of (newest cell (sheets_of b))

  pub newest_begun : every_sheet good (sheets_of b) ≡ true → NewestSoFar b cell b
  newest_begun g = record { all_good = g; passed = refl }

  module _ {rest : List ℕ} (so : NewestSoFar b cell rest) where
    -- a step back from there need not test the sheet
    pub newest_known : 0 < length rest → good (last_sheet rest) ≡ true
    newest_known h =
        and_left (good (last_sheet rest)) (every_sheet good (sheets_of (before rest))) (sym (ap (every_sheet good) (sheets_cut rest h)) ∙ so.all_good)

    module _ (r : Option Back) (is : r ≡ step_back rest (length rest)) where
      none_left : r ≡ None → sheets_of rest ≡ []
      none_left e = by_test (eqb (length rest) 0) refl
        where
          by_test : (t : Bool) → eqb (length rest) 0 ≡ t → sheets_of rest ≡ []
          by_test true t = sheets_none rest (eqb-true (length rest) 0 t)
          by_test false t =
              let some = eqb-false (length rest) 0 t in
              absurd (false≢true (sym (none_end rest r is e) ∙ newest_known (omega arith)))

      pub newest_none : r ≡ None → None ≡ answer
      unfolding newest
      newest_none e = rw (so.passed, none_left e)

      module _ (s : Back) (e : r ≡ Some s) where
        step : Stepped rest (length rest) s
        step = stepped rest (length rest) r is s e

        pub newest_part_start : s.start ≤ s.end
        newest_part_start = omega (arith, step.starts, step.ends)

        pub newest_part_end : s.end ≤ length rest
        newest_part_end = omega (arith, step.ends)

        pub newest_front : s.start ≤ length rest
        newest_front = omega (arith, step.starts)

        pub newest_left : s.start ≡ length (take s.start rest)
        newest_left = sym (length-take-le s.start rest newest_front)

        pub newest_less : length (take s.start rest) < length rest
        newest_less = omega (arith, step.starts, length-take-le s.start rest newest_front)

        part : part_of rest s.start s.end ≡ part_of rest s.start (length rest)
        part = ap (part_of rest s.start) step.ends

        pub newest_room : 6 * s.numbers.entries + 12 ≤ length (part_of rest s.start s.end)
        newest_room =
            let many : s.numbers.entries ≡ (numbers_in (part_of rest s.start (length rest))).entries = ap (λ (x : Numbers). x.entries) step.numbers_are in
            let long : length (part_of rest s.start s.end) ≡ length (part_of rest s.start (length rest)) = ap length part in
            omega (arith, many, long, good_length (part_of rest s.start (length rest)) step.is_good)

        module _ (h : Option Entry) (looked : h ≡ entry_on cell (entries_of s.numbers.entries (part_of rest s.start s.end))) where
          looked_at : h ≡ entry_on cell (entries_in (part_of rest s.start (length rest)))
          looked_at =
              looked
              ∙ ap (λ (l : List ℕ). entry_on cell (entries_of s.numbers.entries l)) part
              ∙ ap (λ (x : Numbers). entry_on cell (entries_of x.entries (part_of rest s.start (length rest)))) step.numbers_are

          goes_on : newest cell (sheets_of b) ≡ or_older h s.numbers.turn (newest cell (sheets_of (take s.start rest)))
          unfolding newest
          goes_on =
              so.passed
              ∙ rw (sheets_end rest s step)
              (ap (λ (o : Option Entry). or_older o (numbers_in (part_of rest s.start (length rest))).turn (newest cell (sheets_of (take s.start rest)))) (sym looked_at)
              ∙ ap (λ (x : Numbers). or_older h x.turn (newest cell (sheets_of (take s.start rest)))) (sym step.numbers_are))

          pub newest_found : (x : Entry) → h ≡ Some x → (c : Content) → c ≡ content_in x → Some (record { content = c; turn = s.numbers.turn }) ≡ answer
          newest_found x e c content =
              let older = newest cell (sheets_of (take s.start rest)) in
              ap (λ (y : Content). found_of (entry y s.numbers.turn)) content
              ∙ sym (ap found_of (goes_on ∙ ap (λ (o : Option Entry). or_older o s.numbers.turn older) e))

          pub newest_turned : h ≡ None → NewestSoFar b cell (take s.start rest)
          newest_turned e =
              record {
                all_good = and_right (good (part_of rest s.start (length rest))) (every_sheet good (sheets_of (take s.start rest))) (sym (ap (every_sheet good) (sheets_end rest s step)) ∙ so.all_good);
                passed = goes_on ∙ rw e;
              }

pub ruleset newests = (newest_begun, newest_known, newest_none, newest_part_start, newest_part_end, newest_front, newest_left, newest_less, newest_room, newest_found, newest_turned)
