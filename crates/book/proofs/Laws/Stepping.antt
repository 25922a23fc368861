-- Laws of `step_back` (specs/Stepping.antt).
--   part_is                        the last sheet up to a place is a part of the book
--   step_sheet, step_none          what a step gives, by `good` alone
--   steps, back_steps              sets of the laws of a step's code: where something is known already, and in `step_back` itself
--   step_good, step_bad            what it answers when the sheet was read; read_good, read_bad by where the code found its start
--   step_known, step_untested      what it answers where the sheet is known to be good
--   Stepped, stepped               what is so where a step gave a sheet: it is the last of those up to the place, and the others end at its start
--   stepped_none                   where it gave none within the book, the last sheet up to the place is not good
-- Assumes nothing.
use mathlib.Core.Path.{◌≡◌, refl, sym, ap, ◌∙◌, subst}
use mathlib.Core.Bool.{Bool, true, false, not, ◌&&◌, and-false}
use mathlib.Core.List.{List, ◌∷◌}
use Prim.Native.Nat.{ℕ, ◌+◌, ◌*◌, ◌-◌, ◌<◌, ◌≤◌}
use native.Mathlib.Omega.{arith}
use lib.Dec.{leb}
use lib.ListN.{length, take, drop, length-drop}
use lib.Seq.{length-take-le, take-take, take-length, drop-drop}
use borrow.Author.Tests.{le-leb, lt-leb, leb-true, leb-false, not-true, not-false}
use native.Mathlib.Nat.{sub-zero}
use Rattle.std.specs.Prelude.{Option, Some, None, Result, Ok, Err, slice_range}
use Rattle.std.specs.Result.{result_ok}
use Rattle.std.proofs.lemmas.Option.{none-some, same_Some, cond_some}
use Rattle.std.proofs.lemmas.List.{take_rest}
use Rattle.layout.specs.declared.Numbers.{Numbers}
use Rattle.layout.specs.declared.Trailer.{Trailer}
use Rattle.layout.specs.Layout.{entries_of, trailer_of, trailer_in, numbers_of}
use Rattle.std.proofs.lemmas.List.{drop-take}
use Rattle.numbers.proofs.Tests.{tested}
use Rattle.answer.specs.declared.Refusal.{Refusal}
use Rattle.sheet.specs.Good.{good}
use Rattle.sheet.specs.Clauses.{good_trailer, good_entries, good_entries_in}
use Rattle.sheet.specs.Reading.{reading_of, said_read, trailer_at_end}
use Rattle.sheet.proofs.Laws.Good.{good_is, fair_trailer, too_short_is_bad, good_is_long, good_trailer_is_fair}
use Rattle.sheet.proofs.Laws.Reading.{said_good, said_bad}
use Rattle.book.specs.declared.Back.{Back}
use Rattle.book.specs.Sheets.{last_start, last_sheet, sheets_of}
use Rattle.book.specs.Good.{numbers_in}
use Rattle.book.specs.Stepping.{part_of, step_back}
use Rattle.book.proofs.Laws.Sheets.{start_within, sheets_cut}

-- a step that gives a sheet
abbrev pub back : (start end : ℕ) → Numbers → Option Back
back start end n = Some (record { start = start; end = end; numbers = n })

-- what a reading came to, of which the numbers alone are kept
was_read : (r : Result Numbers Refusal) (n : Numbers) → Some n ≡ result_ok r → r ≡ Ok n
was_read (Ok m) n e = ap Ok (sym (same_Some n m e))
was_read (Err x) n e = absurd (none-some n (sym e))

was_refused : (r : Result Numbers Refusal) → None ≡ result_ok r → (x : Refusal) × (r ≡ Err x)
was_refused (Ok m) e = absurd (none-some m e)
was_refused (Err x) e = (x, refl)

module _ (b : List ℕ) (place : ℕ) where
  abbrev up_to : List ℕ
  up_to = take place b

  pub step_beyond : length b < place → None ≡ step_back b place
  unfolding step_back
  step_beyond h = rw (lt-leb place (length b) h)

  pub step_none : good (last_sheet up_to) ≡ false → None ≡ step_back b place
  unfolding step_back
  step_none g = rw (g, and-false)

  -- as the code takes it
  pub front : (u : List ℕ) → u ≡ slice_range b 0 place → u ≡ up_to
  front u is = is ∙ ap (λ (i : ℕ). take i b) (sub-zero place)

  module _ (within : place ≤ length b) where
    long : length up_to ≡ place
    long = length-take-le place b within

    pub part_is : last_sheet up_to ≡ part_of b (last_start up_to) place
    part_is =
        let whole : last_start up_to + (place - last_start up_to) ≡ place = omega (arith, start_within up_to, long) in
        ap (λ (i : ℕ). drop (last_start up_to) (take i b)) (sym whole) ∙ drop-take (last_start up_to) (place - last_start up_to) b

    pub step_sheet : good (last_sheet up_to) ≡ true → step_back b place ≡ back (last_start up_to) place (numbers_in (last_sheet up_to))
    unfolding step_back
    step_sheet g = rw (le-leb place (length b) within, g)

    pub step_short : place < 12 → None ≡ step_back b place
    step_short h = step_none (too_short_is_bad (last_sheet up_to) (omega (arith, length-drop (last_start up_to) up_to, long)))

    -- what the trailer up to the place says
    module _ (u : List ℕ) (whole : u ≡ up_to) (t : Trailer) (is : t ≡ trailer_at_end u) where
      reads : 12 ≤ place → t ≡ trailer_in up_to
      unfolding trailer_at_end
      reads far = is ∙ ap trailer_at_end whole ∙ rw (le-leb 12 (length up_to) (omega (arith, long)))

      start_is : 12 ≤ place → last_start up_to ≡ place - (t.distance + 12)
      start_is far = omega (arith, long, ap (λ (x : Trailer). x.distance) (reads far))

      pub step_far : (t.distance + 12 ≤ place → ⊥) → None ≡ step_back b place
      step_far h = by_length (leb 12 place) refl (good (last_sheet up_to)) refl
        where
          by_length : (f : Bool) → leb 12 place ≡ f → (g : Bool) → good (last_sheet up_to) ≡ g → None ≡ step_back b place
          by_length false f g e = step_short (leb-false 12 place f)
          by_length true f false e = step_none e
          by_length true f true e =
              let far = leb-true 12 place f in
              let front : last_start up_to ≡ 0 = omega (arith, start_is far) in
              let all : good up_to ≡ true = subst (λ (i : ℕ). good (drop i up_to) ≡ true) front e in
              let same : t.distance ≡ (trailer_in up_to).distance = ap (λ (x : Trailer). x.distance) (reads far) in
              absurd (h (omega (arith, (good_trailer_is_fair up_to all).distance_is_back, same, long)))

      module _ (room : t.distance + 12 ≤ place) where
        far : 12 ≤ place
        far = omega arith

        sheet_is : take (place - (place - (t.distance + 12))) (drop (place - (t.distance + 12)) b) ≡ last_sheet up_to
        sheet_is = ap (λ (i : ℕ). part_of b i place) (sym (start_is far)) ∙ sym part_is

        sheet_long : length (last_sheet up_to) ≡ t.distance + 12
        sheet_long = length-drop (last_start up_to) up_to ∙ omega (arith, start_is far, long)

        -- the sheet's trailer is the one up to the place
        its_trailer : trailer_in (last_sheet up_to) ≡ t
        its_trailer =
            let at : last_start up_to + (length (last_sheet up_to) - 12) ≡ length up_to - 12 = omega (arith, sheet_long, start_is far, long) in
            ap trailer_of (drop-drop (length (last_sheet up_to) - 12) (last_start up_to) up_to ∙ ap (λ (i : ℕ). drop i up_to) at)
            ∙ sym (reads far)

        pub step_known : good (last_sheet up_to) ≡ true → (n : Numbers) → n ≡ numbers_of t → back (place - (t.distance + 12)) place n ≡ step_back b place
        step_known g n numbers =
            ap (λ (i : ℕ). back i place n) (sym (start_is far))
            ∙ ap (λ (x : Numbers). back (last_start up_to) place x) (numbers ∙ ap numbers_of (sym its_trailer))
            ∙ sym (step_sheet g)

        pub step_untested : (0 < place → good (last_sheet up_to) ≡ true) → (n : Numbers) → n ≡ numbers_of t → back (place - (t.distance + 12)) place n ≡ step_back b place
        step_untested g n numbers = step_known (g (omega arith)) n numbers

        -- the part that the code reads, of what stands up to the place
        pub part_read : (start : ℕ) → start ≡ place - (t.distance + 12) → take (length u - start) (drop start u) ≡ last_sheet up_to
        part_read start is_start =
            let at : start ≡ last_start up_to = is_start ∙ sym (start_is far) in
            ap (λ (l : List ℕ). take (length l - start) (drop start l)) whole
            ∙ ap (λ (i : ℕ). take (length up_to - i) (drop i up_to)) at
            ∙ take_rest up_to (last_start up_to)

        module _ (part : List ℕ) (is_part : part ≡ last_sheet up_to) (r : Result Numbers Refusal) (said : said_read part r ≡ reading_of part) where
          pub step_good : (n : Numbers) → Some n ≡ result_ok r → back (place - (t.distance + 12)) place n ≡ step_back b place
          step_good n e =
              let found = said_good part r n (was_read r n e) said in
              step_known (sym (ap good is_part) ∙ found.0) n (found.1 ∙ ap (λ (s : List ℕ). numbers_of (trailer_in s)) is_part ∙ ap numbers_of its_trailer)

          pub step_bad : None ≡ result_ok r → None ≡ step_back b place
          step_bad e = let x = was_refused r e in step_none (sym (ap good is_part) ∙ said_bad part r x.0 x.1 said)

        -- the same of the part that the code reads, from a start that it has found
        module _ (start : ℕ) (is_start : start ≡ place - (t.distance + 12)) (r : Result Numbers Refusal) (said : said_read (take (length u - start) (drop start u)) r ≡ reading_of (take (length u - start) (drop start u))) where
          pub read_good : (n : Numbers) → Some n ≡ result_ok r → back start place n ≡ step_back b place
          read_good n e = rw is_start (step_good _ (part_read start is_start) r said n e)

          pub read_bad : None ≡ result_ok r → None ≡ step_back b place
          read_bad e = step_bad _ (part_read start is_start) r said e

        -- the sheet is good exactly if its two parts are
        by_parts : good (last_sheet up_to) ≡ good_trailer t t.distance && good_entries t.cells (entries_of t.entries (last_sheet up_to))
        by_parts =
            let back_is : length (last_sheet up_to) - 12 ≡ t.distance = omega (arith, sheet_long) in
            good_is (last_sheet up_to) (omega (arith, sheet_long))
            ∙ ap (λ (x : Trailer). good_trailer x (length (last_sheet up_to) - 12) && good_entries x.cells (entries_of x.entries (last_sheet up_to))) its_trailer
            ∙ ap (λ (k : ℕ). good_trailer t k && good_entries t.cells (entries_of t.entries (last_sheet up_to))) back_is

        module _ (g : Bool) (test : g ≡ good_trailer t t.distance) (on : not g ≡ false) (e : Bool) (tests : e ≡ good_entries_in (take (place - (place - (t.distance + 12))) (drop (place - (t.distance + 12)) b)) t.entries t.cells) where
          has_room : 6 * t.entries ≤ length (last_sheet up_to)
          has_room =
              let fair = fair_trailer t t.distance (sym test ∙ not-false g on) in
              omega (arith, fair.distance_is_entries, sheet_long)

          entries_are : good (last_sheet up_to) ≡ e
          entries_are =
              by_parts
              ∙ rw (sym test ∙ not-false g on)
              (sym (tests ∙ ap (λ (s : List ℕ). good_entries_in s t.entries t.cells) sheet_is ∙ rw (le-leb (6 * t.entries) (length (last_sheet up_to)) has_room)))

          pub tested_entries : not e ≡ true → None ≡ step_back b place
          tested_entries off = step_none (entries_are ∙ not-true e off)

          pub tested_good : not e ≡ false → (n : Numbers) → n ≡ numbers_of t → back (place - (t.distance + 12)) place n ≡ step_back b place
          tested_good yes_then n numbers = step_known (entries_are ∙ not-false e yes_then) n numbers

      pub tested_trailer : (g : Bool) → g ≡ good_trailer t t.distance → not g ≡ true → None ≡ step_back b place
      tested_trailer g test off = by_room (leb (t.distance + 12) place) refl
        where
          by_room : (f : Bool) → leb (t.distance + 12) place ≡ f → None ≡ step_back b place
          by_room false f = step_far (λ h. omega (arith, h, leb-false (t.distance + 12) place f))
          by_room true f = step_none (by_parts (leb-true (t.distance + 12) place f) ∙ rw (sym test ∙ not-true g off))

-- the whole of a slice is what stands up to its end
pub all_of : (b : List ℕ) → b ≡ take (length b) b
all_of b = sym (take-length b)

pub ruleset back_steps = (front, step_beyond, step_far, read_good, read_bad)

pub ruleset steps = (all_of, step_beyond, step_short, step_far, tested_trailer, tested_entries, tested_good)

-- ---- what a step tells

pub record Stepped (b : List ℕ) (place : ℕ) (s : Back) : Type 0 where
  pub within : place ≤ length b
  pub ends : s.end ≡ place
  pub starts : s.start + 12 ≤ place
  pub is_good : good (part_of b s.start place) ≡ true
  pub numbers_are : s.numbers ≡ numbers_in (part_of b s.start place)
  pub sheets_are : sheets_of (take place b) ≡ part_of b s.start place ∷ sheets_of (take s.start b)

module _ (b : List ℕ) (place : ℕ) where
  abbrev reached : List ℕ
  reached = take place b

  -- a good last sheet up to a place
  good_last : place ≤ length b → good (last_sheet reached) ≡ true
      → Stepped b place (record { start = last_start reached; end = place; numbers = numbers_in (last_sheet reached) })
  good_last within g =
      let start = last_start reached in
      let same : last_sheet reached ≡ part_of b start place = part_is b place within in
      let size : length (last_sheet reached) ≡ length reached - start = length-drop start reached in
      let tall : length reached ≡ place = length-take-le place b within in
      let far : start + 12 ≤ place = omega (arith, good_is_long (last_sheet reached) g, size, tall) in
      record {
        within = within;
        ends = refl;
        starts = far;
        is_good = sym (ap good same) ∙ g;
        numbers_are = ap numbers_in same;
        sheets_are =
            sheets_cut reached (omega (arith, tall))
            ∙ ap (λ (s : List ℕ). s ∷ sheets_of (take start reached)) same
            ∙ ap (λ (l : List ℕ). part_of b start place ∷ sheets_of l) (take-take start place b (omega arith));
      }

  module _ (r : Option Back) (is : r ≡ step_back b place) where
    pub stepped : (s : Back) → r ≡ Some s → Stepped b place s
    unfolding step_back
    stepped s e =
        let given = cond_some (leb place (length b) && good (last_sheet reached)) _ s (sym is ∙ e) in
        subst (Stepped b place) given.1 (good_last (leb-true place (length b) (search (given.0, tested))) (search (given.0, tested)))

    pub stepped_none : r ≡ None → place ≤ length b → good (last_sheet reached) ≡ false
    stepped_none e within = by_test (good (last_sheet reached)) refl
      where
        by_test : (g : Bool) → good (last_sheet reached) ≡ g → good (last_sheet reached) ≡ false
        by_test false g = g
        by_test true g = absurd (none-some _ (sym e ∙ is ∙ step_sheet b place within g))

-- a step from the end of all of them
module _ (b : List ℕ) where
  pub sheets_end : (s : Back) → Stepped b (length b) s → sheets_of b ≡ part_of b s.start (length b) ∷ sheets_of (take s.start b)
  sheets_end s step = ap sheets_of (all_of b) ∙ step.sheets_are

  pub none_end : (r : Option Back) → r ≡ step_back b (length b) → r ≡ None → good (last_sheet b) ≡ false
  none_end r is e = ap (λ (l : List ℕ). good (last_sheet l)) (all_of b) ∙ stepped_none b (length b) r is e (omega arith)
