-- Laws of the calls (specs/Counting.antt, specs/Lookup.antt, specs/Adding.antt), by what one pass
-- through the book finds.
--   passed_on                      what an exit by `?` returns
--   told_bad, told_good            what it says of the book
--   counted, its_cells             how many sheets and cells the code takes from it
--   count_bad, count_good          what `count` answers, by them
--   lookup_bad .. lookup_newest    a lookup, by them
--   read_is                        what the sheet's reading gives, by `good` alone
--   add_not_good .. add_laid       what `add` answers and leaves, by what it knows at each of its returns; refusing: at an exit by `?`
-- Assumes nothing.
use mathlib.Core.Path.{◌≡◌, refl, sym, ap, ◌∙◌}
use mathlib.Core.Bool.{Bool, true, false, cond, not, ◌&&◌, and-true, and-false}
use mathlib.Core.List.{List, [], ◌∷◌}
use Prim.Native.Nat.{ℕ, ◌+◌, ◌-◌, ◌≤◌}
use native.Mathlib.Omega.{arith}
use lib.Dec.{eqb, leb, ltb}
use lib.ListN.{length, take}
use borrow.Author.Tests.{lt-ltb, le-ltb, leb-true, leb-false, ltb-false, not-true, not-false}
use Rattle.std.specs.Prelude.{Option, Result, Ok, Err, MatchOption, IsErrAnd}
use Rattle.answer.specs.Answer.{Answer, refused, answered}
use Rattle.answer.specs.declared.Refusal.{Refusal}
use Rattle.answer.specs.declared.Refusal.TheVariants as refusal
use Rattle.answer.specs.Refusals.{number_of, refused_when}
use Rattle.answer.proofs.Refusals.{when_went_on, when_refused}
use Rattle.layout.specs.declared.Numbers.{Numbers}
use Rattle.laying.specs.Laying.{laid_over}
use Rattle.laying.proofs.Laws.{laid}
use Rattle.numbers.proofs.Tests.{and_left, tested}
use Rattle.sheet.specs.Good.{good}
use Rattle.sheet.specs.Reading.{Sheet, reading_of, said_read}
use Rattle.sheet.proofs.Laws.Reading.{good_read, bad_read, said_good, said_bad, said_read_tells_apart}
use Rattle.book.specs.declared.examined.Seen.{Seen}
use Rattle.book.specs.declared.Found.{Found}
use Rattle.book.specs.Sheets.{sheets_of}
use Rattle.book.specs.Good.{numbers_in, every_sheet, good_sheets, good_book}
use Rattle.book.specs.Counting.{count_of, said_count}
use Rattle.book.specs.Lookup.{LastSet, blank, entry, newest, cells_of, lookup_of, last_set, said_found}
use Rattle.book.specs.Adding.{becomes, added_of, room_of, Adds}
use Rattle.book.specs.Parts.{fits_before, good_before, sheets_found, examined_of, takes_next, found_of}
use Rattle.book.proofs.Laws.Good.{good_is_before, good_behind}

-- what an exit by `?` returns
pub passed_on : {A : Type 0} (q : Result A Refusal) (r : Refusal) → IsErrAnd q (λ e. e ≡ r) → q ≡ Err r
passed_on (Ok a) r h = absurd h
passed_on (Err e) r h = ap Err h

-- ---- what a pass says of the book

module _ (b : List ℕ) (x : Result (Option Seen) Refusal) (is : x ≡ examined_of b) where
  by_good : (P : Type 0) → (good_book b ≡ true → x ≡ Ok (sheets_found (sheets_of b)) → P) → (good_book b ≡ false → x ≡ Err refusal.BookNotGood → P) → P
  by_good P yes_then no_then = by_test (good_book b) refl
    where
      by_test : (g : Bool) → good_book b ≡ g → P
      by_test true g = yes_then g (is ∙ rw g)
      by_test false g = no_then g (is ∙ rw g)

  pub told_bad : (r : Refusal) → x ≡ Err r → (good_book b ≡ false) × (r ≡ refusal.BookNotGood)
  told_bad r e =
      by_good ((good_book b ≡ false) × (r ≡ refusal.BookNotGood))
      (λ g f. let same = sym e ∙ f in let z : ◌≡◌ {A = ℕ} 0 1 = cc in absurd (omega arith))
      (λ g f. let same = sym e ∙ f in (g, cc))

  pub told_good : (o : Option Seen) → x ≡ Ok o → (good_book b ≡ true) × (o ≡ sheets_found (sheets_of b))
  told_good o e =
      by_good ((good_book b ≡ true) × (o ≡ sheets_found (sheets_of b)))
      (λ g f. let same = sym e ∙ f in (g, cc))
      (λ g f. let same = sym e ∙ f in let z : ◌≡◌ {A = ℕ} 0 1 = cc in absurd (omega arith))

counted : (ss : List (List ℕ)) (o : Option Seen) → o ≡ sheets_found ss → (n : ℕ) → MatchOption o (n ≡ 0) (λ s. n ≡ s.sheets) → n ≡ length ss
counted [] o is n h = rw is at h
counted (s ∷ ss) o is n h = rw is at h

its_cells : (ss : List (List ℕ)) (o : Option Seen) → o ≡ sheets_found ss → (m : ℕ) → MatchOption o (m ≡ 64) (λ s. m ≡ s.newest.cells) → m ≡ cells_of ss
its_cells [] o is m h = rw is at h
its_cells (s ∷ ss) o is m h = rw is at h

-- what a reading of the sheet gives
pub read_is : (s : List ℕ) (r : Result Numbers Refusal) → said_read s r ≡ reading_of s → r ≡ cond (good s) (Ok (numbers_in s)) (Err refusal.SheetNotGood)
read_is s r said = by_test (good s) refl
  where
    by_test : (g : Bool) → good s ≡ g → r ≡ cond g (Ok (numbers_in s)) (Err refusal.SheetNotGood)
    by_test true g = said_read_tells_apart s r (Ok (numbers_in s)) (said ∙ good_read s g)
    by_test false g = said_read_tells_apart s r (Err refusal.SheetNotGood) (said ∙ bad_read s g)

-- ---- count, lookup

module _ (b : List ℕ) (x : Result (Option Seen) Refusal) (is : x ≡ examined_of b) where
  pub count_bad : (r : Refusal) → x ≡ Err r → (q : Result ℕ Refusal) → IsErrAnd q (λ e. e ≡ r) → said_count q ≡ count_of b
  unfolding count_of
  count_bad r e q h = let told = told_bad b x is r e in rw (passed_on q r h, told.1, told.0)

  pub count_good : (o : Option Seen) → x ≡ Ok o → (n : ℕ) → MatchOption o (n ≡ 0) (λ s. n ≡ s.sheets) → answered n ≡ count_of b
  unfolding count_of
  count_good o e n h = let told = told_good b x is o e in rw (told.0, counted (sheets_of b) o told.1 n h)

last_set_again : (l : LastSet) → last_set (found_of l) ≡ l
last_set_again blank = refl
last_set_again (entry c turn) = refl

module _ (b : List ℕ) (cell : ℕ) (x : Result (Option Seen) Refusal) (is : x ≡ examined_of b) where
  pub lookup_bad : (r : Refusal) → x ≡ Err r → (q : Result (Option Found) Refusal) → IsErrAnd q (λ e. e ≡ r) → said_found q ≡ lookup_of b cell
  unfolding lookup_of
  lookup_bad r e q h = let told = told_bad b x is r e in rw (passed_on q r h, told.1, told.0)

  module _ (o : Option Seen) (e : x ≡ Ok o) where
    pub lookup_good : every_sheet good (sheets_of b) ≡ true
    unfolding good_sheets
    lookup_good = and_left _ _ (and_left _ _ (told_good b x is o e).0)

    module _ (m : ℕ) (cells : MatchOption o (m ≡ 64) (λ s. m ≡ s.newest.cells)) where
      are : m ≡ cells_of (sheets_of b)
      are = its_cells (sheets_of b) o (told_good b x is o e).1 m cells

      pub lookup_no_cell : (r : Refusal) → Err r ≡ refused_when refusal.CellNotBelow (leb m cell)
          → (q : Result (Option Found) Refusal) → IsErrAnd q (λ e. e ≡ r) → said_found q ≡ lookup_of b cell
      unfolding lookup_of
      lookup_no_cell r outside q h =
          let told = when_refused refusal.CellNotBelow (leb m cell) r outside in
          let past : ltb cell (cells_of (sheets_of b)) ≡ false = ap (ltb cell) (sym are) ∙ le-ltb cell m (leb-true m cell told.0) in
          rw (passed_on q r h, told.1, (told_good b x is o e).0, past)

      pub lookup_newest : Ok (tt {0}) ≡ refused_when refusal.CellNotBelow (leb m cell)
          → (f : Option Found) → f ≡ found_of (newest cell (sheets_of b)) → answered (last_set f) ≡ lookup_of b cell
      unfolding lookup_of
      lookup_newest within f found =
          let below = leb-false m cell (when_went_on refusal.CellNotBelow (leb m cell) within) in
          let there : ltb cell (cells_of (sheets_of b)) ≡ true = ap (ltb cell) (sym are) ∙ lt-ltb cell m below in
          rw ((told_good b x is o e).0, there)
          (ap answered (ap last_set found ∙ last_set_again (newest cell (sheets_of b))))

-- ---- add

-- only desks and cells of the newest count
same_shelf : (n o : Numbers) → n.desks ≡ o.desks → n.cells ≡ o.cells → (turn : ℕ) (ss : List (List ℕ)) → good_before n turn ss ≡ good_before o turn ss
unfolding good_before
same_shelf n o desks cells turn [] = refl
same_shelf n o desks cells turn (s ∷ ss) =
    let x = numbers_in s in
    ap (λ (d : ℕ). good s && (eqb x.desks d && eqb x.cells n.cells && eqb (x.turn + 1) turn) && good_before n x.turn ss) desks
    ∙ ap (λ (m : ℕ). good s && (eqb x.desks o.desks && eqb x.cells m && eqb (x.turn + 1) turn) && good_before n x.turn ss) cells
    ∙ ap (λ (u : Bool). good s && fits_before x o turn && u) (same_shelf n o desks cells x.turn ss)

-- tests in another order, the last one the same where the third holds
in_order : (a b c t : Bool) → (t ≡ true → b ≡ c) → a && b && t ≡ a && t && c
in_order a b c true same = rw (same refl, and-true, and-true)
in_order a b c false same = rw (and-false, and-false)

-- a sheet with these numbers can be added exactly if all before it are good and fit it
takes_is : (n : Numbers) (ss : List (List ℕ)) → good_sheets ss && takes_next (sheets_found ss) n ≡ good_before n n.turn ss
unfolding good_sheets good_before
takes_is n [] = refl
takes_is n (o ∷ os) =
    let x = numbers_in o in
    ap (λ (g : Bool). g && fits_before x n n.turn) (good_is_before o os)
    ∙ in_order (good o) (good_before x x.turn os) (good_before n x.turn os) (fits_before x n n.turn)
    (λ t. same_shelf x n (search tested) (search tested) x.turn os)

module _ (room : List ℕ) (len : ℕ) (s : List ℕ) where
  add_refused : (r : Refusal) → added_of room len s ≡ refused (number_of r) → room_of room len s ≡ room → Adds room len s (Err r) room
  add_refused r a stays = record { answers = sym a; room = sym stays }

  module _ (r : Result Numbers Refusal) (reads : said_read s r ≡ reading_of s) where
    pub add_not_good : (x : Refusal) → r ≡ Err x → Adds room len s (Err x) room
    unfolding added_of room_of
    add_not_good x e =
        let g = said_bad s r x e reads in
        let thirteen : ◌≡◌ {A = Answer Sheet} (refused (number_of x)) (refused 13) = ap (said_read s) (sym e) ∙ reads ∙ bad_read s g in
        let number : number_of x ≡ 13 = cc in
        add_refused x (rw (g, number)) (rw g)

    module _ (n : Numbers) (e : r ≡ Ok n) where
      is_good : good s ≡ true
      is_good = (said_good s r n e reads).0

      pub add_beyond : (q : Refusal) → Err q ≡ refused_when refusal.BookNotGood (ltb (length room) len) → Adds room len s (Err q) room
      unfolding added_of room_of
      add_beyond q off =
          let told = when_refused refusal.BookNotGood (ltb (length room) len) q off in
          rw told.1
          (add_refused refusal.BookNotGood (rw (is_good, told.0)) (rw (is_good, told.0)))

      module _ (on_book : Ok (tt {0}) ≡ refused_when refusal.BookNotGood (ltb (length room) len)) where
        inside : ltb (length room) len ≡ false
        inside = when_went_on refusal.BookNotGood (ltb (length room) len) on_book

        pub within : len ≤ length room
        within = ltb-false (length room) len inside

        becomes_good : good_book (becomes room len s) ≡ good_book (take len room) && takes_next (sheets_found (sheets_of (take len room))) n
        becomes_good =
            good_behind (take len room) s is_good
            ∙ ap (λ (m : Numbers). good_before m m.turn (sheets_of (take len room))) (sym (said_good s r n e reads).1)
            ∙ sym (takes_is n (sheets_of (take len room)))

        -- not good, or not with this sheet
        add_not_so : good_book (becomes room len s) ≡ false → (q : Refusal) → q ≡ refusal.BookNotGood → Adds room len s (Err q) room
        unfolding added_of room_of
        add_not_so g q is = rw is (add_refused refusal.BookNotGood (rw (is_good, inside, g)) (rw (is_good, inside, g)))

        module _ (x : Result (Option Seen) Refusal) (is : x ≡ examined_of (take len room)) where
          pub add_bad : (q : Refusal) → x ≡ Err q → Adds room len s (Err q) room
          add_bad q bad =
              let told = told_bad (take len room) x is q bad in
              add_not_so (becomes_good ∙ rw told.0) q told.1

          module _ (o : Option Seen) (seen : x ≡ Ok o) (t : Bool) (test : t ≡ takes_next o n) where
            becomes_so : good_book (becomes room len s) ≡ t
            becomes_so =
                let told = told_good (take len room) x is o seen in
                becomes_good ∙ rw (told.0, ← told.1) (sym test)

            pub add_misfit : (q : Refusal) → Err q ≡ refused_when refusal.BookNotGood (not t) → Adds room len s (Err q) room
            add_misfit q off =
                let told = when_refused refusal.BookNotGood (not t) q off in
                add_not_so (becomes_so ∙ not-true t told.0) q told.1

            module _ (on : Ok (tt {0}) ≡ refused_when refusal.BookNotGood (not t)) where
              fits : good_book (becomes room len s) ≡ true
              fits = becomes_so ∙ not-false t (when_went_on refusal.BookNotGood (not t) on)

              pub add_no_room : (q : Refusal) → Err q ≡ refused_when refusal.BufferShort (ltb (length room - len) (length s)) → Adds room len s (Err q) room
              unfolding added_of room_of
              add_no_room q off =
                  let told = when_refused refusal.BufferShort (ltb (length room - len) (length s)) q off in
                  rw told.1
                  (add_refused refusal.BufferShort (rw (is_good, inside, fits, told.0)) (rw (is_good, inside, fits, told.0)))

              pub add_laid : Ok (tt {0}) ≡ refused_when refusal.BufferShort (ltb (length room - len) (length s))
                  → (after : List ℕ) → after ≡ laid_over room len s → Adds room len s (Ok (len + length s)) after
              unfolding added_of room_of
              add_laid on_room after is_laid =
                  let short = when_went_on refusal.BufferShort (ltb (length room - len) (length s)) on_room in
                  let enough = ltb-false (length room - len) (length s) short in
                  record {
                    answers = rw (is_good, inside, fits, short);
                    room = is_laid ∙ laid room len s (omega (arith, within, enough)) ∙ sym (rw (is_good, inside, fits, short));
                  }

  -- an exit by `?`
  pub refusing : (q : Result ℕ Refusal) (r : Refusal) → IsErrAnd q (λ e. e ≡ r) → Adds room len s (Err r) room → Adds room len s q room
  refusing q r h adds = rw (passed_on q r h) adds
