-- What specs/Adding.antt states of adding.
--   added_to : AddedTo adding02, added_lookup : AddedLookup adding02 lookup_of
--   add_refused : AddRefused adding02, adds_if : AddsIf adding02
--   good_with_one_more : GoodWithOneMore, none_after_the_last : NoneAfterTheLast adding02
-- Assumes nothing.
use mathlib.Core.Path.{◌≡◌, refl, sym, ap, ◌∙◌, subst}
use mathlib.Core.Logic.{◌⊎◌, inl, inr}
use mathlib.Core.Bool.{Bool, true, false, not, ◌||◌, or-true}
use mathlib.Core.List.{List, [], ◌∷◌, ◌++◌}
use Prim.Native.Nat.{ℕ, ◌+◌, ◌-◌, ◌<◌, ◌≤◌}
use native.Mathlib.Omega.{arith}
use lib.Dec.{ltb}
use lib.ListN.{length, take, drop, length-append, length-drop}
use lib.Seq.{length-take-le, take_at, drop_at}
use borrow.Author.Tests.{not-true, not-false, ltb-true, ltb-false, lt-ltb, le-ltb}
use Rattle.answer.specs.Answer.{refused, answered}
use Rattle.answer.specs.Promises.{First, this, later}
use Rattle.answer.proofs.Laws.{refused_only_if, refused_if, answered_if, unchanged_if}
use Rattle.numbers.proofs.Tests.{neither}
use Rattle.layout.specs.declared.Entry.{Entry}
use Rattle.layout.specs.Layout.{content_in}
use Rattle.sheet.specs.Good.{good}
use Rattle.sheet.proofs.Laws.Good.{good_trailer_is_fair}
use Rattle.book.specs.Sheets.{sheets_of}
use Rattle.book.specs.Good.{numbers_in, good_sheets, good_book}
use Rattle.book.specs.Lookup.{entry, newest, cells_of, lookup_of}
use Rattle.book.specs.Adding.{becomes, add_rules, added_of, room_of}
use Rattle.book.proofs.Laws.Sheets.{sheets_behind}
use Rattle.booked.specs.Lookups.{HasEntry, HasNone}
use Rattle.booked.specs.Adding.{adding02, SheetAdded, AddedTo, AddedLookup, AddRefused, Follows, GoodWithOneMore, AddsIf, NoneAfterTheLast}
use Rattle.booked.proofs.Laws.Entries.{found_entry, found_none}
use Rattle.booked.proofs.Laws.Newest.{newest_here, newest_older, looked_up}
use Rattle.booked.proofs.Laws.Adding.{follows, Added, added}

pub good_with_one_more : GoodWithOneMore
good_with_one_more b s g =
    let is : good_book (b ++ s) ≡ good_sheets (s ∷ sheets_of b) = ap good_sheets (sheets_behind b s g) in
    let both = follows s g (sheets_of b) in
    (λ e. both.0 (sym is ∙ e), λ given. is ∙ both.1 given)

-- ---- a sheet is added

module _ (room : List ℕ) (len : ℕ) (s : List ℕ) (new : ℕ) (a : Added room len s new) where
  long : length (becomes room len s) ≡ new
  long = length-append (take len room) s ∙ ap (λ (k : ℕ). k + length s) (length-take-le len room a.within) ∙ a.new_is

  end : length (becomes room len s) ≡ len + length s
  end = long ∙ sym a.new_is

  at_the_end : take new (room_of room len s) ≡ becomes room len s
  at_the_end = ap (take new) a.room_is ∙ take_at (becomes room len s) (drop (len + length s) room) new long

  sheet_added : SheetAdded room len s new (room_of room len s)
  sheet_added =
      record {
        new_length = sym a.new_is;
        has_room = omega (arith, a.within, a.has_room, a.new_is);
        at_the_end = at_the_end;
        stay =
            ap (drop new) a.room_is
            ∙ drop_at (becomes room len s) (drop (len + length s) room) new long
            ∙ ap (λ (k : ℕ). drop k room) a.new_is;
        as_long =
            ap length a.room_is
            ∙ length-append (becomes room len s) (drop (len + length s) room)
            ∙ omega (arith, end, length-drop (len + length s) room, a.within, a.has_room);
        one_more = ap sheets_of at_the_end ∙ sheets_behind (take len room) s a.is_good;
        is_good = ap good_book at_the_end ∙ a.becomes_good;
        was_good = ((good_with_one_more (take len room) s a.is_good).0 a.becomes_good).0;
      }

pub added_to : AddedTo adding02
added_to room len s new e = sheet_added room len s new (added room len s new e)

-- ---- a lookup then

-- a cell of the sheet's shelf is one of the book before, too
was_below : (s : List ℕ) → good s ≡ true → (ss : List (List ℕ)) → Follows s ss → (cell : ℕ) → cell < (numbers_in s).cells → cell < cells_of ss
was_below s g [] f cell h = omega (arith, (good_trailer_is_fair s g).cells_most)
was_below s g (o ∷ older) f cell h = omega (arith, f.1)

module _ (room : List ℕ) (len : ℕ) (s : List ℕ) (new : ℕ) (e : added_of room len s ≡ answered new) (cell : ℕ) (h : cell < (numbers_in s).cells) where
  after : SheetAdded room len s new (room_of room len s)
  after = added_to room len s new e

  abbrev then : List ℕ
  then = take new (room_of room len s)

  sheet_good : good s ≡ true
  sheet_good = (added room len s new e).is_good

  looks : lookup_of then cell ≡ answered (newest cell (s ∷ sheets_of (take len room)))
  looks =
      looked_up then cell after.is_good (subst (λ (ss : List (List ℕ)). cell < cells_of ss) (sym after.one_more) h)
      ∙ ap (λ (ss : List (List ℕ)). answered (newest cell ss)) after.one_more

  from_sheet : (x : Entry) → HasEntry cell s x → lookup_of then cell ≡ answered (entry (content_in x) (numbers_in s).turn)
  from_sheet x has =
      looks ∙ ap answered (newest_here cell s (sheets_of (take len room)) x (found_entry cell s sheet_good x has))

  as_before : HasNone cell s → lookup_of then cell ≡ lookup_of (take len room) cell
  as_before no_entry =
      let follow = ((good_with_one_more (take len room) s sheet_good).0 (added room len s new e).becomes_good).1 in
      looks
      ∙ ap answered (newest_older cell s (sheets_of (take len room)) (found_none cell s no_entry))
      ∙ sym (looked_up (take len room) cell after.was_good (was_below s sheet_good (sheets_of (take len room)) follow cell h))

pub added_lookup : AddedLookup adding02 lookup_of
added_lookup = record { from_sheet = from_sheet; as_before = as_before }

-- ---- a sheet is refused

pub add_refused : AddRefused adding02
unfolding added_of room_of
add_refused room len s k e =
    unchanged_if {rs = add_rules room len s} room (becomes room len s ++ drop (len + length s) room)
    (refused_only_if (add_rules room len s) (len + length s) k e)

module _ (room : List ℕ) (len : ℕ) (s : List ℕ) where
  by_13 : First 13 (add_rules room len s) → good s ≡ false
  by_13 (this p n) = not-true (good s) p
  by_13 (later p (this q n)) = absurd (omega arith)
  by_13 (later p (later q (this r n))) = absurd (omega arith)
  by_13 (later p (later q (later _ x))) = elim x [ ]

  beyond_or_bad : (t g : Bool) → (t || not g) ≡ true → (t ≡ true) ⊎ (g ≡ false)
  beyond_or_bad true g e = inl refl
  beyond_or_bad false g e = inr (not-true g e)

  by_23 : First 23 (add_rules room len s) → (good s ≡ true) × ((length room < len) ⊎ (good_book (becomes room len s) ≡ false))
  by_23 (this p n) = absurd (omega arith)
  by_23 (later p (this q n)) = (not-false (good s) p, which (beyond_or_bad (ltb (length room) len) (good_book (becomes room len s)) q))
    where
      which : (ltb (length room) len ≡ true) ⊎ (good_book (becomes room len s) ≡ false) → (length room < len) ⊎ (good_book (becomes room len s) ≡ false)
      which (inl t) = inl (ltb-true (length room) len t)
      which (inr g) = inr g
  by_23 (later p (later q (this r n))) = absurd (omega arith)
  by_23 (later p (later q (later _ x))) = elim x [ ]

  by_11 : First 11 (add_rules room len s)
      → (good s ≡ true) × (len ≤ length room) × (good_book (becomes room len s) ≡ true) × (length room < len + length s)
  by_11 (this p n) = absurd (omega arith)
  by_11 (later p (this q n)) = absurd (omega arith)
  by_11 (later p (later q (this r n))) =
      let both = neither _ _ q in
      let within = ltb-false (length room) len both.0 in
      let short = ltb-true (length room - len) (length s) r in
      (not-false (good s) p, within, not-false (good_book (becomes room len s)) both.1, omega arith)
  by_11 (later p (later q (later _ x))) = elim x [ ]

  beyond_is : (length room < len) ⊎ (good_book (becomes room len s) ≡ false) → (ltb (length room) len || not (good_book (becomes room len s))) ≡ true
  beyond_is (inl h) = rw (lt-ltb (length room) len h)
  beyond_is (inr g) = rw g (or-true (ltb (length room) len))

  only_if : (k : ℕ) → added_of room len s ≡ refused k → First k (add_rules room len s)
  unfolding added_of
  only_if k e = refused_only_if (add_rules room len s) (len + length s) k e

  if_first : (k : ℕ) → First k (add_rules room len s) → added_of room len s ≡ refused k
  unfolding added_of
  if_first k f = refused_if (len + length s) f

  module _ (g : good s ≡ true) where
    if_23 : (length room < len) ⊎ (good_book (becomes room len s) ≡ false) → added_of room len s ≡ refused 23
    if_23 bad = if_first 23 (later (rw g) (this (beyond_is bad) refl))

    module _ (within : len ≤ length room) (b : good_book (becomes room len s) ≡ true) where
      if_11 : length room < len + length s → added_of room len s ≡ refused 11
      if_11 short =
          if_first 11
          (later (rw g) (later (rw (le-ltb (length room) len within, b)) (this (lt-ltb (length room - len) (length s) (omega arith)) refl)))

      if_room : len + length s ≤ length room → added_of room len s ≡ answered (len + length s)
      unfolding added_of
      if_room h =
          answered_if (add_rules room len s) (len + length s)
          (rw g, (rw (le-ltb (length room) len within, b), (le-ltb (length room - len) (length s) (omega arith), tt)))

  if_added : added_of room len s ≡ answered (len + length s) → (good s ≡ true) × (good_book (becomes room len s) ≡ true) × (len + length s ≤ length room)
  if_added e = let a = added room len s (len + length s) e in (a.is_good, a.becomes_good, omega (arith, a.within, a.has_room))

pub adds_if : AddsIf adding02
adds_if =
    record {
      exactly_13 = λ room len s. (λ e. by_13 room len s (only_if room len s 13 e), λ g. if_first room len s 13 (this (rw g) refl));
      exactly_23 = λ room len s. (λ e. by_23 room len s (only_if room len s 23 e), λ given. if_23 room len s given.0 given.1);
      exactly_11 =
          λ room len s.
          (λ e. by_11 room len s (only_if room len s 11 e), λ given. if_11 room len s given.0 given.1 given.2 given.3);
      exactly_added =
          λ room len s.
          (if_added room len s, λ given. if_room room len s given.0 (omega (arith, given.2)) given.1 given.2);
    }

-- 01: "the turn number is at most 4,294,967,294"
pub none_after_the_last : NoneAfterTheLast adding02
none_after_the_last room len o older are last s g =
    if_23 room len s g (inr (by_test (good_book (becomes room len s)) refl))
  where
    by_test : (t : Bool) → good_book (becomes room len s) ≡ t → good_book (becomes room len s) ≡ false
    by_test false e = e
    by_test true e =
        let follow : Follows s (o ∷ older) = subst (Follows s) are ((good_with_one_more (take len room) s g).0 e).1 in
        let most = (good_trailer_is_fair s g).turn_most in
        absurd (omega (arith, follow.2, last, most))
