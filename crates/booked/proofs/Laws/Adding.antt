-- Laws of `added_of` and `room_of` (crates/book/specs/Adding.antt), and of one more sheet.
--   follows                    one more sheet: all are good exactly if they were and it may follow
--   Added, added               what is so where a sheet is added
-- Assumes nothing.
use mathlib.Core.Path.{◌≡◌, refl, sym, ap, ◌∙◌}
use mathlib.Core.Logic.{◌↔◌}
use mathlib.Core.Bool.{true, ◌&&◌}
use mathlib.Core.List.{List, [], ◌∷◌, ◌++◌}
use Prim.Native.Nat.{ℕ, ◌+◌, ◌-◌, ◌≤◌}
use lib.Dec.{eqb}
use lib.ListN.{length, drop}
use borrow.Author.Tests.{not-false, eq-eqb, ltb-false}
use Rattle.answer.specs.Answer.{answered}
use Rattle.answer.proofs.Laws.{answered_only_if, changed_if}
use Rattle.layout.specs.declared.Numbers.{Numbers}
use Rattle.numbers.proofs.Tests.{neither, tested}
use Rattle.sheet.specs.Good.{good}
use Rattle.book.specs.Good.{numbers_in, every_sheet, same_shelf, in_turn, good_sheets, good_book}
use Rattle.book.specs.Adding.{becomes, add_rules, added_of, room_of}
use Rattle.booked.specs.Adding.{Follows}

-- ---- one more sheet

-- sheets are of one shelf with this one, or with another of the same desks and cells
one_shelf : (n o : Numbers) → n.desks ≡ o.desks → n.cells ≡ o.cells → (ss : List (List ℕ))
    → every_sheet (λ x. same_shelf (numbers_in x) n) ss ≡ every_sheet (λ x. same_shelf (numbers_in x) o) ss
one_shelf n o desks cells ss =
    ap (λ (d : ℕ). every_sheet (λ x. eqb (numbers_in x).desks d && eqb (numbers_in x).cells n.cells) ss) desks
    ∙ ap (λ (m : ℕ). every_sheet (λ x. eqb (numbers_in x).desks o.desks && eqb (numbers_in x).cells m) ss) cells

module _ (s : List ℕ) (g : good s ≡ true) where
  pub follows : (ss : List (List ℕ)) → (good_sheets (s ∷ ss) ≡ true) ↔ ((good_sheets ss ≡ true) × Follows s ss)
  unfolding good_sheets
  follows [] = (λ e. (refl, tt), λ given. rw g)
  follows (o ∷ os) = (only_if, if_so)
    where
      only_if : good_sheets (s ∷ o ∷ os) ≡ true → (good_sheets (o ∷ os) ≡ true) × Follows s (o ∷ os)
      only_if e =
          let desks : (numbers_in o).desks ≡ (numbers_in s).desks = search tested depth 7 in
          let cells : (numbers_in o).cells ≡ (numbers_in s).cells = search tested depth 7 in
          let turns : (numbers_in o).turn + 1 ≡ (numbers_in s).turn = search tested depth 7 in
          let all : every_sheet good (o ∷ os) ≡ true = search tested in
          let shelf : every_sheet (λ x. same_shelf (numbers_in x) (numbers_in s)) os ≡ true = search tested in
          let turn : in_turn (o ∷ os) ≡ true = search tested in
          (rw (all, ← (one_shelf (numbers_in s) (numbers_in o) (sym desks) (sym cells) os), shelf, turn), (sym desks, sym cells, sym turns))

      if_so : (good_sheets (o ∷ os) ≡ true) × Follows s (o ∷ os) → good_sheets (s ∷ o ∷ os) ≡ true
      if_so given =
          let so = given.0 in
          let desks = eq-eqb (numbers_in o).desks (numbers_in s).desks (sym given.1.0) in
          let cells = eq-eqb (numbers_in o).cells (numbers_in s).cells (sym given.1.1) in
          let turns = eq-eqb ((numbers_in o).turn + 1) (numbers_in s).turn (sym given.1.2) in
          let all : every_sheet good (o ∷ os) ≡ true = search tested in
          let shelf : every_sheet (λ x. same_shelf (numbers_in x) (numbers_in o)) os ≡ true = search tested in
          let turn : in_turn (o ∷ os) ≡ true = search tested in
          rw (g, all, desks, cells, one_shelf (numbers_in s) (numbers_in o) given.1.0 given.1.1 os, shelf, turns, turn)

-- ---- where a sheet is added

pub record Added (room : List ℕ) (len : ℕ) (s : List ℕ) (new : ℕ) : Type 0 where
  pub is_good : good s ≡ true
  pub within : len ≤ length room
  pub becomes_good : good_book (becomes room len s) ≡ true
  pub has_room : length s ≤ length room - len
  pub new_is : len + length s ≡ new
  pub room_is : room_of room len s ≡ becomes room len s ++ drop (len + length s) room

pub added : (room : List ℕ) (len : ℕ) (s : List ℕ) (new : ℕ) → added_of room len s ≡ answered new → Added room len s new
unfolding added_of room_of
added room len s new e =
    let rules = add_rules room len s in
    let carried_out = answered_only_if rules (len + length s) new e in
    let silent = carried_out.0 in
    let both = neither _ _ silent.1.0 in
    record {
      is_good = not-false (good s) silent.0;
      within = ltb-false (length room) len both.0;
      becomes_good = not-false (good_book (becomes room len s)) both.1;
      has_room = ltb-false (length room - len) (length s) silent.1.1.0;
      new_is = carried_out.1;
      room_is = changed_if rules room (becomes room len s ++ drop (len + length s) room) silent;
    }
