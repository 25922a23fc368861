-- Laws of a desk in order (Laws/InOrder.antt).
--   desk_sound, some_desks, turn_desk_lem, turn_below      its record is sound, there are desks, and which has the turn
--   own_last                                           a desk whose turn it is has got as far as the line
--   near                                               all sheets sent are below a desk's turn number + n: its next sheet of its own is not sent
--   NextHeld, next_held                                what the place of the desk whose turn it is holds is the desk's next sheet
--   none_left                                          a desk that has got as far as the line has all places free
-- Assumes nothing.
use Prim.Native.Nat.{ℕ, ◌+◌, ◌%◌, ◌<◌}
use mathlib.Core.Path.{◌≡◌, sym, ap, ◌∙◌}
use mathlib.Core.Bool.{true, false, false≢true}
use mathlib.Core.List.{List}
use native.Mathlib.Omega.{arith}
use native.Mathlib.Nat.{mod-lt}
use native.Mathlib.Decide.{dec_lt}
use lib.ListN.{length}
use Rattle.sound.specs.Head.{turn_desk}
use Rattle.tray.specs.Tray.{free, sheet_at, holds_good}
use Rattle.desk.specs.declared.Desk.{Desk}
use Rattle.desk.proofs.Laws.Allowed.{SoundDesk, desk_says}
use Rattle.runs.specs.Run.{Shelf, SentSheet, sheet_on}
use Rattle.runs.proofs.Laws.InOrder.{PlaceInOrder, is_free, holds_sheet, DeskInOrder}
use Rattle.runs.proofs.Laws.Cyclic.{window, Next, next}

-- ---- a desk in order

module _ {shelf : Shelf} {line : List SentSheet} {p : ℕ} {d : Desk} {tray : List ℕ} (o : DeskInOrder shelf line p d tray) where
  pub desk_sound : SoundDesk d
  desk_sound = desk_says d o.as_opened.is_sound

  pub some_desks : 0 < shelf.n
  some_desks = omega (arith, desk_sound.desks_least, o.as_opened.n)

  pub own_last : d.head.turn % shelf.n ≡ p → d.head.turn ≡ length line
  own_last e = by_test (dec_lt d.head.turn (length line))
    where
      by_test : Dec (d.head.turn < length line) → d.head.turn ≡ length line
      by_test (yes l) = absurd (omega (arith, o.past_own d.head.turn l e))
      by_test (no l) = omega (arith, o.no_further)

  pub near : length line < d.head.turn + shelf.n
  near = by_test (dec_lt mine.k (length line))
    where
      here : p < shelf.n
      here = omega (arith, desk_sound.own_below, o.as_opened.n, o.as_opened.own)

      mine : Next shelf.n p d.head.turn
      mine = next shelf.n p d.head.turn here

      by_test : Dec (mine.k < length line) → length line < d.head.turn + shelf.n
      by_test (yes l) = absurd (omega (arith, o.past_own mine.k l mine.leaves, mine.least))
      by_test (no l) = omega (arith, mine.near)

  -- the desk whose turn it is
  pub turn_desk_lem : turn_desk d.head ≡ d.head.turn % shelf.n
  turn_desk_lem = ap (λ (n : ℕ). d.head.turn % n) o.as_opened.n

  pub turn_below : turn_desk d.head < shelf.n
  turn_below = rw turn_desk_lem (mod-lt d.head.turn some_desks)

-- ---- its next sheet

module _ {shelf : Shelf} {line : List SentSheet} {p : ℕ} {d : Desk} {tray : List ℕ} (o : DeskInOrder shelf line p d tray) where
  -- what the place of the desk whose turn it is holds, where it is not free
  pub record NextHeld : Type 0 where
    pub sent : d.head.turn < length line
    pub holds_good_lem : holds_good tray (turn_desk d.head) ≡ true
    pub is : sheet_at tray (turn_desk d.head) ≡ (sheet_on line d.head.turn).bytes

  pub next_held : free tray (turn_desk d.head) ≡ false → NextHeld
  next_held f = by_place (o.places (turn_desk d.head) (turn_below o))
    where
      by_place : PlaceInOrder shelf.n line d.head.turn tray (turn_desk d.head) → NextHeld
      by_place (is_free e) = absurd (false≢true (sym f ∙ e))
      by_place (holds_sheet k sent due from g e) =
          let same : d.head.turn ≡ k = window shelf.n d.head.turn k due (omega (arith, near o)) (sym (turn_desk_lem o) ∙ sym from) in
          record { sent = omega arith; holds_good_lem = g; is = e ∙ ap (λ (j : ℕ). (sheet_on line j).bytes) (sym same) }

  -- where no sheet is left to take, all places are free
  pub none_left : d.head.turn ≡ length line → (q : ℕ) → q < shelf.n → free tray q ≡ true
  none_left far q l = by_place (o.places q l)
    where
      by_place : PlaceInOrder shelf.n line d.head.turn tray q → free tray q ≡ true
      by_place (is_free f) = f
      by_place (holds_sheet k sent due from g e) = absurd (omega (arith, far))
