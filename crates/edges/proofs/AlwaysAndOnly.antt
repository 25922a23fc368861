-- What examples 5 and 6 say of every such desk and every sheet: by the rules of a read and of a delivery.
-- Assumes nothing.
use mathlib.Core.Path.{◌≡◌, refl, sym, ap, ◌∙◌}
use mathlib.Core.Bool.{Bool, true, false, not, ◌&&◌, and-false}
use mathlib.Core.List.{List}
use Prim.Native.Nat.{ℕ, ◌+◌, ◌*◌, ◌%◌, ◌≤◌, ◌<◌}
use native.Mathlib.Omega.{arith}
use native.Mathlib.Nat.{mod-lt}
use lib.Dec.{eqb, leb, ltb}
use lib.ListN.{length}
use borrow.Author.Tests.{eqb-true, eqb-false, eq-eqb, ne_eqb, lt-ltb, le-ltb, le-leb, lt-leb}
use Rattle.answer.specs.Answer.{refused, answered}
use Rattle.answer.proofs.Laws.{answered_only_if}
use Rattle.layout.specs.Layout.{trailer_in}
use Rattle.sheet.proofs.Laws.Good.{good_trailer_is_fair}
use Rattle.cells.specs.Cells.{content_at, blank, filled, anywhere}
use Rattle.sound.specs.Head.{sequential, own_turn, read_waits}
use Rattle.tray.specs.Tray.{free}
use Rattle.desk.specs.declared.Desk.{Desk}
use Rattle.desk.specs.Answers.{holds, waits, held}
use Rattle.desk.specs.Calls.{sound, read_rules, must_wait, read_of, deliver_rules, deliver_of}
use Rattle.desk.proofs.Laws.Allowed.{desk_says, read_allows, deliver_allows}
use Rattle.edges.specs.Examples.{FromDesk0, AlwaysAndOnly}
use Rattle.edges.proofs.Slips.{read_as_said, waits_is_no_content}

-- ---- example 5

-- on its own turn a desk's read is answered at once
own_turn_answers : (d : Desk) (i : ℕ) → own_turn d.head ≡ true → must_wait d i ≡ false
unfolding must_wait
own_turn_answers d i own = rw own (and-false (sequential d.head && anywhere 64 (filled d.pkind) && blank d.pkind i))

-- of fewer than two desks, it is always its own
module _ (d : Desk) (s : sound d ≡ true) (few : d.head.n < 2) where
  alone_own_turn : own_turn d.head ≡ true
  alone_own_turn =
      let low : d.head.own < d.head.n = (desk_says d s).own_below in
      let turn : d.head.turn % d.head.n < d.head.n = mod-lt d.head.turn (omega arith) in
      eq-eqb (d.head.turn % d.head.n) d.head.own (omega arith)

  -- a waiting read has the turn elsewhere
  alone_none_waits : read_waits d.head ≡ false
  alone_none_waits = by_test (eqb d.head.wait 0) refl
    where
      by_test : (t : Bool) → eqb d.head.wait 0 ≡ t → not (eqb d.head.wait 0) ≡ false
      by_test true p = ap not p
      by_test false p = absurd (((desk_says d s).waits (eqb-false d.head.wait 0 p)).elsewhere (eqb-true _ _ alone_own_turn))

  alone_answers : (i : ℕ) → i < d.head.m → (read_of d i).answer ≡ answered (holds (content_at d.kind d.day i))
  unfolding read_of
  alone_answers i below = simp (s, lt-leb d.head.m i below, alone_none_waits, own_turn_answers d i alone_own_turn)

-- ---- example 6

module _ (d : Desk) (tray s : List ℕ) (f : FromDesk0 d tray s) where
  abbrev number : ℕ
  number = (trailer_in s).turn

  -- desk 0's numbers, "leaves the sender when divided by desks"
  leaves_0 : number % 3 ≡ 0
  leaves_0 = rw f.same_desks at (good_trailer_is_fair s f.is_good).turn_leaves ∙ f.from_desk_0

  -- the tests of a delivery before 16
  fits : eqb (length tray) (398 * d.head.n) ≡ true
  fits = eq-eqb (length tray) (398 * d.head.n) (omega (arith, f.tray_fits_lem, f.three_desks))

  shelf : eqb (trailer_in s).desks d.head.n && eqb (trailer_in s).cells d.head.m ≡ true
  shelf =
      let desks = eq-eqb (trailer_in s).desks d.head.n (f.same_desks ∙ sym f.three_desks) in
      rw (desks, eq-eqb (trailer_in s).cells d.head.m f.same_cells)

  other : eqb (trailer_in s).sender d.head.own ≡ false
  other = ne_eqb (trailer_in s).sender d.head.own (λ e. f.not_desk_0 (sym e ∙ f.from_desk_0))

  -- from 4 on it is due, and below 7 it is near
  due : 4 ≤ number → ltb number d.head.turn ≡ false
  due high = le-ltb number d.head.turn (omega (arith, f.turn_number))

  near : number < 7 → leb (d.head.turn + d.head.n) number ≡ false
  near low = lt-leb (d.head.turn + d.head.n) number (omega (arith, f.turn_number, f.three_desks))

  gets_16 : number < 4 → (deliver_of d tray s).answer ≡ refused 16
  unfolding deliver_of
  gets_16 low =
      let past = lt-ltb number d.head.turn (omega (arith, f.turn_number)) in
      simp (f.is_sound, fits, f.is_good, shelf, other, past)

  gets_17 : 7 ≤ number → (deliver_of d tray s).answer ≡ refused 17
  unfolding deliver_of
  gets_17 high =
      let far = le-leb (d.head.turn + d.head.n) number (omega (arith, f.turn_number, f.three_desks)) in
      simp (f.is_sound, fits, f.is_good, shelf, other, due (omega arith), far)

  is_held : 4 ≤ number → number < 7 → free tray 0 ≡ true → (deliver_of d tray s).answer ≡ answered held
  unfolding deliver_of
  is_held high low place =
      let here : free tray (trailer_in s).sender ≡ true = rw f.from_desk_0 place in
      simp (f.is_sound, fits, f.is_good, shelf, other, due high, near low, here)

pub always_and_only : AlwaysAndOnly
unfolding read_of deliver_of
always_and_only =
    record {
      turn_is_own = λ d s one. alone_own_turn d s (omega arith);
      answers_at_once = λ d i s one below. alone_answers d s (omega arith) i below;
      never_waits = λ d i one e.
          let allowed = read_allows d i (answered_only_if (read_rules d i) _ waits e).0 in
          let own = alone_own_turn d allowed.is_sound (omega arith) in
          waits_is_no_content _ (sym (rw (own_turn_answers d i own) at (read_as_said d i waits e)));
      only_6_is_held = λ d tray s three four zero e.
          let allowed = deliver_allows d tray s (answered_only_if (deliver_rules d tray s) _ held e).0 in
          let fair = good_trailer_is_fair s allowed.sheet_good in
          let leaves : (trailer_in s).turn % 3 ≡ 0 = rw (allowed.same_desks ∙ three) at fair.turn_leaves ∙ zero in
          omega (arith, allowed.due, allowed.near, three, four);
      number_6_is_held = λ d tray s f six place. is_held d tray s f (omega arith) (omega arith) place;
      below_6_gets_16 = λ d tray s f low. gets_16 d tray s f (omega (arith, leaves_0 d tray s f));
      above_6_gets_17 = λ d tray s f high. gets_17 d tray s f (omega arith);
    }
