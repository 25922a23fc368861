-- What specs/AtTheEnd.antt states of a desk at its end, and of the others: the rules before 10 are off, and `going`.
--   nothing_breaks : NothingBreaks
--   others_go_on : OthersGoOn
-- Assumes nothing.
use Prim.Native.Nat.{ℕ, ◌<◌}
use mathlib.Core.Path.{◌≡◌, refl, sym, ap, ◌∙◌}
use mathlib.Core.Logic.{◌≢◌}
use mathlib.Core.Bool.{true, false≢true}
use native.Mathlib.Omega.{arith}
use lib.Dec.{eqb}
use lib.ListN.{length}
use borrow.Author.Tests.{eq-eqb, ne_eqb, lt-ltb, eqb-false, not-true}
use Rattle.answer.specs.Answer.{Answer, refused, answered}
use Rattle.answer.proofs.Laws.{answered_only_if}
use Rattle.layout.specs.Layout.{trailer_in}
use Rattle.sheet.proofs.Laws.Good.{good_trailer_is_fair}
use Rattle.sound.specs.Head.{read_waits, wait_cell}
use Rattle.desk.specs.Answers.{Value}
use Rattle.refusals.specs.Rules.{last_turn}
use Rattle.desk.specs.Calls.{document01, send_of, deliver_of, take_rules, take_of}
use Rattle.desk.specs.declared.Desk.{Desk}
use Rattle.desk.proofs.Laws.Allowed.{take_allows}
use Rattle.runs.specs.Call.{delivers, Call, takes}
use Rattle.runs.specs.Run.{Shelf, State, sheet_no, made, after, Possible}
use Rattle.runs.specs.TurnRules.{turn_of, ReadWaits}
use Rattle.runs.specs.EveryRun.{SheetInOrder}
use Rattle.runs.specs.AtTheEnd.{AtItsEnd, NothingBreaks, OthersGoOn}
use Rattle.runs.proofs.Laws.InOrder.{DeskInOrder, InOrder}
use Rattle.runs.proofs.Laws.Steps.{taken_by, step}
use Rattle.runs.proofs.Laws.Keeps.{step_in_order}
use Rattle.runs.proofs.Laws.Fresh.{in_order}
use Rattle.runs.proofs.Laws.Never.{tray_fits_lem, same_shelf}
use Rattle.runs.proofs.Laws.Taken.{never_back}
use Rattle.runs.proofs.Laws.Going.{going}
use Rattle.runs.proofs.Laws.Waiting.{Passes, as_it_was, by_take, passes}

-- ---- what is answered there

module _ {shelf : Shelf} {s : State} (o : InOrder shelf s) (p : ℕ) (here : p < shelf.n) (end : turn_of s p ≡ last_turn) where
  mine : DeskInOrder shelf s.line p (s.desk p) (s.tray p)
  mine = o.desks p here

  at_last : eqb (turn_of s p) last_turn ≡ true
  at_last = eq-eqb (turn_of s p) last_turn end

  module _ (k : ℕ) (l : k < length s.line) where
    x : SheetInOrder shelf k (sheet_no s k)
    x = o.sheets k l

    -- the desk that sent a sheet is the one that its trailer names
    sender_is : (trailer_in (sheet_no s k).bytes).sender ≡ (sheet_no s k).from
    sender_is = x.sender ∙ sym x.from

    own_delivery : (sheet_no s k).from ≡ p → (made document01 s (delivers p k)).answer ≡ refused 15
    unfolding deliver_of
    own_delivery e =
        let own = eq-eqb (trailer_in (sheet_no s k).bytes).sender (s.desk p).head.own (sender_is ∙ e ∙ sym mine.as_opened.own) in
        simp (mine.as_opened.is_sound, tray_fits_lem mine, x.is_good, same_shelf mine k x, own)

    other_delivery : (sheet_no s k).from ≢ p → (made document01 s (delivers p k)).answer ≡ refused 16
    unfolding deliver_of
    other_delivery apart =
        let other = ne_eqb (trailer_in (sheet_no s k).bytes).sender (s.desk p).head.own (λ e. apart (sym sender_is ∙ e ∙ mine.as_opened.own)) in
        let past = lt-ltb (trailer_in (sheet_no s k).bytes).turn (turn_of s p) (omega (arith, end, (good_trailer_is_fair (sheet_no s k).bytes x.is_good).turn_most)) in
        simp (mine.as_opened.is_sound, tray_fits_lem mine, x.is_good, same_shelf mine k x, other, past)

  -- a read that waits: nothing passes but a take, and that is refused
  no_take : (v : Value) → (made document01 s (takes p)).answer ≡ answered v → ⊥
  unfolding take_of
  no_take v e = false≢true (sym (take_allows (s.desk p) (s.tray p) (answered_only_if (take_rules (s.desk p) (s.tray p)) _ v e).0).not_last ∙ at_last)

  waits_on : (cell : ℕ) → ReadWaits s p cell → (c : Call) → Possible shelf.n s c → ReadWaits (after document01 s c) p cell
  waits_on cell w c h = by_pass c refl (passes o p here (eqb-false _ _ (not-true _ w.0)) (step s c))
    where
      by_pass : (c : Call) {a : Answer Value} → (made document01 s c).answer ≡ a → Passes s p c a (after document01 s c) → ReadWaits (after document01 s c) p cell
      by_pass c e (as_it_was miss same) = (ap (λ (d : Desk). read_waits d.head) same ∙ w.0, ap (λ (d : Desk). wait_cell d.head) same ∙ w.1)
      by_pass c e (by_take same) = absurd (no_take (taken_by (s.desk p) (s.tray p)) e)

  at_its_end : AtItsEnd shelf.n s p
  unfolding send_of take_of
  at_its_end =
      record {
        own_send = λ own buffer. simp (mine.as_opened.is_sound, own, at_last);
        other_send = λ other buffer. simp (mine.as_opened.is_sound, other);
        own_take = λ own. simp (mine.as_opened.is_sound, tray_fits_lem mine, own);
        other_take = λ other. simp (mine.as_opened.is_sound, tray_fits_lem mine, other, at_last);
        own_delivery = own_delivery;
        other_delivery = other_delivery;
        stays = λ c h. let next = step_in_order o h (step s c) in omega (arith, end, never_back o p here c, (next.desks p here).as_opened.fits.turn);
        waits_on = waits_on;
      }

pub nothing_breaks : NothingBreaks
nothing_breaks shelf cs r p here end = at_its_end (in_order shelf cs r) p here end

pub others_go_on : OthersGoOn
others_go_on shelf cs r = going (in_order shelf cs r)
