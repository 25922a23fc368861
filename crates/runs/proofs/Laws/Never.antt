-- The refusals that never come where all is in order (Laws/InOrder.antt).
--   tray_fits_lem, same_shelf, in_reach      tests that pass
--   next_is_next          what the place of the desk whose turn it is holds passes the test of a take
--   barred, never         none of the six numbers comes
-- Assumes nothing.
use Prim.Native.Nat.{ℕ, ◌+◌, ◌*◌, ◌<◌}
use mathlib.Core.Path.{◌≡◌, refl, sym, ap, ◌∙◌}
use mathlib.Core.Logic.{◌≢◌}
use mathlib.Core.Bool.{Bool, true, false, ◌&&◌, ◌||◌, false≢true}
use mathlib.Core.List.{List}
use native.Mathlib.Omega.{arith}
use lib.Dec.{eqb, leb}
use lib.ListN.{length}
use borrow.Author.Tests.{eq-eqb, lt-leb}
use Rattle.answer.specs.Answer.{Answer, refused}
use Rattle.answer.proofs.Laws.{refused_is_not_answered, gives, gives_such, either_way}
use Rattle.layout.specs.Layout.{trailer_in, numbers_of}
use Rattle.sound.specs.Head.{turn_desk}
use Rattle.tray.specs.Tray.{free, sheet_at}
use Rattle.desk.specs.declared.Desk.{Desk}
use Rattle.desk.specs.Answers.{Value}
use Rattle.refusals.specs.Rules.{tray_fits}
use Rattle.refusals.proofs.Laws.Next.{Next, next_if}
use Rattle.runs.specs.Call.{Call, writes, reads, sends, delivers, takes}
use Rattle.desk.specs.Calls.{document01}
use Rattle.runs.specs.Run.{Shelf, SentSheet, sheet_on, State, made, Possible}
use Rattle.runs.specs.EveryRun.{SheetInOrder}
use Rattle.runs.proofs.Laws.InOrder.{DeskInOrder, InOrder}
use Rattle.runs.proofs.Laws.Order.{near, turn_desk_lem, next_held}
use Rattle.runs.proofs.Laws.Steps.{rules_of, Step, is_refused, is_stored, is_read, is_waiting, is_sent, is_held, is_taken, step}

-- ---- tests that pass

module _ {shelf : Shelf} {line : List SentSheet} {p : ℕ} {d : Desk} {tray : List ℕ} (o : DeskInOrder shelf line p d tray) where
  pub tray_fits_lem : tray_fits d.head (length tray) ≡ true
  tray_fits_lem = eq-eqb (length tray) (398 * d.head.n) (o.tray_long ∙ ap (λ (n : ℕ). 398 * n) (sym o.as_opened.n))

  module _ (k : ℕ) (x : SheetInOrder shelf k (sheet_on line k)) where
    abbrev sheet : List ℕ
    sheet = (sheet_on line k).bytes

    pub same_shelf : eqb (trailer_in sheet).desks d.head.n && eqb (trailer_in sheet).cells d.head.m ≡ true
    same_shelf = rw (eq-eqb (trailer_in sheet).desks d.head.n (x.desks ∙ sym o.as_opened.n), eq-eqb (trailer_in sheet).cells d.head.m (x.cells ∙ sym o.as_opened.m))

    pub in_reach : k < length line → leb (d.head.turn + d.head.n) (trailer_in sheet).turn ≡ false
    in_reach sent = lt-leb (d.head.turn + d.head.n) (trailer_in sheet).turn (omega (arith, near o, o.as_opened.n, x.turn))

  pub next_is_next : ((k : ℕ) → k < length line → SheetInOrder shelf k (sheet_on line k)) → free tray (turn_desk d.head) ≡ false
      → Next d.head (numbers_of (trailer_in (sheet_at tray (turn_desk d.head))))
  next_is_next sheets f =
      let z = next_held o f in
      let x = sheets d.head.turn z.sent in
      rw z.is (record { desks = x.desks ∙ sym o.as_opened.n; cells = x.cells ∙ sym o.as_opened.m; sender = x.sender ∙ sym (turn_desk_lem o); turn = x.turn })

-- ---- the six

abbrev pub barred : ℕ → Bool
barred k = eqb k 5 || eqb k 12 || eqb k 13 || eqb k 14 || eqb k 17 || eqb k 21

module _ {shelf : Shelf} {s : State} (o : InOrder shelf s) where
  -- no call gives one of them
  off : (c : Call) → Possible shelf.n s c → gives barred (rules_of s c) ≡ false
  off (writes p cell c) here = simp ((o.desks p here.0).as_opened.is_sound, either_way)
  off (reads p cell) here = simp ((o.desks p here).as_opened.is_sound, either_way)
  off (sends p buffer) here = simp ((o.desks p here).as_opened.is_sound, either_way)
  off (delivers p j) here =
      let mine = o.desks p here.0 in
      let x = o.sheets j here.1 in
      simp (mine.as_opened.is_sound, tray_fits_lem mine, x.is_good, same_shelf mine j x, in_reach mine j x here.1, either_way)
  off (takes p) here = by_place (free (s.tray p) (turn_desk (s.desk p).head)) refl
    where
      mine : DeskInOrder shelf s.line p (s.desk p) (s.tray p)
      mine = o.desks p here

      by_place : (t : Bool) → free (s.tray p) (turn_desk (s.desk p).head) ≡ t → gives barred (rules_of s (takes p)) ≡ false
      by_place true f = simp (mine.as_opened.is_sound, tray_fits_lem mine, f, either_way)
      by_place false f =
          simp (mine.as_opened.is_sound, tray_fits_lem mine, f, (next_held mine f).holds_good_lem, next_if (s.desk p).head _ (next_is_next mine o.sheets f), either_way)

  same_number : (i j : ℕ) → ◌≡◌ {A = Answer Value} (refused i) (refused j) → i ≡ j
  same_number i j e = cc

  not_in : (k : ℕ) → barred k ≡ true → {c : Call} {a : Answer Value} {t : State} → Possible shelf.n s c → Step s c a t → a ≢ refused k
  not_in k b here (is_refused c j first) e = false≢true (sym (off c here) ∙ gives_such barred first ∙ ap barred (same_number j k e) ∙ b)
  not_in k b here (is_stored p cell c silent) e = refused_is_not_answered _ _ (sym e)
  not_in k b here (is_read p cell silent w) e = refused_is_not_answered _ _ (sym e)
  not_in k b here (is_waiting p cell silent w) e = refused_is_not_answered _ _ (sym e)
  not_in k b here (is_sent p buffer silent) e = refused_is_not_answered _ _ (sym e)
  not_in k b here (is_held p j silent) e = refused_is_not_answered _ _ (sym e)
  not_in k b here (is_taken p silent) e = refused_is_not_answered _ _ (sym e)

pub never : {shelf : Shelf} {s : State} (k : ℕ) → barred k ≡ true → InOrder shelf s → (c : Call) → Possible shelf.n s c → (made document01 s c).answer ≢ refused k
never {s = s} k b o c here = not_in o k b here (step s c)
