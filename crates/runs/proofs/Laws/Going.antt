-- Where all is in order, some desk can send or take until all are at their end: look at the desk whose turn the next sheet is, number (sheets
-- sent) mod n.
--   can_send              it has taken every sheet sent: it can send into 396 bytes
--   can_take              or else its next sheet is sent, and once delivered it takes it
--   going                 so one of the two
-- Assumes nothing.
use Prim.Native.Nat.{ℕ, ◌*◌, ◌%◌, ◌≤◌, ◌<◌}
use mathlib.Core.Path.{◌≡◌, refl, sym, ap, ◌∙◌}
use mathlib.Core.Logic.{◌≢◌, ◌⊎◌, inl, inr}
use mathlib.Core.Bool.{Bool, true, false, cond, not, false≢true}
use mathlib.Core.List.{List}
use mathlib.Core.Option.{Option}
use native.Mathlib.Omega.{arith}
use native.Mathlib.Nat.{mod-lt}
use native.Mathlib.Decide.{ℕ_discrete, dec_lt}
use lib.Dec.{eqb}
use lib.ListN.{length}
use borrow.Author.Tests.{eqb-true, eq-eqb, ne_eqb, le-ltb}
use Rattle.answer.specs.Answer.{Answer, refused, answered}
use Rattle.answer.specs.Promises.{First}
use Rattle.answer.proofs.Laws.{answered_if, gives, gives_such}
use Rattle.content.specs.declared.Content.{Content}
use Rattle.layout.specs.Layout.{trailer_in}
use Rattle.sound.specs.Head.{causal, turn_desk}
use Rattle.tray.specs.Tray.{free, sheet_at, held_in}
use Rattle.tray.proofs.Laws.Places.{holds_not_free}
use Rattle.pending.specs.Pending.{pending_entries}
use Rattle.pending.proofs.Laws.Sending.{sheet_most}
use Rattle.applying.specs.Applying.{goes, went_of}
use Rattle.refusals.specs.Rules.{last_turn}
use Rattle.desk.specs.declared.Desk.{Desk}
use Rattle.desk.specs.Answers.{Value, sent, held, taken}
use Rattle.desk.specs.Calls.{document01, send_rules, send_of, deliver_rules, take_rules, entries_taken, taken_desk, waited_for, take_of}
use Rattle.desk.proofs.Laws.Allowed.{SendAllowed, send_if, TakeAllowed, take_if}
use Rattle.runs.specs.Call.{delivers, takes}
use Rattle.runs.specs.Run.{Shelf, SentSheet, sheet_on, State, sheet_no, made, put, after}
use Rattle.runs.specs.EveryRun.{SheetInOrder}
use Rattle.runs.specs.TurnRules.{turn_of, CanSend, InTray, Arrives, is_held, is_there, CanTake, SomeGoesOn}
use Rattle.runs.proofs.Laws.InOrder.{DeskInOrder, InOrder}
use Rattle.runs.proofs.Laws.Steps.{put_same, taken_by, Step, step}
use Rattle.runs.proofs.Laws.Steps as steps
use Rattle.runs.proofs.Laws.Order.{own_last, turn_desk_lem, next_held}
use Rattle.runs.proofs.Laws.Keeps.{held_there, step_in_order}
use Rattle.runs.proofs.Laws.Never.{tray_fits_lem, same_shelf, in_reach, next_is_next}

-- ---- send

module _ {shelf : Shelf} {line : List SentSheet} {p : ℕ} {d : Desk} {tray : List ℕ} (o : DeskInOrder shelf line p d tray) (low : d.head.turn < last_turn) where
  before_end : eqb d.head.turn last_turn ≡ false
  before_end = ne_eqb d.head.turn last_turn (λ e. omega (arith, e))

  sends_now : d.head.turn % shelf.n ≡ p → (buffer : List ℕ) → 396 ≤ length buffer → SendAllowed d buffer
  sends_now own buffer long =
      record {
        is_sound = o.as_opened.is_sound;
        own_turn_lem = eq-eqb (turn_desk d.head) d.head.own (turn_desk_lem o ∙ own ∙ sym o.as_opened.own);
        not_last = before_end;
        room = omega (arith, sheet_most d.head d.pkind d.pday);
      }

  -- ---- take

  takes_now : ((k : ℕ) → k < length line → SheetInOrder shelf k (sheet_on line k)) → d.head.turn % shelf.n ≢ p → free tray (turn_desk d.head) ≡ false
      → TakeAllowed d tray
  takes_now sheets other f =
      let away : turn_desk d.head ≢ d.head.own = λ e. other (sym (turn_desk_lem o) ∙ e ∙ o.as_opened.own) in
      record {
        is_sound = o.as_opened.is_sound;
        tray_fits_lem = o.tray_long ∙ ap (λ (n : ℕ). 398 * n) (sym o.as_opened.n);
        elsewhere = ne_eqb (turn_desk d.head) d.head.own away;
        not_last = before_end;
        not_free = f;
        holds_good_lem = (next_held o f).holds_good_lem;
        is_next = next_is_next o sheets f;
      }

-- ---- deliver

-- the next sheet, where it is delivered: it is held, or it was there before
data Arrived (s : State) (p k : ℕ) : Answer Value → State → Type 0 where
  new : {t : State} → t.desk p ≡ s.desk p → free (t.tray p) (turn_desk (s.desk p).head) ≡ false → Arrived s p k (answered held) t
  old : InTray s p k → free (s.tray p) (turn_desk (s.desk p).head) ≡ false → Arrived s p k (refused 18) s

module _ {shelf : Shelf} {s : State} (o : InOrder shelf s) (p : ℕ) (here : p < shelf.n)
    (behind : turn_of s p < length s.line) (other : turn_of s p % shelf.n ≢ p) where
  abbrev d : Desk
  d = s.desk p

  abbrev k : ℕ
  k = turn_of s p

  abbrev sheet : List ℕ
  sheet = (sheet_no s k).bytes

  mine : DeskInOrder shelf s.line p (s.desk p) (s.tray p)
  mine = o.desks p here

  x : SheetInOrder shelf k (sheet_no s k)
  x = o.sheets k behind

  place_is : (trailer_in sheet).sender ≡ turn_desk d.head
  place_is = x.sender ∙ sym (turn_desk_lem mine)

  from_is : (sheet_no s k).from ≡ turn_desk d.head
  from_is = x.from ∙ sym (turn_desk_lem mine)

  -- of the rules of a delivery only 18 can apply
  only_place : (such : ℕ → Bool) → gives such (deliver_rules d (s.tray p) sheet) ≡ cond (not (free (s.tray p) (trailer_in sheet).sender)) (such 18) false
  only_place such =
      let own : (trailer_in sheet).sender ≢ d.head.own = λ e. other (sym x.sender ∙ e ∙ mine.as_opened.own) in
      let not_own = ne_eqb (trailer_in sheet).sender d.head.own own in
      let not_past = le-ltb (trailer_in sheet).turn k (omega (arith, x.turn)) in
      simp (mine.as_opened.is_sound, tray_fits_lem mine, x.is_good, same_shelf mine k x, not_own, not_past, in_reach mine k x behind)

  only_18 : (j : ℕ) → First j (deliver_rules d (s.tray p) sheet) → (j ≡ 18) × (free (s.tray p) (trailer_in sheet).sender ≡ false)
  only_18 j f = by_place (free (s.tray p) (trailer_in sheet).sender) refl
    where
      by_place : (t : Bool) → free (s.tray p) (trailer_in sheet).sender ≡ t → (j ≡ 18) × (free (s.tray p) (trailer_in sheet).sender ≡ false)
      by_place true e = absurd (false≢true (sym (only_place (λ i. true) ∙ rw e) ∙ gives_such (λ i. true) f))
      by_place false e = (eqb-true j 18 (sym (gives_such (λ i. eqb i 18) f) ∙ only_place (λ i. eqb i 18) ∙ rw e), e)

  arrived : {a : Answer Value} {t : State} → Step s (delivers p k) a t → Arrived s p k a t
  arrived (steps.is_refused c j f) =
      let z = only_18 j f in
      let full : free (s.tray p) (turn_desk d.head) ≡ false = rw place_is at z.1 in
      rw z.0 (old (ap (sheet_at (s.tray p)) from_is ∙ (next_held mine full).is) full)
  arrived (steps.is_held q j silent) =
      new {t = record { desk = s.desk; tray = put s.tray p (held_in (s.tray p) (trailer_in sheet).sender sheet); line = s.line }} refl
      (rw (put_same s.tray p (held_in (s.tray p) (trailer_in sheet).sender sheet), ← place_is) (holds_not_free (held_in (s.tray p) (trailer_in sheet).sender sheet) (trailer_in sheet).sender (held_there mine k behind x)))

  as_held_or_there : {a : Answer Value} {t : State} → (made document01 s (delivers p k)).answer ≡ a → Arrived s p k a t → Arrives document01 s p k
  as_held_or_there e (new same full) = is_held e
  as_held_or_there e (old there full) = is_there e there

  -- and then it is taken
  after_arrival : {a : Answer Value} {t : State} → Arrived s p k a t → (t.desk p ≡ s.desk p) × (free (t.tray p) (turn_desk d.head) ≡ false)
  after_arrival (new same full) = (same, full)
  after_arrival (old there full) = (refl, full)

  then_taken : (t : State) → InOrder shelf t → k < last_turn → (t.desk p ≡ s.desk p) × (free (t.tray p) (turn_desk d.head) ≡ false)
      → (entries applied : ℕ) × (waited : Option Content) × ((made document01 t (takes p)).answer ≡ answered (taken k entries applied waited)) × InTray t p k
  unfolding take_of
  then_taken t later_order low arrival =
      let turn : (t.desk p).head.turn ≡ k = ap (λ (y : Desk). y.head.turn) arrival.0 in
      let full : free (t.tray p) (turn_desk (t.desk p).head) ≡ false = ap (λ (y : Desk). free (t.tray p) (turn_desk y.head)) arrival.0 ∙ arrival.1 in
      let silent = take_if (t.desk p) (t.tray p) (takes_now (later_order.desks p here) (rw turn low) later_order.sheets (rw turn other) full) in
      let next = next_held (later_order.desks p here) full in
      let from : (sheet_no t k).from ≡ turn_desk (t.desk p).head = (later_order.sheets k (omega (arith, next.sent, turn))).from ∙ ap (λ (j : ℕ). j % shelf.n) (sym turn) ∙ sym (turn_desk_lem (later_order.desks p here)) in
      let y = t.desk p in
      let es = entries_taken y (t.tray p) in
      let entries : ℕ = length es in
      let applied : ℕ = went_of (goes (causal y.head) y.pkind) es in
      let waited : Option Content = waited_for y.head (taken_desk y es) in
      (entries, applied, waited, answered_if (take_rules y (t.tray p)) (taken_by y (t.tray p)) silent ∙ ap (λ (n : ℕ). answered (taken n entries applied waited)) turn, ap (sheet_at (t.tray p)) from ∙ next.is ∙ ap (λ (j : ℕ). (sheet_no t j).bytes) turn)

  pub can_take : k < last_turn → CanTake document01 s p
  can_take low =
      let arrival = arrived (step s (delivers p k)) in
      let took = then_taken (after document01 s (delivers p k)) (step_in_order o (here, behind) (step s (delivers p k))) low (after_arrival arrival) in
      record {
        k = k;
        sent = behind;
        from = from_is;
        turn = x.turn;
        arrives = as_held_or_there refl arrival;
        in_tray = took.4;
        entries = took.0;
        applied = took.1;
        waited = took.2;
        taken_then = took.3;
      }

-- ---- so one of the two

module _ {shelf : Shelf} {s : State} (o : InOrder shelf s) (p : ℕ) (here : p < shelf.n) (next : length s.line % shelf.n ≡ p) (low : turn_of s p < last_turn) where
  pub can_send : turn_of s p ≡ length s.line → CanSend document01 s p
  unfolding send_of
  can_send e buffer long =
      let d = s.desk p in
      let entries : ℕ = length (pending_entries d.pkind d.pday) in
      (entries, answered_if (send_rules d buffer) (sent d.head.turn entries) (send_if d buffer (sends_now (o.desks p here) low (ap (λ (k : ℕ). k % shelf.n) e ∙ next) buffer long)))

  one_can : CanSend document01 s p ⊎ CanTake document01 s p
  one_can = by_turn (ℕ_discrete (turn_of s p) (length s.line))
    where
      by_turn : Dec (turn_of s p ≡ length s.line) → CanSend document01 s p ⊎ CanTake document01 s p
      by_turn (yes e) = inl (can_send e)
      by_turn (no e) = inr (can_take o p here (omega (arith, (o.desks p here).no_further)) (λ own. e (own_last (o.desks p here) own)) low)

-- as long as one desk, q, is not at its end: where the line has not come to the last number, the desk whose turn the next sheet is can go on; where it has,
-- q is behind it
pub going : {shelf : Shelf} {s : State} → InOrder shelf s → (q : ℕ) → q < shelf.n → turn_of s q < last_turn → SomeGoesOn document01 shelf.n s
going {shelf} {s} o q there low = by_line (dec_lt (length s.line) last_turn)
  where
    by_line : Dec (length s.line < last_turn) → SomeGoesOn document01 shelf.n s
    by_line (yes l) =
        let here : length s.line % shelf.n < shelf.n = mod-lt (length s.line) (omega arith) in
        (length s.line % shelf.n, here, one_can o _ here refl (omega (arith, (o.desks _ here).no_further)))
    by_line (no l) =
        let behind : turn_of s q < length s.line = omega arith in
        (q, there, inr (can_take o q there behind (λ own. omega (arith, own_last (o.desks q there) own, behind)) low))
