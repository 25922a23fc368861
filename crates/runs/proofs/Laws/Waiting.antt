-- A read that waits: nothing but an accepted take of its desk moves the desk's turn number, and the take that brings the desk's own turn answers it.
--   Passes, passes        what a call does to a desk at which a read waits
--   wait_ended            once the desk has had as many accepted takes as there are numbers before its next own one, one of them answers
-- Assumes nothing.
use Prim.Native.Nat.{ℕ, ◌+◌, ◌%◌, ◌≤◌, ◌<◌}
use mathlib.Core.Path.{◌≡◌, refl, sym, ap, ◌∙◌}
use mathlib.Core.Logic.{◌≢◌}
use mathlib.Core.Bool.{Bool, true, false, cond, ◌&&◌, and-false, false≢true}
use mathlib.Core.List.{List, [], ◌∷◌}
use mathlib.Core.Option.{Option, some}
use native.Mathlib.Omega.{arith}
use native.Mathlib.Decide.{ℕ_discrete}
use lib.ListN.{length}
use borrow.Author.Tests.{eqb-true, eq-eqb, ne_eqb}
use Rattle.answer.specs.Answer.{Answer, answered, accepted}
use Rattle.content.specs.declared.Content.{Content}
use Rattle.layout.specs.declared.Entry.{Entry}
use Rattle.cells.specs.Cells.{content_at}
use Rattle.sound.specs.Head.{causal, turn_desk, read_waits, wait_cell}
use Rattle.tray.specs.Tray.{cleared_in}
use Rattle.applying.specs.Applying.{goes, went_of}
use Rattle.desk.specs.declared.Desk.{Desk}
use Rattle.desk.specs.Answers.{Value, taken}
use Rattle.desk.specs.Calls.{document01, read_ends, written_desk, waiting_desk, sent_desk, entries_taken, taken_desk, waited_for}
use Rattle.desk.proofs.Laws.Allowed.{write_allows, read_allows, send_allows}
use Rattle.runs.specs.Call.{Call, takes}
use Rattle.runs.specs.Run.{Shelf, State, made, put, after, Run}
use Rattle.runs.specs.TurnRules.{turn_of, take_of_desk, takes_by, ReadWaits, AnswersRead, answers_it, ReadAnswered, at_this, waits_on}
use Rattle.runs.proofs.Laws.InOrder.{InOrder}
use Rattle.runs.proofs.Laws.Steps.{put_same, put_other, taken_by, Step, is_refused, is_stored, is_read, is_waiting, is_sent, is_held, is_taken, step}
use Rattle.runs.proofs.Laws.Order.{desk_sound}
use Rattle.runs.proofs.Laws.Keeps.{step_in_order}

-- what a call does to a desk at which a read waits: nothing, or it is an accepted take of that desk
pub data Passes (s : State) (p : ℕ) : Call → Answer Value → State → Type 0 where
  as_it_was : {c : Call} {a : Answer Value} {t : State} → take_of_desk p c && accepted a ≡ false → t.desk p ≡ s.desk p → Passes s p c a t
  by_take : {t : State} → t.desk p ≡ taken_desk (s.desk p) (entries_taken (s.desk p) (s.tray p))
      → Passes s p (takes p) (answered (taken_by (s.desk p) (s.tray p))) t

module _ {shelf : Shelf} {s : State} (o : InOrder shelf s) (p : ℕ) (here : p < shelf.n) (w : (s.desk p).head.wait ≢ 0) where
  still : read_waits (s.desk p).head ≡ true
  still = rw (ne_eqb (s.desk p).head.wait 0 w)

  pub passes : {c : Call} {a : Answer Value} {t : State} → Step s c a t → Passes s p c a t
  passes (is_refused c k f) = as_it_was (and-false (take_of_desk p c)) refl
  passes (is_stored q cell c silent) = as_it_was refl (put_other s.desk q (written_desk (s.desk q) cell c) p apart)
    where
      apart : p ≢ q
      apart z = false≢true (sym (write_allows (s.desk q) cell c silent).none_waits ∙ ap (λ (r : ℕ). read_waits (s.desk r).head) (sym z) ∙ still)
  passes (is_read q cell silent e) = as_it_was refl refl
  passes (is_waiting q cell silent e) = as_it_was refl (put_other s.desk q (waiting_desk (s.desk q) cell) p apart)
    where
      apart : p ≢ q
      apart z = false≢true (sym (read_allows (s.desk q) cell silent).none_waits ∙ ap (λ (r : ℕ). read_waits (s.desk r).head) (sym z) ∙ still)
  passes (is_sent q buffer silent) = as_it_was refl (put_other s.desk q (sent_desk (s.desk q)) p apart)
    where
      apart : p ≢ q
      apart z = ((desk_sound (o.desks p here)).waits w).elsewhere (eqb-true _ _ (send_allows (s.desk p) buffer (rw (← z) at silent)).own_turn_lem)
  passes (is_held q k silent) = as_it_was refl refl
  passes (is_taken q silent) = by_desk (ℕ_discrete p q)
    where
      by_desk : Dec (p ≡ q) → Passes s p (takes q) (answered (taken_by (s.desk q) (s.tray q))) (record { desk = put s.desk q (taken_desk (s.desk q) (entries_taken (s.desk q) (s.tray q))); tray = put s.tray q (cleared_in (s.tray q) (turn_desk (s.desk q).head)); line = s.line })
      by_desk (yes z) = rw (← z) (by_take (put_same s.desk p (taken_desk (s.desk p) (entries_taken (s.desk p) (s.tray p)))))
      by_desk (no z) = as_it_was {c = takes q} {a = answered (taken_by (s.desk q) (s.tray q))} (rw (ne_eqb q p (λ e. z (sym e)))) (put_other s.desk q (taken_desk (s.desk q) (entries_taken (s.desk q) (s.tray q))) p z)

-- ---- the take that answers

module _ {shelf : Shelf} {s : State} (o : InOrder shelf s) (p : ℕ) (here : p < shelf.n) (cell : ℕ) (w : (s.desk p).head.wait ≡ cell + 1) where
  abbrev d : Desk
  d = s.desk p

  abbrev es : List Entry
  es = entries_taken d (s.tray p)

  abbrev then : Desk
  then = taken_desk d es

  waited_for_lem : read_ends d.head ≡ true → waited_for d.head then ≡ some (content_at then.kind then.day cell)
  waited_for_lem e = let at : wait_cell d.head ≡ cell = omega (arith, w) in rw (e, at)

  answers_now : (made document01 s (takes p)).answer ≡ answered (taken_by d (s.tray p)) → (after document01 s (takes p)).desk p ≡ then → read_ends d.head ≡ true
      → AnswersRead document01 p cell s (takes p)
  answers_now a same e =
      answers_it d.head.turn (length es) (went_of (goes (causal d.head) d.pkind) es) (content_at then.kind then.day cell)
      (a ∙ ap (λ (x : Option Content). answered (taken d.head.turn (length es) (went_of (goes (causal d.head) d.pkind) es) x)) (waited_for_lem e))
      (ap (λ (x : Desk). content_at x.kind x.day cell) (sym same))
      (ap (λ (x : Desk). read_waits x.head) same ∙ rw e)

  -- where it does not, the read goes on waiting, and the turn is not yet the desk's own
  not_yet : read_ends d.head ≡ false → (then.head.wait ≡ cell + 1) × ((d.head.turn + 1) % shelf.n ≢ p)
  not_yet e =
      (rw e w, λ own. false≢true (sym e ∙ rw (ne_eqb d.head.wait 0 (λ z. omega (arith, w, z)), eq-eqb ((d.head.turn + 1) % d.head.n) d.head.own (rw ((o.desks p here).as_opened.n, (o.desks p here).as_opened.own) own))))

-- ---- a list of calls

it_waits : (s : State) (p cell : ℕ) → (s.desk p).head.wait ≡ cell + 1 → ReadWaits s p cell
it_waits s p cell w = (rw (ne_eqb (s.desk p).head.wait 0 (λ z. omega (arith, w, z))), omega (arith, w))

pub wait_ended : (shelf : Shelf) (p : ℕ) → p < shelf.n → (cell k : ℕ) → k % shelf.n ≡ p → (s : State) (ds : List Call) → InOrder shelf s → Run document01 shelf.n s ds
    → (s.desk p).head.wait ≡ cell + 1 → turn_of s p < k → k ≤ turn_of s p + takes_by document01 p s ds
    → ReadAnswered document01 p cell s ds
unfolding Run takes_by
wait_ended shelf p here cell k own s [] o r w least most = absurd (omega arith)
wait_ended shelf p here cell k own s (c ∷ ds) o r w least most =
    by_pass c refl (passes o p here (λ z. omega (arith, w, z)) (step s c)) most
    (λ w' l m. waits_on (it_waits s p cell w) (wait_ended shelf p here cell k own (after document01 s c) ds (step_in_order o r.0 (step s c)) r.1 w' l m))
  where
    by_pass : (c : Call) {a : Answer Value} → (made document01 s c).answer ≡ a → Passes s p c a (after document01 s c)
        → k ≤ turn_of s p + (cond (take_of_desk p c && accepted a) 1 0 + takes_by document01 p (after document01 s c) ds)
        → (((after document01 s c).desk p).head.wait ≡ cell + 1 → turn_of (after document01 s c) p < k → k ≤ turn_of (after document01 s c) p + takes_by document01 p (after document01 s c) ds
        → ReadAnswered document01 p cell s (c ∷ ds))
        → ReadAnswered document01 p cell s (c ∷ ds)
    by_pass c e (as_it_was miss same) m rest =
        let turn : turn_of (after document01 s c) p ≡ turn_of s p = ap (λ (x : Desk). x.head.turn) same in
        rest (ap (λ (x : Desk). x.head.wait) same ∙ w) (omega (arith, turn)) (omega (arith, turn, rw miss at m))
    by_pass c e (by_take same) m rest = by_end (read_ends (s.desk p).head) refl
      where
        by_end : (t : Bool) → read_ends (s.desk p).head ≡ t → ReadAnswered document01 p cell s (takes p ∷ ds)
        by_end true ends = at_this (it_waits s p cell w) (answers_now o p here cell w e same ends)
        by_end false ends =
            let on = not_yet o p here cell w ends in
            let turn : turn_of (after document01 s (takes p)) p ≡ turn_of s p + 1 = ap (λ (x : Desk). x.head.turn) same in
            let apart : turn_of s p + 1 ≢ k = λ z. on.1 (ap (λ (j : ℕ). j % shelf.n) z ∙ own) in
            rest (ap (λ (x : Desk). x.head.wait) same ∙ on.0) (omega (arith, turn)) (omega (arith, turn, rw (eq-eqb p p refl) at m))
