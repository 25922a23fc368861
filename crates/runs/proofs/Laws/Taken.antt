-- What a desk has gone past it has taken: every sheet of another desk below its turn number was taken by one of the calls.
--   Moves, moves          what a call does to a desk's turn number
--   never_back            no call takes a turn number back
--   gone_past             the calls that brought a desk's turn number from below k to above it have a take of sheet k, or k is the desk's own
-- Assumes nothing.
use Prim.Native.Nat.{ℕ, ◌+◌, ◌%◌, ◌≤◌, ◌<◌}
use mathlib.Core.Path.{◌≡◌, refl, ap, ◌∙◌}
use mathlib.Core.Logic.{◌≢◌}
use mathlib.Core.List.{List, [], ◌∷◌, ◌++◌}
use native.Mathlib.Omega.{arith}
use native.Mathlib.Decide.{ℕ_discrete}
use Rattle.answer.specs.Answer.{Answer}
use Rattle.answer.specs.Promises.{Silent}
use Rattle.sound.specs.Head.{turn_desk}
use Rattle.tray.specs.Tray.{cleared_in}
use Rattle.desk.specs.declared.Desk.{Desk}
use Rattle.desk.specs.Answers.{Value}
use Rattle.desk.specs.Calls.{document01, written_desk, waiting_desk, sent_desk, take_rules, entries_taken, taken_desk}
use Rattle.desk.proofs.Laws.Allowed.{take_allows}
use Rattle.runs.specs.Call.{Call, sends, takes}
use Rattle.runs.specs.Run.{Shelf, State, made, put, after, Possible, Run, after_all}
use Rattle.runs.specs.TurnRules.{turn_of, OneOf, first, further, TakesSheet, takes_it}
use Rattle.runs.proofs.Laws.InOrder.{InOrder}
use Rattle.runs.proofs.Laws.Steps.{put_same, put_other, sheet_by, Step, is_refused, is_stored, is_read, is_waiting, is_sent, is_held, is_taken, step}
use Rattle.runs.proofs.Laws.Order.{next_held}
use Rattle.runs.proofs.Laws.Keeps.{sender_is, step_in_order}

-- ---- the turn number

-- a call leaves a desk's turn number, or it is a send of that desk's, or a take that takes the sheet of that number
pub data Moves (n : ℕ) (s : State) (p : ℕ) : Call → State → Type 0 where
  stays : {c : Call} {t : State} → turn_of t p ≡ turn_of s p → Moves n s p c t
  by_send : {c : Call} {t : State} → turn_of s p % n ≡ p → turn_of t p ≡ turn_of s p + 1 → Moves n s p c t
  by_take : {t : State} → TakesSheet document01 p (turn_of s p) s (takes p)
      → turn_of t p ≡ turn_of s p + 1 → Moves n s p (takes p) t

module _ {shelf : Shelf} {s : State} (o : InOrder shelf s) (p : ℕ) (here : p < shelf.n) where
  abbrev turn_in : Desk → ℕ
  turn_in d = d.head.turn

  -- another desk's record is replaced, or this one's by one with the same turn number
  other_turn : (q : ℕ) (d : Desk) → p ≢ q → (put s.desk q d p).head.turn ≡ turn_of s p
  other_turn q d apart = ap turn_in (put_other s.desk q d p apart)

  same_turn : (q : ℕ) (d : Desk) → d.head.turn ≡ (s.desk q).head.turn → (put s.desk q d p).head.turn ≡ turn_of s p
  same_turn q d e = by_desk (ℕ_discrete p q)
    where
      by_desk : Dec (p ≡ q) → (put s.desk q d p).head.turn ≡ (s.desk p).head.turn
      by_desk (yes z) = rw z (ap turn_in (put_same s.desk q d) ∙ e)
      by_desk (no z) = other_turn q d z

  pub moves : {c : Call} {a : Answer Value} {t : State} → (made document01 s c).answer ≡ a → Step s c a t → Moves shelf.n s p c t
  moves e (is_refused c k f) = stays refl
  moves e (is_stored q cell c silent) = stays (same_turn q (written_desk (s.desk q) cell c) refl)
  moves e (is_read q cell silent w) = stays refl
  moves e (is_waiting q cell silent w) = stays (same_turn q (waiting_desk (s.desk q) cell) refl)
  moves e (is_sent q buffer silent) = by_desk (ℕ_discrete p q)
    where
      by_desk : Dec (p ≡ q) → Moves shelf.n s p (sends q buffer) (record { desk = put s.desk q (sent_desk (s.desk q)); tray = s.tray; line = s.line ++ (record { from = q; bytes = sheet_by (s.desk q) } ∷ []) })
      by_desk (yes z) = rw (← z) (by_send (sender_is (o.desks p here) buffer (rw (← z) at silent)) (ap turn_in (put_same s.desk p (sent_desk (s.desk p)))))
      by_desk (no z) = stays (other_turn q (sent_desk (s.desk q)) z)
  moves e (is_held q k silent) = stays refl
  moves e (is_taken q silent) = by_desk (ℕ_discrete p q)
    where
      by_desk : Dec (p ≡ q) → Moves shelf.n s p (takes q) (record { desk = put s.desk q (taken_desk (s.desk q) (entries_taken (s.desk q) (s.tray q))); tray = put s.tray q (cleared_in (s.tray q) (turn_desk (s.desk q).head)); line = s.line })
      by_desk (yes z) =
          let silent' : Silent (take_rules (s.desk p) (s.tray p)) = rw (← z) at silent in
          let held = next_held (o.desks p here) (take_allows (s.desk p) (s.tray p) silent').not_free in
          rw (← z) (by_take (takes_it _ (rw (← z) at e) held.sent held.is) (ap turn_in (put_same s.desk p (taken_desk (s.desk p) (entries_taken (s.desk p) (s.tray p))))))
      by_desk (no z) = stays (other_turn q (taken_desk (s.desk q) (entries_taken (s.desk q) (s.tray q))) z)

  pub never_back : (c : Call) → turn_of s p ≤ turn_of (after document01 s c) p
  never_back c = by_move (moves refl (step s c))
    where
      by_move : {c : Call} {t : State} → Moves shelf.n s p c t → turn_of s p ≤ turn_of t p
      by_move (stays e) = omega (arith, e)
      by_move (by_send own e) = omega (arith, e)
      by_move (by_take it e) = omega (arith, e)

-- ---- a list of calls

pub gone_past : (shelf : Shelf) (p : ℕ) → p < shelf.n → (s : State) (cs : List Call) → InOrder shelf s → Run document01 shelf.n s cs
    → (k : ℕ) → turn_of s p ≤ k → k < turn_of (after_all document01 s cs) p → k % shelf.n ≢ p
    → OneOf document01 (TakesSheet document01 p k) s cs
unfolding Run after_all
gone_past shelf p here s [] o r k least most other = absurd (omega arith)
gone_past shelf p here s (c ∷ cs) o r k least most other =
    by_move c r.0 (moves o p here refl (step s c)) (λ l. further (gone_past shelf p here (after document01 s c) cs (step_in_order o r.0 (step s c)) r.1 k l most other))
  where
    by_move : (c : Call) → Possible shelf.n s c → Moves shelf.n s p c (after document01 s c)
        → (turn_of (after document01 s c) p ≤ k → OneOf document01 (TakesSheet document01 p k) s (c ∷ cs))
        → OneOf document01 (TakesSheet document01 p k) s (c ∷ cs)
    by_move c h (stays e) rest = rest (omega (arith, e))
    by_move c h (by_send own e) rest =
        let apart : turn_of s p ≢ k = λ z. other (rw z at own) in
        rest (omega (arith, e))
    by_move c h (by_take it e) rest = by_number (ℕ_discrete (turn_of s p) k)
      where
        by_number : Dec (turn_of s p ≡ k) → OneOf document01 (TakesSheet document01 p k) s (takes p ∷ cs)
        by_number (yes z) = first {s = s} {c = takes p} (rw (← z) it)
        by_number (no z) = rest (omega (arith, e))
