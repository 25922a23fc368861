-- What a call of document 01 comes to on a state, case by case: it is refused and nothing changes, or no rule applies and the next state is
-- written out. Whatever is proved of all runs goes by these cases.
--   put_same, put_other, put_own             a state with one desk's record, or tray, replaced
--   own_record, other_record                 whose call it is: that desk's next record, and that the others keep theirs
--   rules_of, with_desk, sheet_by, taken_by      a call's rules; a state, a sheet and an answer that the cases speak of
--   by_call                                  what is so of a refused call, and of one that no rule applies to, is so of a call
--   Step, step                               the cases, and that each call is one of them
-- Assumes nothing.
use Prim.Native.Nat.{ℕ, ◌+◌, ◌*◌}
use mathlib.Core.Path.{◌≡◌, refl, sym, ap, ◌∙◌, fun_ext, subst}
use mathlib.Core.Logic.{◌≢◌, ◌⊎◌, inl, inr}
use mathlib.Core.Bool.{Bool, true, false, cond}
use mathlib.Core.List.{List, [], ◌∷◌, ◌++◌, append-nil}
use lib.Dec.{eqb}
use lib.ListN.{length, take, drop}
use lib.Seq.{take-append_seam}
use borrow.Author.Tests.{eqb-true, eq-eqb, ne_eqb}
use Rattle.answer.specs.Answer.{Answer, Rule, refused, answered}
use Rattle.answer.specs.Promises.{Silent, First, this, later}
use Rattle.answer.proofs.Laws.{answered_if, changed_if, refused_if, unchanged_if}
use Rattle.content.specs.declared.Content.{Content}
use Rattle.layout.specs.Layout.{trailer_in}
use Rattle.cells.specs.Cells.{content_at}
use Rattle.sound.specs.Head.{causal, turn_desk}
use Rattle.tray.specs.Tray.{held_in, cleared_in}
use Rattle.pending.specs.Pending.{pending_entries, sheet_of}
use Rattle.pending.proofs.Laws.Sending.{sheet_long}
use Rattle.applying.specs.Applying.{goes, went_of}
use Rattle.desk.specs.declared.Desk.{Desk}
use Rattle.desk.specs.Answers.{Value, stored, holds, waits, sent, held, taken, Done, call}
use Rattle.desk.specs.Calls.{Calls, document01, write_rules, written_desk, write_of, read_rules, must_wait, waiting_desk, read_of, send_rules, sent_desk, send_of, deliver_rules, deliver_of, take_rules, entries_taken, taken_desk, waited_for, take_of}
use Rattle.runs.specs.Call.{Call, writes, reads, sends, delivers, takes, desk_of}
use Rattle.runs.specs.Run.{SentSheet, State, sheet_no, made, put, sheet_left, after}

-- ---- one desk's

module _ {A : Type 0} (f : ℕ → A) (p : ℕ) where
  pub put_same : (a : A) → put f p a p ≡ a
  unfolding put
  put_same a = rw (eq-eqb p p refl)

  pub put_other : (a : A) (q : ℕ) → q ≢ p → put f p a q ≡ f q
  unfolding put
  put_other a q apart = rw (ne_eqb q p apart)

  pub put_own : put f p (f p) ≡ f
  unfolding put
  put_own = fun_ext (λ q. by_test q (eqb q p) refl)
    where
      by_test : (q : ℕ) (t : Bool) → eqb q p ≡ t → cond (eqb q p) (f p) (f q) ≡ f q
      by_test q true e = rw e (ap f (sym (eqb-true q p e)))
      by_test q false e = rw e

-- ---- whose call it is

module _ (calls : Calls) (s : State) where
  pub own_record : (c : Call) → (after calls s c).desk (desk_of c) ≡ (made calls s c).desk
  unfolding after
  own_record (writes p cell c) = put_same s.desk p (made calls s (writes p cell c)).desk
  own_record (reads p cell) = put_same s.desk p (made calls s (reads p cell)).desk
  own_record (sends p buffer) = put_same s.desk p (made calls s (sends p buffer)).desk
  own_record (delivers p k) = put_same s.desk p (made calls s (delivers p k)).desk
  own_record (takes p) = put_same s.desk p (made calls s (takes p)).desk

  pub other_record : (c : Call) (q : ℕ) → q ≢ desk_of c → (after calls s c).desk q ≡ s.desk q
  unfolding after
  other_record (writes p cell c) q apart = put_other s.desk p (made calls s (writes p cell c)).desk q apart
  other_record (reads p cell) q apart = put_other s.desk p (made calls s (reads p cell)).desk q apart
  other_record (sends p buffer) q apart = put_other s.desk p (made calls s (sends p buffer)).desk q apart
  other_record (delivers p k) q apart = put_other s.desk p (made calls s (delivers p k)).desk q apart
  other_record (takes p) q apart = put_other s.desk p (made calls s (takes p)).desk q apart

-- ---- the cases

-- the rules of a call, in 01's order
abbrev pub rules_of : State → Call → List Rule
rules_of s (writes p cell c) = write_rules (s.desk p) cell c
rules_of s (reads p cell) = read_rules (s.desk p) cell
rules_of s (sends p buffer) = send_rules (s.desk p) buffer
rules_of s (delivers p k) = deliver_rules (s.desk p) (s.tray p) (sheet_no s k).bytes
rules_of s (takes p) = take_rules (s.desk p) (s.tray p)

-- desk p has this record, all else is as it was
abbrev pub with_desk : State → ℕ → Desk → State
with_desk s p d = record { desk = put s.desk p d; tray = s.tray; line = s.line }

-- the sheet of a desk's pending entries
abbrev pub sheet_by : Desk → List ℕ
sheet_by d = sheet_of d.head d.pkind d.pday

-- what a take answers
abbrev pub taken_by : Desk → List ℕ → Value
taken_by d tray =
    let es = entries_taken d tray in
    taken d.head.turn (length es) (went_of (goes (causal d.head) d.pkind) es) (waited_for d.head (taken_desk d es))

pub data Step (s : State) : Call → Answer Value → State → Type 0 where
  is_refused : (c : Call) (k : ℕ) → First k (rules_of s c) → Step s c (refused k) s
  is_stored : (p cell : ℕ) (c : Content)
      → Silent (write_rules (s.desk p) cell c)
      → Step s (writes p cell c) (answered stored) (with_desk s p (written_desk (s.desk p) cell c))
  is_read : (p cell : ℕ)
      → Silent (read_rules (s.desk p) cell)
      → must_wait (s.desk p) cell ≡ false
      → Step s (reads p cell) (answered (holds (content_at (s.desk p).kind (s.desk p).day cell))) s
  is_waiting : (p cell : ℕ)
      → Silent (read_rules (s.desk p) cell)
      → must_wait (s.desk p) cell ≡ true
      → Step s (reads p cell) (answered waits) (with_desk s p (waiting_desk (s.desk p) cell))
  is_sent : (p : ℕ) (buffer : List ℕ)
      → Silent (send_rules (s.desk p) buffer)
      → Step s (sends p buffer)
      (answered (sent (s.desk p).head.turn (length (pending_entries (s.desk p).pkind (s.desk p).pday))))
      (record { desk = put s.desk p (sent_desk (s.desk p)); tray = s.tray; line = s.line ++ (record { from = p; bytes = sheet_by (s.desk p) } ∷ []) })
  is_held : (p k : ℕ)
      → Silent (deliver_rules (s.desk p) (s.tray p) (sheet_no s k).bytes)
      → Step s (delivers p k) (answered held)
      (record { desk = s.desk; tray = put s.tray p (held_in (s.tray p) (trailer_in (sheet_no s k).bytes).sender (sheet_no s k).bytes); line = s.line })
  is_taken : (p : ℕ)
      → Silent (take_rules (s.desk p) (s.tray p))
      → Step s (takes p) (answered (taken_by (s.desk p) (s.tray p)))
      (record { desk = put s.desk p (taken_desk (s.desk p) (entries_taken (s.desk p) (s.tray p))); tray = put s.tray p (cleared_in (s.tray p) (turn_desk (s.desk p).head)); line = s.line })

-- ---- each call is one of them

-- no rule applies, or one is the first that does
by_rules : (rs : List Rule) → Silent rs ⊎ ((k : ℕ) × First k rs)
by_rules [] = inl tt
by_rules (r ∷ rs) = by_test (by_rules rs) r.applies refl
  where
    by_test : Silent rs ⊎ ((k : ℕ) × First k rs) → (t : Bool) → r.applies ≡ t → Silent (r ∷ rs) ⊎ ((k : ℕ) × First k (r ∷ rs))
    by_test rest true e = inr (r.number, this e refl)
    by_test (inl silent) false e = inl (e, silent)
    by_test (inr other) false e = inr (other.0, later e other.1)

-- a call with these rules, by what it comes to
pub by_call : (P : Done → Type 0) (rules : List Rule) (d : Desk) (lent : List ℕ) (v : Value) (d' : Desk) (lent' : List ℕ)
    → ((k : ℕ) → First k rules → P (record { answer = refused k; desk = d; lent = lent }))
    → (Silent rules → P (record { answer = answered v; desk = d'; lent = lent' }))
    → P (call rules d lent v d' lent')
by_call P rules d lent v d' lent' f g = go (by_rules rules)
  where
    go : Silent rules ⊎ ((k : ℕ) × First k rules) → P (call rules d lent v d' lent')
    go (inl silent) = rw (answered_if rules v silent, changed_if rules d d' silent, changed_if rules lent lent' silent) (g silent)
    go (inr (k, first)) = rw (refused_if v first, unchanged_if d d' first, unchanged_if lent lent' first) (f k first)

-- the first bytes of the buffer are the sheet
sheet_first : (d : Desk) (buffer : List ℕ)
    → take (6 * length (pending_entries d.pkind d.pday) + 12) (sheet_by d ++ drop (length (sheet_by d)) buffer) ≡ sheet_by d
sheet_first d buffer =
    ap (λ (n : ℕ). take n (sheet_by d ++ drop (length (sheet_by d)) buffer)) (sym (sheet_long d.head d.pkind d.pday))
    ∙ take-append_seam (sheet_by d) (drop (length (sheet_by d)) buffer)

module _ (s : State) where
  -- a refused call changes nothing: the desk has the record, and the tray, that it had
  same_desk : (p : ℕ) → with_desk s p (s.desk p) ≡ s
  same_desk p = ap (λ (f : ℕ → Desk). record { desk = f; tray = s.tray; line = s.line }) (put_own s.desk p)

  same_both : (p : ℕ) → record { desk = put s.desk p (s.desk p); tray = put s.tray p (s.tray p); line = s.line } ≡ s
  same_both p =
      ap (λ (f : ℕ → List ℕ). record { desk = put s.desk p (s.desk p); tray = f; line = s.line }) (put_own s.tray p)
      ∙ same_desk p

  pub step : (c : Call) → Step s c (made document01 s c).answer (after document01 s c)
  unfolding after write_of read_of send_of deliver_of take_of
  step (writes p cell c) =
      by_call (λ (x : Done). Step s (writes p cell c) x.answer (with_desk s p x.desk)) _ _ [] _ _ []
      (λ k first. subst (Step s (writes p cell c) (refused k)) (sym (same_desk p)) (is_refused (writes p cell c) k first))
      (is_stored p cell c)
  step (reads p cell) =
      by_call (λ (x : Done). Step s (reads p cell) x.answer (with_desk s p x.desk)) _ _ [] _ _ []
      (λ k first. subst (Step s (reads p cell) (refused k)) (sym (same_desk p)) (is_refused (reads p cell) k first))
      (λ silent. by_wait silent (must_wait (s.desk p) cell) refl)
    where
      by_wait : Silent (read_rules (s.desk p) cell) → (t : Bool) → must_wait (s.desk p) cell ≡ t
          → Step s (reads p cell) (answered (cond (must_wait (s.desk p) cell) waits (holds (content_at (s.desk p).kind (s.desk p).day cell)))) (with_desk s p (cond (must_wait (s.desk p) cell) (waiting_desk (s.desk p) cell) (s.desk p)))
      by_wait silent true e = rw e (is_waiting p cell silent e)
      by_wait silent false e =
          rw e (subst (Step s (reads p cell) (answered (holds (content_at (s.desk p).kind (s.desk p).day cell)))) (sym (same_desk p)) (is_read p cell silent e))
  step (sends p buffer) =
      by_call (λ (x : Done). Step s (sends p buffer) x.answer (record { desk = put s.desk p x.desk; tray = s.tray; line = s.line ++ sheet_left p x.answer x.lent })) _ _ _ _ _ _
      (λ k first. subst (Step s (sends p buffer) (refused k)) (sym (ap (λ (l : List SentSheet). record { desk = put s.desk p (s.desk p); tray = s.tray; line = l }) (append-nil s.line) ∙ same_desk p)) (is_refused (sends p buffer) k first))
      (λ silent.
      subst (λ (l : List ℕ). Step s (sends p buffer) (answered (sent (s.desk p).head.turn (length (pending_entries (s.desk p).pkind (s.desk p).pday)))) (record { desk = put s.desk p (sent_desk (s.desk p)); tray = s.tray; line = s.line ++ (record { from = p; bytes = l } ∷ []) }))
      (sym (sheet_first (s.desk p) buffer))
      (is_sent p buffer silent))
  step (delivers p k) =
      by_call (λ (x : Done). Step s (delivers p k) x.answer (record { desk = put s.desk p x.desk; tray = put s.tray p x.lent; line = s.line })) _ _ _ _ _ _
      (λ j first. subst (Step s (delivers p k) (refused j)) (sym (same_both p)) (is_refused (delivers p k) j first))
      (λ silent.
      subst (λ (f : ℕ → Desk). Step s (delivers p k) (answered held) (record { desk = f; tray = put s.tray p (held_in (s.tray p) (trailer_in (sheet_no s k).bytes).sender (sheet_no s k).bytes); line = s.line }))
      (sym (put_own s.desk p))
      (is_held p k silent))
  step (takes p) =
      by_call (λ (x : Done). Step s (takes p) x.answer (record { desk = put s.desk p x.desk; tray = put s.tray p x.lent; line = s.line })) _ _ _ _ _ _
      (λ j first. subst (Step s (takes p) (refused j)) (sym (same_both p)) (is_refused (takes p) j first))
      (is_taken p)
