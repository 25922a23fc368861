-- What demand 2 settles (specs/Settled.antt), proved: a call's rules say whether it is refused, a piece of Figure 1 has one end, a sound
-- record is settled by its process and the rest, and bytes by what they read as.
--   demand_2_settles : Demand2Settles
--   met_by_01_alone : MetBy01Alone
-- Assumes nothing.
use mathlib.Core.Path.{◌≡◌, refl, sym, ap, ◌∙◌, subst}
use mathlib.Core.Bool.{not}
use mathlib.Core.List.{List, [], ◌∷◌, ◌++◌}
use mathlib.Core.Option.{Option, none, some, some-ne-none}
use Prim.Native.Nat.{ℕ, ◌+◌}
use native.Mathlib.Omega.{arith}
use lib.ListN.{length, take, drop, replicate, length-replicate}
use lib.Seq.{take_at}
use Rattle.answer.specs.Answer.{Answer, answered, ◌if◌}
use Rattle.answer.proofs.Laws.{answered_only_if}
use Rattle.content.specs.declared.Content.{Content}
use Rattle.layout.specs.Layout.{trailer_in, numbers_of}
use Rattle.layout.specs.Values.{AreBytes}
use Rattle.layout.proofs.Laws.{entries_count}
use Rattle.sheet.specs.Good.{good}
use Rattle.sheet.specs.Reading.{Sheet, sheet_in, reading_of}
use Rattle.writer.specs.Promises.{ReadWritesBack}
use Rattle.writer.proofs.RoundTrip.{read_writes_back}
use Rattle.pending.specs.Pending.{numbers_for, pending_entries}
use Rattle.desk.specs.declared.Desk.{Desk}
use Rattle.desk.specs.Answers.{Value, Done, holds, sent, taken}
use Rattle.desk.specs.Calls.{Calls, document01, zero_desk, open_rules, write_rules, read_rules, send_rules, deliver_rules, take_rules}
use Rattle.figure.specs.Figure1.{Process, Event, reads}
use Rattle.figure.specs.Map.{model_of, process_of}
use Rattle.figure.specs.Demand2.{ByRules, StepOf, Initialization, WriteStep, ReadShows, returns, begins_to_wait, ReadStep, SendStep, Arrival, ThenFinishes, nothing_to_finish, finishes, TakeSteps, Demand2}
use Rattle.figure.specs.Settled.{SameCalls, Demand2Settles, MetBy01Alone}
use Rattle.figure.proofs.Laws.ByRules.{settled}
use Rattle.figure.proofs.Laws.OneEnd.{same_write, same_read, same_block, same_send, same_apply, no_read_blocks, returns_at_turn}
use Rattle.figure.proofs.Laws.SameRecord.{same_record}
use Rattle.figure.proofs.Demand2.{demand_2}

-- ---- what a call settles

same_done : (done done' : Done) {a : Answer Value} → done.answer ≡ a → done'.answer ≡ a → done.desk ≡ done'.desk → done.lent ≡ done'.lent → done ≡ done'
same_done done done' one other desk lent = λ i. record { answer = (one ∙ sym other) i; desk = desk i; lent = lent i }

-- ---- each call that is carried out, one way

same_initialization : (n m own mode : ℕ) (done done' : Done) → Initialization n m own mode done → Initialization n m own mode done' → done ≡ done'
same_initialization n m own mode done done' one other =
    let process = one.process ∙ sym other.process in
    same_done done done' one.answer other.answer (same_record done.desk done'.desk [] one.next other.next process) (one.none_lent ∙ sym other.none_lent)

module _ (d : Desk) where
  same_write_step : (cell : ℕ) (c : Content) (done done' : Done) → WriteStep d cell c done → WriteStep d cell c done' → done ≡ done'
  same_write_step cell c done done' one other =
      let process = same_write d.head.n d.head.own (model_of d.head.mode) (process_of d []) (one.step []) (other.step []) in
      same_done done done' one.answer other.answer (same_record done.desk done'.desk [] one.next other.next process) (one.none_lent ∙ sym other.none_lent)

  shown_same : {cell : ℕ} {v v' : Value} {e e' : Event Content} (s : Process Content) {t t' : Process Content}
      → ReadShows cell e v → ReadShows cell e' v' → StepOf d s e t → StepOf d s e' t' → (v ≡ v') × (t ≡ t')
  shown_same s (returns c) (returns c') one other =
      let same = same_read d.head.n d.head.own (model_of d.head.mode) s one other in
      (ap holds same.same_value, same.same_end)
  shown_same s (returns c) begins_to_wait one other = absurd (no_read_blocks d.head.n d.head.own (model_of d.head.mode) s one other)
  shown_same s begins_to_wait (returns c) one other = absurd (no_read_blocks d.head.n d.head.own (model_of d.head.mode) s other one)
  shown_same s begins_to_wait begins_to_wait one other = (refl, same_block d.head.n d.head.own (model_of d.head.mode) s one other)

  same_read_step : (cell : ℕ) (done done' : Done) → ReadStep d cell done → ReadStep d cell done' → done ≡ done'
  same_read_step cell done done' one other =
      let same = shown_same (process_of d []) one.shows other.shows (one.step []) (other.step []) in
      same_done done done' (one.answer ∙ ap answered same.0) other.answer
      (same_record done.desk done'.desk [] one.next other.next same.1) (one.none_lent ∙ sym other.none_lent)

-- ---- bytes, by what they read as

-- a good sheet has as many entries as its trailer says
counted : (s : List ℕ) (x : Sheet) → reading_of s ≡ answered x → length x.entries ≡ x.numbers.entries
unfolding reading_of
counted s x e =
    let same : sheet_in s (numbers_of (trailer_in s)) ≡ x = (answered_only_if (13 if not (good s) ∷ []) (sheet_in s (numbers_of (trailer_in s))) x e).1 in
    subst (λ (y : Sheet). length y.entries ≡ y.numbers.entries) same (entries_count (trailer_in s).entries s)

same_number : (a b : ℕ) → answered a ≡ answered b → a ≡ b
same_number a b e = cc

-- bytes that read as the same sheet are the same bytes: written again, they are
same_bytes : (s s' : List ℕ) (x : Sheet) → AreBytes s → AreBytes s' → reading_of s ≡ answered x → reading_of s' ≡ answered x → s ≡ s'
unfolding ReadWritesBack
same_bytes s s' x are are' says says' =
    let buf : List ℕ = replicate (length s + length s') 0 in
    let long : length buf ≡ length s + length s' = length-replicate (length s + length s') 0 in
    let one = read_writes_back s x [] buf are says (omega (arith, long)) in
    let other = read_writes_back s' x [] buf are' says' (omega (arith, long)) in
    let size : length s ≡ length s' = same_number _ _ (sym one.0 ∙ other.0) in
    sym (take_at s (drop (length s) buf) (length s) refl)
    ∙ ap (take (length s)) (sym one.1 ∙ other.1)
    ∙ take_at s' (drop (length s') buf) (length s) (sym size)

module _ (d : Desk) where
  same_send_step : (buf : List ℕ) (done done' : Done) → SendStep d buf done → SendStep d buf done' → done ≡ done'
  same_send_step buf done done' one other =
      let process = same_send d.head.n d.head.own (model_of d.head.mode) (process_of d []) (one.step []) (other.step []) in
      let count : one.entries ≡ other.entries = sym (counted one.sheet _ one.reads_back) ∙ counted other.sheet _ other.reads_back in
      let says = one.reads_back ∙ ap (λ (k : ℕ). answered (record { numbers = numbers_for d.head k; entries = pending_entries d.pkind d.pday })) count in
      let bytes = same_bytes one.sheet other.sheet _ one.are_bytes other.are_bytes says other.reads_back in
      same_done done done' (one.answer ∙ ap (λ (k : ℕ). answered (sent d.head.turn k)) count) other.answer
      (same_record done.desk done'.desk [] one.next other.next process)
      (one.buffer ∙ ap (λ (s : List ℕ). s ++ drop (length s) buf) bytes ∙ sym other.buffer)

  same_arrival : (tray s : List ℕ) (done done' : Done) → Arrival d tray s done → Arrival d tray s done' → done ≡ done'
  same_arrival tray s done done' one other =
      same_done done done' one.answer other.answer (one.same ∙ sym other.same) (one.place ∙ sym other.place)

  -- ---- a take, and the read that it ends

  same_some : (x y : ℕ) → some x ≡ some y → x ≡ y
  same_some x y e = cc

  no_end : {between after after' : Process Content} (x : ℕ) (c : Content) → after ≡ between → (after.turn ≡ d.head.own → after.blocked ≡ none)
      → between.blocked ≡ some x → StepOf d between (reads x c) after' → ⊥
  no_end {between} x c same quiet busy step =
      let own = returns_at_turn d.head.n d.head.own (model_of d.head.mode) between busy step in
      some-ne-none x (sym busy ∙ ap (λ (s : Process Content). s.blocked) (sym same) ∙ quiet (ap (λ (s : Process Content). s.turn) same ∙ own))

  same_finish : (between : Process Content) {w w' : Option Content} {after after' : Process Content}
      → ThenFinishes d between w after → ThenFinishes d between w' after' → (w ≡ w') × (after ≡ after')
  same_finish between (nothing_to_finish same quiet) (nothing_to_finish same' quiet') = (refl, same ∙ sym same')
  same_finish between (nothing_to_finish same quiet) (finishes x c busy step) = absurd (no_end x c same quiet busy step)
  same_finish between (finishes x c busy step) (nothing_to_finish same quiet) = absurd (no_end x c same quiet busy step)
  same_finish between {after'} (finishes x c busy step) (finishes x' c' busy' step') =
      let again = subst (λ (y : ℕ). StepOf d between (reads y c') after') (same_some x' x (sym busy' ∙ busy)) step' in
      let same = same_read d.head.n d.head.own (model_of d.head.mode) between step again in
      (ap some same.same_value, same.same_end)

  same_take_steps : (tray : List ℕ) (done done' : Done) → TakeSteps d tray done → TakeSteps d tray done' → done ≡ done'
  same_take_steps tray done done' one other =
      let applied = same_apply d.head.n d.head.own (model_of d.head.mode) (process_of d tray) one.step other.step in
      let lent = one.place ∙ sym other.place in
      let then = subst (λ (s : Process Content). ThenFinishes d s other.waited (process_of done'.desk done'.lent)) (sym applied.same_end) other.then in
      let finished = same_finish one.between one.then then in
      let process = finished.1 ∙ ap (process_of done'.desk) (sym lent) in
      same_done done done'
      (one.answer ∙ λ i. answered (taken d.head.turn (applied.same_extracted i) (applied.same_assigned i) (finished.0 i)))
      other.answer
      (same_record done.desk done'.desk done.lent one.next other.next process) lent

-- ---- every call

pub demand_2_settles : Demand2Settles
demand_2_settles calls calls' one other =
    record {
      opening = λ n m own mode.
          settled (open_rules n m own mode) zero_desk [] (Initialization n m own mode) _ _ (one.opening n m own mode) (other.opening n m own mode)
          (λ silent. same_initialization n m own mode _ _);
      write = λ d cell c fits small.
          settled (write_rules d cell c) d [] (WriteStep d cell c) _ _ (one.write d cell c fits small) (other.write d cell c fits small)
          (λ silent. same_write_step d cell c _ _);
      read = λ d cell fits.
          settled (read_rules d cell) d [] (ReadStep d cell) _ _ (one.read d cell fits) (other.read d cell fits) (λ silent. same_read_step d cell _ _);
      send = λ d buf fits.
          settled (send_rules d buf) d buf (SendStep d buf) _ _ (one.send d buf fits) (other.send d buf fits) (λ silent. same_send_step d buf _ _);
      deliver = λ d tray s.
          settled (deliver_rules d tray s) d tray (Arrival d tray s) _ _ (one.deliver d tray s) (other.deliver d tray s)
          (λ silent. same_arrival d tray s _ _);
      take = λ d tray fits are.
          settled (take_rules d tray) d tray (TakeSteps d tray) _ _ (one.take d tray fits are) (other.take d tray fits are)
          (λ silent. same_take_steps d tray _ _);
    }

-- calls that are the same as document 01's meet the demand
met_by_same : (calls : Calls) → SameCalls calls document01 → Demand2 calls
met_by_same calls same =
    record {
      opening = λ n m own mode.
          subst (ByRules (open_rules n m own mode) zero_desk [] (Initialization n m own mode)) (sym (same.opening n m own mode)) (demand_2.opening n m own mode);
      write = λ d cell c fits small.
          subst (ByRules (write_rules d cell c) d [] (WriteStep d cell c)) (sym (same.write d cell c fits small)) (demand_2.write d cell c fits small);
      read = λ d cell fits. subst (ByRules (read_rules d cell) d [] (ReadStep d cell)) (sym (same.read d cell fits)) (demand_2.read d cell fits);
      send = λ d buf fits. subst (ByRules (send_rules d buf) d buf (SendStep d buf)) (sym (same.send d buf fits)) (demand_2.send d buf fits);
      deliver = λ d tray s.
          subst (ByRules (deliver_rules d tray s) d tray (Arrival d tray s)) (sym (same.deliver d tray s)) (demand_2.deliver d tray s);
      take = λ d tray fits are.
          subst (ByRules (take_rules d tray) d tray (TakeSteps d tray)) (sym (same.take d tray fits are)) (demand_2.take d tray fits are);
      written_reads_back = demand_2.written_reads_back;
      read_writes_back = demand_2.read_writes_back;
    }

pub met_by_01_alone : MetBy01Alone
met_by_01_alone calls = ((λ demand. demand_2_settles calls document01 demand demand_2), met_by_same calls)
