-- A send that is carried out is Figure 1's send_updates(): the sheet in the buffer carries updates_p, and no read is blocked.
--   pending_carried          the pending entries, as a set, are updates_p
-- Assumes nothing.
use Prim.Native.Nat.{ℕ, zero, suc, ◌<◌, ◌≤◌}
use mathlib.Core.Path.{◌≡◌, refl, sym, ap, ◌∙◌, fun_ext, subst}
use mathlib.Core.Bool.{Bool, true, false, cond, not}
use mathlib.Core.List.{List, [], ◌∷◌, ◌++◌}
use mathlib.Core.Option.{Option, none, some}
use native.Mathlib.Omega.{arith}
use native.Mathlib.Nat.{mod-add-mod}
use lib.Dec.{eqb, ltb}
use lib.IntN.{ℤ}
use lib.ListN.{length, drop}
use mir.Syntax.{w32}
use mir.Val.{SFits}
use mir.Facts.{to_z-of_z}
use borrow.Author.Tests.{eqb-true, eqb-false, ltb-true, ltb-false, lt-ltb, le-ltb}
use Rattle.content.specs.declared.Content.{Content}
use Rattle.content.specs.Content.{content_of}
use Rattle.layout.specs.declared.Entry.{Entry}
use Rattle.layout.specs.Layout.{content_in}
use Rattle.cells.specs.Cells.{kind_at, day_at, content_at, filled}
use Rattle.cells.proofs.Laws.{no_place}
use Rattle.sound.specs.Head.{turn_desk, own_turn, read_waits}
use Rattle.sound.proofs.Laws.Sound.{Sound}
use Rattle.pending.proofs.Laws.Bytes.{sheet_bytes}
use Rattle.pending.specs.Pending.{entry_in, pending_below, pending_entries, sheet_of}
use Rattle.refusals.specs.Rules.{last_turn}
use Rattle.desk.specs.declared.Desk.{Desk}
use Rattle.desk.specs.Answers.{sent}
use Rattle.desk.specs.Calls.{send_rules, sent_desk, send_of}
use Rattle.desk.specs.Values.{DeskFits}
use Rattle.desk.proofs.Laws.Allowed.{desk_says, send_allows}
use Rattle.keeping.proofs.Laws.Send.{send_sound, send_fits}
use Rattle.keeping.proofs.Laws.Sheets.{sheet_read, sheet_entries}
use Rattle.figure.specs.Figure1.{broadcasts, send}
use Rattle.figure.specs.Map.{process_of, updates_of, updates_in, carried}
use Rattle.figure.specs.Demand2.{ByRules, StepOf, SendStep}
use Rattle.figure.proofs.Laws.ByRules.{by_call, sound_next}
use Rattle.figure.proofs.Laws.Maps.{same_process}
use Rattle.figure.proofs.Laws.Opens.{alike}

-- ---- the pending entries as a set

-- the first, or else the second
or_else : {A : Type 0} → Option A → Option A → Option A
or_else (some a) o = some a
or_else none o = o

appended : (es fs : List Entry) (x : ℕ) → updates_in (es ++ fs) x ≡ or_else (updates_in es x) (updates_in fs x)
unfolding or_else
appended [] fs x = refl
appended (e ∷ es) fs x = by_test (appended es fs x) (eqb x e.cell) refl
  where
    by_test : updates_in (es ++ fs) x ≡ or_else (updates_in es x) (updates_in fs x) → (t : Bool) → eqb x e.cell ≡ t
        → updates_in ((e ∷ es) ++ fs) x ≡ or_else (updates_in (e ∷ es) x) (updates_in fs x)
    by_test rest true p = rw p
    by_test rest false p = rw p rest

module _ (pkind : List ℕ) (pday : List ℤ) (fits : (i : ℕ) → SFits w32 (day_at pday i)) where
  content_carried : (i : ℕ) → content_in (entry_in pkind pday i) ≡ content_at pkind pday i
  content_carried i = ap (content_of (kind_at pkind i)) (to_z-of_z (fits i))

  -- one entry, where its place is filled
  one_entry : (i x : ℕ) → updates_in (cond (filled pkind i) (entry_in pkind pday i ∷ []) []) x ≡ cond (eqb x i) (updates_of pkind pday i) none
  one_entry i x = by_tests (filled pkind i) (eqb x i) refl refl
    where
      by_tests : (f t : Bool) → filled pkind i ≡ f → eqb x i ≡ t
          → updates_in (cond (filled pkind i) (entry_in pkind pday i ∷ []) []) x ≡ cond (eqb x i) (updates_of pkind pday i) none
      by_tests true true p q = rw (p, q, content_carried i)
      by_tests true false p q = rw (p, q)
      by_tests false true p q = rw (p, q)
      by_tests false false p q = rw (p, q)

  or_none : (o : Option Content) → or_else o none ≡ o
  unfolding or_else
  or_none (some a) = refl
  or_none none = refl

  below_carried : (n x : ℕ) → updates_in (pending_below pkind pday n) x ≡ cond (ltb x n) (updates_of pkind pday x) none
  unfolding pending_below or_else
  below_carried zero x = rw (le-ltb x 0 (omega arith))
  below_carried (suc n) x =
      appended (pending_below pkind pday n) (cond (filled pkind n) (entry_in pkind pday n ∷ []) []) x
      ∙ rw (below_carried n x, one_entry n x) (by_tests (ltb x n) (eqb x n) refl refl)
    where
      by_tests : (l t : Bool) → ltb x n ≡ l → eqb x n ≡ t
          → or_else (cond (ltb x n) (updates_of pkind pday x) none) (cond (eqb x n) (updates_of pkind pday n) none) ≡ cond (ltb x (suc n)) (updates_of pkind pday x) none
      by_tests true true p q = let low : x < n = ltb-true x n p in let same : x ≡ n = eqb-true x n q in absurd (omega (arith, low, same))
      by_tests true false p q =
          let low : x < n = ltb-true x n p in
          rw (p, q, lt-ltb x (suc n) (omega arith)) (or_none (updates_of pkind pday x))
      by_tests false true p q =
          let same : x ≡ n = eqb-true x n q in
          rw (p, q, lt-ltb x (suc n) (omega arith)) (ap (updates_of pkind pday) (sym same))
      by_tests false false p q =
          let high : n ≤ x = ltb-false x n p in
          let other = eqb-false x n q in
          rw (p, q, le-ltb x (suc n) (omega arith))

  pub pending_carried : updates_in (pending_entries pkind pday) ≡ updates_of pkind pday
  pending_carried = fun_ext (λ x. below_carried 64 x ∙ by_test x (ltb x 64) refl)
    where
      by_test : (x : ℕ) (t : Bool) → ltb x 64 ≡ t → cond (ltb x 64) (updates_of pkind pday x) none ≡ updates_of pkind pday x
      by_test x true p = rw p
      by_test x false p = rw (p, ← no_place 0 pkind x (ltb-false x 64 p))

-- ---- a sound record whose turn it is

module _ (d : Desk) (fits : DeskFits d) (s : Sound d.head d.kind d.day d.pkind d.pday) (own : own_turn d.head ≡ true) (more : eqb d.head.turn last_turn ≡ false) where
  at_own : turn_desk d.head ≡ d.head.own
  at_own = eqb-true _ _ own

  -- "a waiting read has .. the turn elsewhere": none waits
  none_waits : read_waits d.head ≡ false
  none_waits = by_test (eqb d.head.wait 0) refl
    where
      by_test : (t : Bool) → eqb d.head.wait 0 ≡ t → not (eqb d.head.wait 0) ≡ false
      by_test true p = rw p
      by_test false p = absurd ((s.waits (eqb-false _ _ p)).elsewhere at_own)

  pub sheet_carries : carried (sheet_of d.head d.pkind d.pday) ≡ updates_of d.pkind d.pday
  sheet_carries = ap updates_in (sheet_entries d fits s own more) ∙ pending_carried d.pkind d.pday fits.pday

  quiet : (tray : List ℕ) → (process_of d tray).blocked ≡ none
  quiet tray = rw none_waits

  pub sent_step : (tray : List ℕ) → StepOf d (process_of d tray) (broadcasts (updates_of d.pkind d.pday)) (process_of (sent_desk d) tray)
  sent_step tray =
      subst (StepOf d (process_of d tray) (broadcasts (process_of d tray).updates))
      (same_process refl (sym (fun_ext (λ x. rw (alike {A = ℕ} 0 x)))) (mod-add-mod d.head.turn d.head.n 1) (sym (quiet tray)) refl)
      (send (process_of d tray) at_own (quiet tray))

pub send_by_rules : (d : Desk) (buf : List ℕ) → DeskFits d → ByRules (send_rules d buf) d buf (SendStep d buf) (send_of d buf)
unfolding send_of
send_by_rules d buf fits =
    let rules = send_rules d buf in
    let bytes : List ℕ = sheet_of d.head d.pkind d.pday in
    let count = length (pending_entries d.pkind d.pday) in
    by_call rules d buf (sent d.head.turn count) (sent_desk d) (bytes ++ drop (length bytes) buf) (SendStep d buf)
    (λ silent.
    let allowed = send_allows d buf silent in
    let s = desk_says d allowed.is_sound in
    let own = allowed.own_turn_lem in
    let more = allowed.not_last in
    record {
      entries = count;
      answer = refl;
      step = sent_step d fits s own more;
      next = sound_next rules d (sent_desk d) silent (send_sound d buf fits allowed.is_sound) (send_fits d buf fits);
      sheet = bytes;
      buffer = refl;
      are_bytes = sheet_bytes d.head d.pkind d.pday s.own_below s.desks_most s.cells_most s.pkind_is;
      reads_back = sheet_read d fits s own more;
      carries = sheet_carries d fits s own more;
    })
