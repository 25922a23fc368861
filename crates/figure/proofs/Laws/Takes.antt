-- A take that is carried out is Figure 1's apply_updates(), and then the end of a blocked read where its turn has come.
-- Assumes nothing.
use Prim.Native.Nat.{ℕ, ◌+◌, ◌%◌, ◌<◌, ◌≤◌}
use mathlib.Core.Path.{◌≡◌, refl, sym, ◌∙◌, fun_ext, subst}
use mathlib.Core.Bool.{Bool, true, false, cond, false≢true}
use mathlib.Core.List.{List, [], ◌∷◌}
use mathlib.Core.Option.{none, some}
use native.Mathlib.Omega.{arith}
use native.Mathlib.Nat.{mod-add-mod}
use lib.Dec.{eqb}
use lib.ListN.{length}
use borrow.Author.Tests.{eqb-true, eqb-false, lt-ltb}
use Rattle.content.specs.declared.Content.{Content}
use Rattle.layout.specs.declared.Entry.{Entry}
use Rattle.layout.specs.Layout.{trailer_in}
use Rattle.layout.specs.Values.{AreBytes}
use Rattle.layout.proofs.Laws.{entries_count}
use Rattle.sheet.specs.Good.{good, every, rising, below}
use Rattle.numbers.proofs.Tests.{tested}
use Rattle.sheet.proofs.Laws.Good.{good_entries_are}
use Rattle.cells.specs.Cells.{content_at}
use Rattle.sound.specs.Head.{causal, turn_desk, own_turn, read_waits, wait_cell}
use Rattle.sound.proofs.Laws.Sound.{Sound}
use Rattle.tray.specs.Tray.{place_start, free, sheet_at, holds_good, cleared_in}
use Rattle.tray.proofs.Laws.Places.{holds_says, holds_not_free, cleared_free, cleared_others, SamePlace, same_holds, same_sheet_held}
use Rattle.applying.specs.Applying.{goes, went_of}
use Rattle.desk.specs.declared.Desk.{Desk}
use Rattle.desk.specs.Answers.{taken}
use Rattle.desk.specs.Calls.{next_head, take_rules, entries_taken, taken_desk, waited_for, take_of}
use Rattle.desk.specs.Values.{DeskFits}
use Rattle.desk.proofs.Laws.Allowed.{desk_says, take_allows}
use Rattle.keeping.proofs.Laws.Take.{take_sound, take_fits}
use Rattle.figure.specs.Figure1.{Process, without, reads, finish, apply}
use Rattle.figure.specs.Map.{process_of, updates_in, updates_of, received}
use Rattle.figure.specs.Demand2.{ByRules, StepOf, ThenFinishes, nothing_to_finish, finishes, TakeSteps}
use Rattle.figure.proofs.Laws.ByRules.{by_call, sound_next}
use Rattle.figure.proofs.Laws.Loops.{entries_loop}
use Rattle.figure.proofs.Laws.Maps.{same_process}

-- ---- the entries of a sheet in the place of the desk whose turn it is

below_more : (a b : ℕ) (es : List Entry) → a ≤ b → every (below a) es ≡ true → every (below b) es ≡ true
below_more a b [] h e = refl
below_more a b (x ∷ xs) h e =
    let low : x.cell < a = search tested in
    rw (lt-ltb x.cell b (omega arith), below_more a b xs h (search tested))

module _ (d : Desk) (tray : List ℕ) (s : Sound d.head d.kind d.day d.pkind d.pday) (is_good : good (sheet_at tray (turn_desk d.head)) ≡ true)
    (cells : (trailer_in (sheet_at tray (turn_desk d.head))).cells ≡ d.head.m) where
  pub taken_rise : rising (entries_taken d tray) ≡ true
  taken_rise = search (good_entries_are (sheet_at tray (turn_desk d.head)) is_good, tested)

  pub taken_below : every (below 64) (entries_taken d tray) ≡ true
  taken_below = below_more (trailer_in (sheet_at tray (turn_desk d.head))).cells 64 (entries_taken d tray) (omega (arith, cells, s.cells_most)) (search (good_entries_are (sheet_at tray (turn_desk d.head)) is_good, tested))

-- ---- the process after the entries, and after the read that ends

-- Figure 1's process between the two
abbrev between : Desk → List Entry → List ℕ → Process Content
between d es tray =
    record {
      copy = content_at (taken_desk d es).kind (taken_desk d es).day;
      updates = updates_of d.pkind d.pday;
      turn = (turn_desk d.head + 1) % d.head.n;
      blocked = (process_of d tray).blocked;
      buffer = without (turn_desk d.head) (received tray);
    }

module _ (d : Desk) (es : List Entry) (tray tray' : List ℕ) (left : received tray' ≡ without (turn_desk d.head) (received tray)) where
  next_turn : (turn_desk d.head + 1) % d.head.n ≡ turn_desk (next_head d.head 0)
  next_turn = mod-add-mod d.head.turn d.head.n 1

  pub then_finishes : ThenFinishes d (between d es tray) (waited_for d.head (taken_desk d es)) (process_of (taken_desk d es) tray')
  then_finishes = by_test (read_waits d.head) (own_turn (next_head d.head 0)) refl refl
    where
      by_test : (w o : Bool) → read_waits d.head ≡ w → own_turn (next_head d.head 0) ≡ o
          → ThenFinishes d (between d es tray) (waited_for d.head (taken_desk d es)) (process_of (taken_desk d es) tray')
      by_test false o p q =
          let quiet : cond (read_waits d.head) (some (wait_cell d.head)) none ≡ none = rw p in
          rw p (nothing_to_finish (same_process refl refl (sym next_turn) quiet left) (λ e. quiet))
      by_test true false p q =
          let still : cond (read_waits d.head) (some (wait_cell d.head)) none ≡ some (wait_cell d.head) = rw p in
          rw (p, q)
          (nothing_to_finish (same_process refl refl (sym next_turn) still left)
          (λ e. absurd (eqb-false (turn_desk (next_head d.head 0)) d.head.own q e)))
      by_test true true p q =
          let shown = content_at (taken_desk d es).kind (taken_desk d es).day in
          let waiting : Process Content =
          record {
            copy = shown;
            updates = updates_of d.pkind d.pday;
            turn = (turn_desk d.head + 1) % d.head.n;
            blocked = some (wait_cell d.head);
            buffer = without (turn_desk d.head) (received tray);
          }
          in
          rw (p, q)
          (finishes (wait_cell d.head) (shown (wait_cell d.head)) refl
          (subst (StepOf d waiting (reads (wait_cell d.head) (shown (wait_cell d.head))))
          (same_process refl refl next_turn refl (sym left))
          (finish waiting (wait_cell d.head) refl (next_turn ∙ eqb-true _ _ q))))

-- ---- the receiving buffer

-- a place that is free holds no sheet
pub free_holds_none : (tray : List ℕ) (q : ℕ) → free tray q ≡ true → received tray q ≡ none
free_holds_none tray q e = by_test (holds_good tray q) refl
  where
    by_test : (t : Bool) → holds_good tray q ≡ t → received tray q ≡ none
    by_test true p = absurd (false≢true (sym (holds_not_free tray q p) ∙ e))
    by_test false p = rw p

pub received_stays : (t u : List ℕ) (p : ℕ) → SamePlace t u p → received t p ≡ received u p
received_stays t u p same = by_test (holds_good t p) refl
  where
    by_test : (b : Bool) → holds_good t p ≡ b → received t p ≡ received u p
    by_test true e = rw (e, sym (same_holds t u p same) ∙ e, same_sheet_held t u p same e)
    by_test false e = rw (e, sym (same_holds t u p same) ∙ e)

-- what is left where one place was cleared
pub given_up : (tray : List ℕ) (q : ℕ) → place_start q + 398 ≤ length tray → received (cleared_in tray q) ≡ without q (received tray)
given_up tray q room = fun_ext (λ p. by_test p (eqb p q) refl)
  where
    by_test : (p : ℕ) (t : Bool) → eqb p q ≡ t → received (cleared_in tray q) p ≡ without q (received tray) p
    by_test p true e = rw (e, eqb-true p q e) (free_holds_none (cleared_in tray q) q (cleared_free tray q room))
    by_test p false e = rw e (received_stays (cleared_in tray q) tray p (cleared_others tray p q (eqb-false p q e)))

-- ---- the step

own_is_not : (a b : ℕ) → eqb a b ≡ false → b ≡ a → ⊥
own_is_not a b e z = eqb-false a b e (sym z)

pub take_by_rules : (d : Desk) (tray : List ℕ) → DeskFits d → AreBytes tray → ByRules (take_rules d tray) d tray (TakeSteps d tray) (take_of d tray)
unfolding take_of
take_by_rules d tray fits are_bytes =
    let rules = take_rules d tray in
    let q = turn_desk d.head in
    let es = entries_taken d tray in
    let went = went_of (goes (causal d.head) d.pkind) es in
    let waited = waited_for d.head (taken_desk d es) in
    by_call rules d tray (taken d.head.turn (length es) went waited) (taken_desk d es) (cleared_in tray q) (TakeSteps d tray)
    (λ silent.
    let allowed = take_allows d tray silent in
    let s = desk_says d allowed.is_sound in
    let holds = holds_says tray q allowed.holds_good_lem in
    let due = allowed.is_next in
    let loop = entries_loop d es d.kind d.day fits.kinds fits.days (taken_rise d tray s holds.sheet_good due.cells) (taken_below d tray s holds.sheet_good due.cells) in
    let elsewhere : d.head.own ≡ q → ⊥ = own_is_not q d.head.own allowed.elsewhere in
    let there : received tray q ≡ some (updates_in es) = rw allowed.holds_good_lem in
    let count = sym (entries_count (trailer_in (sheet_at tray q)).entries (sheet_at tray q)) in
    record {
      entries = length es;
      applied = went;
      waited = waited;
      answer = refl;
      sheet_turn = due.turn;
      sheet_entries = count;
      between = between d es tray;
      step = apply (process_of d tray) q (updates_in es) refl elsewhere there loop;
      then = then_finishes d es tray (cleared_in tray q) (given_up tray q holds.room);
      next = sound_next rules d (taken_desk d es) silent (take_sound d tray fits allowed.is_sound) (take_fits d tray are_bytes fits);
      place = refl;
    })
