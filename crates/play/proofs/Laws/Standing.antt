-- The records, trays and latest sheets that the code keeps stand for a state of the run, and do so after every step.
--   Stands, stands_at_start           what that means; so it is when all desks were opened
--   tray_long                         each desk's tray has 398 × n bytes
--   follows                           a step of the code (specs/Parts) is the step of the run (specs/Steps.antt)
-- Assumes nothing.
use Prim.Native.Nat.{ℕ, zero, suc, ◌+◌, ◌*◌, ◌<◌, ◌≤◌}
use mathlib.Core.Path.{◌≡◌, refl, sym, ap, ◌∙◌, subst}
use mathlib.Core.List.{List, []}
use mathlib.Core.Option.{Option}
use native.Mathlib.Omega.{arith}
use native.Mathlib.Decide.{ℕ_discrete}
use lib.ListN.{length, get_or, set, drop, replicate, length-set, length-drop, length-replicate}
use lib.Seq.{length-take-le, get_or-set_same, get_or-set_other}
use borrow.Author.Tests.{eq-eqb}
use Rattle.numbers.specs.Numbers.{at1}
use Rattle.laying.specs.Laying.{laid_over}
use Rattle.tray.specs.Tray.{length_at}
use Rattle.tray.proofs.Laws.Parts.{laid_long}
use Rattle.desk.specs.declared.Desk.{Desk}
use Rattle.desk.specs.Answers.{Done}
use Rattle.desk.specs.Calls.{document01, write_of, read_of, send_of, deliver_of, take_of}
use Rattle.keeping.proofs.Laws.Deliver.{deliver_long}
use Rattle.keeping.proofs.Laws.Take.{take_long}
use Rattle.runs.specs.Call as calls
use Rattle.runs.specs.Run.{SentSheet, State, sheet_no, start, made, put, after}
use Rattle.runs.proofs.Laws.Steps.{put_same, put_other, put_own}
use Rattle.schedule.specs.declared.Act.{Act}
use Rattle.schedule.specs.declared.Act.TheVariants as act
use Rattle.schedule.specs.Start.{Start}
use Rattle.schedule.specs.Step.{Step, said_act}
use Rattle.play.specs.Rounds.{shelf_of}
use Rattle.play.specs.Steps.{sheet_room, latest_from, latest_of, delivers_latest, call_answer, after_call, step_answer, after_step}
use Rattle.play.specs.Parts.Making.{StepDone, step_by_tray, nothing_done, make_of, SenderThere}
use Rattle.play.specs.Parts.Running.{no_desk, AllOpened}
use Rattle.play.proofs.Laws.Latest.{LatestIs, none_yet, sheet_there, Kept, kept_send}
use Rattle.play.proofs.Laws.Trays.{tray_in, tray_room, tray_same, tray_other, tray_zeros}

pub record Stands (n : ℕ) (s : State) (ds : List Desk) (trays latest : List ℕ) : Type 0 where
  pub desks_long : length ds ≡ 16
  pub trays_long : length trays ≡ 101888
  pub desk_is : (p : ℕ) → p < n → get_or ds p no_desk ≡ s.desk p
  pub tray_is : (p : ℕ) → p < n → tray_in (398 * n) trays p ≡ s.tray p
  pub kept : Kept n s.line latest

module _ {n : ℕ} (few : n ≤ 16) {s : State} {ds : List Desk} {trays latest : List ℕ} (so : Stands n s ds trays latest) {p : ℕ} (l : p < n) where
  room : p * (398 * n) + 398 * n ≤ length trays
  room = omega (arith, so.trays_long, tray_room n p few l)

  pub tray_long : length (s.tray p) ≡ 398 * n
  tray_long =
      ap (λ (t : List ℕ). length t) (sym (so.tray_is p l))
      ∙ length-take-le (398 * n) (drop (p * (398 * n)) trays) (omega (arith, room, length-drop (p * (398 * n)) trays))

  -- desk p has another record and another tray
  replaced : (d : Desk) (t : List ℕ) → length t ≡ 398 * n → {line : List SentSheet} {latest' : List ℕ} → Kept n line latest'
      → Stands n (record { desk = put s.desk p d; tray = put s.tray p t; line = line }) (set ds p d) (laid_over trays (p * (398 * n)) t) latest'
  replaced d t long k =
      record {
        desks_long = length-set ds p d ∙ so.desks_long;
        trays_long = laid_long trays (p * (398 * n)) t ∙ so.trays_long;
        desk_is = λ q m. by_desk q m (ℕ_discrete q p);
        tray_is = λ q m. by_tray q m (ℕ_discrete q p);
        kept = k;
      }
    where
      by_desk : (q : ℕ) → q < n → Dec (q ≡ p) → get_or (set ds p d) q no_desk ≡ put s.desk p d q
      by_desk q m (yes e) = rw e (get_or-set_same ds p d no_desk (omega (arith, so.desks_long)) ∙ sym (put_same s.desk p d))
      by_desk q m (no e) = get_or-set_other ds p q d no_desk e ∙ so.desk_is q m ∙ sym (put_other s.desk p d q e)

      by_tray : (q : ℕ) → q < n → Dec (q ≡ p) → tray_in (398 * n) (laid_over trays (p * (398 * n)) t) q ≡ put s.tray p t q
      by_tray q m (yes e) = rw e (tray_same (398 * n) trays p t long room ∙ sym (put_same s.tray p t))
      by_tray q m (no e) = tray_other (398 * n) trays p t long q e ∙ so.tray_is q m ∙ sym (put_other s.tray p t q e)

  -- what a step leaves stands for the state after it, and what it comes to is what the step does
  pub record Follows (step : Step) (r : StepDone) : Type 0 where
    pub answer_is : r.answer ≡ step_answer s step
    pub as_long : length r.tray ≡ 398 * n
    pub stands : Stands n (after_step s step) (set ds p r.desk) (laid_over trays (p * (398 * n)) r.tray) r.latest

  -- where a call leaves the tray alone
  abbrev with_desk : Desk → List SentSheet → State
  with_desk d line = record { desk = put s.desk p d; tray = s.tray; line = line }

  same_tray : (d : Desk) (line : List SentSheet) → record { desk = put s.desk p d; tray = put s.tray p (s.tray p); line = line } ≡ with_desk d line
  same_tray d line = ap (λ (f : ℕ → List ℕ). record { desk = put s.desk p d; tray = f; line = line }) (put_own s.tray p)

  same_all : record { desk = put s.desk p (s.desk p); tray = put s.tray p (s.tray p); line = s.line } ≡ s
  same_all = same_tray (s.desk p) s.line ∙ ap (λ (f : ℕ → Desk). record { desk = f; tray = s.tray; line = s.line }) (put_own s.desk p)

  left : (d : Desk) {line : List SentSheet} {latest' : List ℕ} → Kept n line latest'
      → Stands n (with_desk d line) (set ds p d) (laid_over trays (p * (398 * n)) (s.tray p)) latest'
  left d {line} {latest'} k =
      subst (λ (t : State). Stands n t (set ds p d) (laid_over trays (p * (398 * n)) (s.tray p)) latest') (same_tray d line) (replaced d (s.tray p) tray_long k)

  untouched : Stands n s (set ds p (s.desk p)) (laid_over trays (p * (398 * n)) (s.tray p)) latest
  untouched =
      subst (λ (t : State). Stands n t (set ds p (s.desk p)) (laid_over trays (p * (398 * n)) (s.tray p)) latest) same_all
      (replaced (s.desk p) (s.tray p) tray_long so.kept)

  -- ---- act by act

  -- what the code makes of an act, and what the act says
  abbrev makes : Act → StepDone
  makes a = make_of (s.desk p) p a (s.tray p) latest

  abbrev says : Act → Step
  says a = record { desk = p; act = said_act a }

  deliver_here : (q : ℕ) (found : Option ℕ) → latest_of q s.line ≡ found → LatestIs latest q s.line found → Follows (says (act.Deliver q)) (makes (act.Deliver q))
  unfolding step_answer after_step after
  deliver_here q found e (none_yet f) =
      let is : makes (act.Deliver q) ≡ nothing_done (s.desk p) (s.tray p) latest = rw f in
      subst (Follows (says (act.Deliver q))) (sym is)
      (record {
        answer_is = sym (ap (λ (o : Option ℕ). call_answer s (delivers_latest p o)) e);
        as_long = tray_long;
        stands = subst (λ (o : Option ℕ). Stands n (after_call s (delivers_latest p o)) (set ds p (s.desk p)) (laid_over trays (p * (398 * n)) (s.tray p)) latest) (sym e) untouched;
      })
  deliver_here q found e (sheet_there k m f b) =
      let done : Done = made document01 s (calls.delivers p k) in
      let is : makes (act.Deliver q) ≡ step_by_tray done latest = rw f (ap (λ (x : List ℕ). step_by_tray (deliver_of (s.desk p) (s.tray p) x) latest) b) in
      subst (Follows (says (act.Deliver q))) (sym is)
      (record {
        answer_is = sym (ap (λ (o : Option ℕ). call_answer s (delivers_latest p o)) e);
        as_long = deliver_long (s.desk p) (s.tray p) (sheet_no s k).bytes ∙ tray_long;
        stands =
            subst (λ (o : Option ℕ). Stands n (after_call s (delivers_latest p o)) (set ds p done.desk) (laid_over trays (p * (398 * n)) done.lent) latest) (sym e)
            (replaced done.desk done.lent (deliver_long (s.desk p) (s.tray p) (sheet_no s k).bytes ∙ tray_long) so.kept);
      })

  by_act : (a : Act) → SenderThere n a → Follows (says a) (makes a)
  unfolding step_answer after_step after
  by_act (act.Write cell c) there = record { answer_is = refl; as_long = tray_long; stands = left (write_of (s.desk p) cell c).desk so.kept }
  by_act (act.Read cell) there = record { answer_is = refl; as_long = tray_long; stands = left (read_of (s.desk p) cell).desk so.kept }
  by_act act.Send there =
      record { answer_is = refl; as_long = tray_long; stands = left (send_of (s.desk p) sheet_room).desk (kept_send n s.line latest so.kept few p l (s.desk p) sheet_room) }
  by_act (act.Deliver q) there = deliver_here q (latest_of q s.line) refl (so.kept.each q (there q refl))
  by_act act.Take there =
      let done = take_of (s.desk p) (s.tray p) in
      let long = take_long (s.desk p) (s.tray p) ∙ tray_long in
      record { answer_is = refl; as_long = long; stands = replaced done.desk done.lent long so.kept }

  -- as the code has it
  pub follows : (d : Desk) → d ≡ get_or ds p no_desk → (t : List ℕ) → t ≡ tray_in (398 * n) trays p
      → (a : Act) → SenderThere n a → (r : StepDone) → r ≡ make_of d p a t latest → Follows (says a) r
  follows d own t lent a there r gave =
      let is : r ≡ makes a =
      gave ∙ ap (λ (x : Desk). make_of x p a t latest) (own ∙ so.desk_is p l) ∙ ap (λ (x : List ℕ). make_of (s.desk p) p a x latest) (lent ∙ so.tray_is p l)
      in
      subst (Follows (says a)) (sym is) (by_act a there)

-- ---- at the start

zero_at : (k i : ℕ) → at1 (replicate k 0) i ≡ 0
zero_at zero i = refl
zero_at (suc k) zero = refl
zero_at (suc k) (suc i) = zero_at k i

zero_length : (k q : ℕ) → length_at (replicate k 0) q ≡ 0
zero_length k q = rw (zero_at k (398 * q), zero_at k (398 * q + 1))

nothing_kept : (n k : ℕ) → k ≡ 6368 → n ≤ 16 → Kept n [] (replicate k 0)
unfolding latest_of latest_from
nothing_kept n k size few =
    record {
      long = length-replicate {A = ℕ} k 0 ∙ size;
      fits = λ q m. record { there = omega (arith, length-replicate {A = ℕ} k 0); most = omega (arith, zero_length k q) };
      each = λ q m. none_yet (eq-eqb (length_at (replicate k 0) q) 0 (zero_length k q));
    }

pub stands_at_start : (x : Start) → x.n ≤ 16 → (ds : List Desk) → AllOpened x ds
    → (k j : ℕ) → k ≡ 101888 → j ≡ 6368 → Stands x.n (start document01 (shelf_of x)) ds (replicate k 0) (replicate j 0)
unfolding start
stands_at_start x few ds opened k j trays places =
    record {
      desks_long = opened.long;
      trays_long = length-replicate {A = ℕ} k 0 ∙ trays;
      desk_is = λ p l. opened.each p (omega arith);
      tray_is = λ p l. tray_zeros (398 * x.n) p k (omega (arith, tray_room x.n p few l));
      kept = nothing_kept x.n j places few;
    }
