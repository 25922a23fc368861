-- A write that is carried out is Figure 1's w_p(x)v.
-- Assumes nothing.
use Prim.Native.Nat.{ℕ, ◌<◌}
use mathlib.Core.Path.{◌≡◌, refl, sym, ap, ◌∙◌, subst}
use mathlib.Core.List.{List, []}
use mathlib.Core.Option.{none}
use native.Mathlib.Omega.{arith}
use mir.Syntax.{w32}
use mir.Val.{SFits}
use Rattle.answer.specs.Promises.{Silent}
use Rattle.content.specs.declared.Content.{Content}
use Rattle.content.specs.Content.{kind_of, day_of, content_of}
use Rattle.content.proofs.Laws.Content.{content_again}
use Rattle.cells.specs.Cells.{content_at}
use Rattle.desk.specs.declared.Desk.{Desk}
use Rattle.desk.specs.Answers.{stored}
use Rattle.desk.specs.Calls.{write_rules, written_desk, write_of}
use Rattle.desk.specs.Values.{DeskFits}
use Rattle.desk.proofs.Laws.Allowed.{desk_says, write_allows}
use Rattle.keeping.proofs.Laws.Write.{write_sound, write_fits}
use Rattle.figure.specs.Figure1.{assign, include, remove, writes, write}
use Rattle.figure.specs.Map.{process_of, updates_of}
use Rattle.figure.specs.Demand2.{ByRules, StepOf, WriteStep}
use Rattle.figure.proofs.Laws.ByRules.{by_call, sound_next}
use Rattle.figure.proofs.Laws.Maps.{copy_put, updates_put, same_process}

module _ (d : Desk) (cell : ℕ) (c : Content) (fits : DeskFits d) where
  written_step : Silent (write_rules d cell c) → (tray : List ℕ) → StepOf d (process_of d tray) (writes cell c) (process_of (written_desk d cell c) tray)
  written_step silent tray =
      let allowed = write_allows d cell c silent in
      let here : cell < 64 = omega (arith, allowed.cell_below, (desk_says d allowed.is_sound).cells_most) in
      let again : content_of (kind_of c) (day_of c) ≡ c = content_again c in
      let quiet : (process_of d tray).blocked ≡ none = rw allowed.none_waits in
      let copies : assign cell c (content_at d.kind d.day) ≡ (process_of (written_desk d cell c) tray).copy =
      sym (copy_put d.kind d.day fits.kinds fits.days cell here (kind_of c) (day_of c)
      ∙ ap (λ (x : Content). assign cell x (content_at d.kind d.day)) again)
      in
      let updated : include cell c (remove cell (updates_of d.pkind d.pday)) ≡ (process_of (written_desk d cell c) tray).updates =
      sym (updates_put d.pkind d.pday fits.pkinds fits.pdays cell here (kind_of c) (day_of c) allowed.not_blank
      ∙ ap (λ (x : Content). include cell x (remove cell (updates_of d.pkind d.pday))) again)
      in
      subst (StepOf d (process_of d tray) (writes cell c)) (same_process copies updated refl (sym quiet) refl) (write (process_of d tray) cell c quiet)

  pub write_by_rules : SFits w32 (day_of c) → ByRules (write_rules d cell c) d [] (WriteStep d cell c) (write_of d cell c)
  unfolding write_of
  write_by_rules small =
      let rules = write_rules d cell c in
      by_call rules d [] stored (written_desk d cell c) [] (WriteStep d cell c)
      (λ silent.
      record {
        answer = refl;
        step = written_step silent;
        next = sound_next rules d (written_desk d cell c) silent (write_sound d cell c fits (write_allows d cell c silent).is_sound) (write_fits d cell c small fits);
        none_lent = refl;
      })
