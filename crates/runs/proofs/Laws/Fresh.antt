-- A fresh shelf is in order, and so is what there is after every run.
--   opens, fresh      every open is carried out, and all is in order then
--   in_order          after a run, too
-- Assumes nothing.
use Prim.Native.Nat.{ℕ, zero, suc, ◌+◌, ◌*◌, ◌<◌}
use mathlib.Core.Path.{◌≡◌, refl, ap}
use mathlib.Core.Bool.{true}
use mathlib.Core.List.{List, []}
use native.Mathlib.Omega.{arith}
use lib.ListN.{get_or, replicate, length-replicate}
use borrow.Author.Tests.{eq-eqb}
use Rattle.answer.specs.Answer.{answered}
use Rattle.answer.specs.Promises.{Silent}
use Rattle.answer.proofs.Laws.{answered_if, changed_if}
use Rattle.layout.proofs.Bytes.{zeros_bytes}
use Rattle.tray.specs.Tray.{length_at, free}
use Rattle.tray.specs.Tray.{place_start}
use Rattle.desk.specs.declared.Desk.{Desk}
use Rattle.desk.specs.Answers.{opened}
use Rattle.desk.specs.Calls.{document01, open_rules, mode_for, blank_desk, fresh_head, open_of}
use Rattle.desk.proofs.Laws.Allowed.{open_if}
use Rattle.keeping.proofs.Keeping.{open_is_sound}
use Rattle.runs.specs.Call.{Call}
use Rattle.runs.specs.Run.{Shelf, Within, start, RunOn, reached, after_all}
use Rattle.runs.proofs.Laws.InOrder.{is_free, DeskInOrder, InOrder}
use Rattle.runs.proofs.Laws.Lists.{along}
use Rattle.runs.proofs.Laws.Steps.{step}
use Rattle.runs.proofs.Laws.Keeps.{step_in_order}

-- ---- a clear tray

clear : (n i : ℕ) → ◌≡◌ {A = ℕ} (get_or (replicate n 0) i 0) 0
clear zero i = refl
clear (suc n) zero = refl
clear (suc n) (suc i) = clear n i

clear_free : (n q : ℕ) → free (replicate n 0) q ≡ true
clear_free n q = eq-eqb (length_at (replicate n 0) q) 0 (rw (clear n (place_start q), clear n (place_start q + 1)))

-- ---- a desk that was opened

module _ (shelf : Shelf) (w : Within shelf) (p : ℕ) (here : p < shelf.n) where
  allowed : Silent (open_rules shelf.n shelf.m p (shelf.mode p))
  allowed =
      open_if shelf.n shelf.m p (shelf.mode p)
      (record {
        desks_least = w.desks_least;
        desks_most = w.desks_most;
        cells_least = w.cells_least;
        cells_most = w.cells_most;
        own_below = here;
        mode_most = w.modes_most p here;
      })

  pub opens : (open_of shelf.n shelf.m p (shelf.mode p)).answer ≡ answered opened
  unfolding open_of
  opens = answered_if (open_rules shelf.n shelf.m p (shelf.mode p)) opened allowed

  fresh_desk : DeskInOrder shelf [] p (open_of shelf.n shelf.m p (shelf.mode p)).desk (replicate (398 * shelf.n) 0)
  unfolding open_of
  fresh_desk =
      let rules = open_rules shelf.n shelf.m p (shelf.mode p) in
      let is = changed_if rules (blank_desk (fresh_head 0 0 0 0)) (blank_desk (fresh_head shelf.n shelf.m p (mode_for (shelf.mode p)))) allowed in
      record {
        as_opened =
            record {
              is_sound = open_is_sound.sound_record shelf.n shelf.m p (shelf.mode p) opens;
              fits = open_is_sound.record_fits shelf.n shelf.m p (shelf.mode p);
              n = ap (λ (x : Desk). x.head.n) is;
              m = ap (λ (x : Desk). x.head.m) is;
              own = ap (λ (x : Desk). x.head.own) is;
              mode = ap (λ (x : Desk). x.head.mode) is;
            };
        no_further = let z = ap (λ (x : Desk). x.head.turn) is in omega (arith, z);
        past_own = λ k l e. absurd (omega arith);
        tray_long = length-replicate (398 * shelf.n) 0;
        tray_bytes = zeros_bytes (398 * shelf.n);
        places = λ q l. is_free (clear_free (398 * shelf.n) q);
      }

pub fresh : (shelf : Shelf) → Within shelf → InOrder shelf (start document01 shelf)
unfolding start
fresh shelf w = record { sheets = λ k l. absurd (omega arith); desks = fresh_desk shelf w }

-- ---- a run

pub in_order : (shelf : Shelf) (cs : List Call) → RunOn document01 shelf cs → InOrder shelf (reached document01 shelf cs)
in_order shelf cs r =
    along document01 shelf.n (start document01 shelf) (λ cs s. InOrder shelf s) (fresh shelf r.within)
    (λ cs c before o here. step_in_order o here (step (after_all document01 (start document01 shelf) cs) c)) cs r.run
