-- Laws of the loop over given entries (src/given.rt).
--   LaidSoFar, laid_begun, laid_turned, laid_ended                the loop that writes them
-- Assumes nothing.
use mathlib.Core.Path.{◌≡◌, refl, sym, ap, ◌∙◌}
use mathlib.Core.List.{List, ◌++◌}
use Prim.Native.Nat.{ℕ, ◌+◌, ◌*◌, ◌<◌, ◌≤◌}
use native.Mathlib.Omega.{arith}
use lib.ListN.{length, get_or, take, drop, length-append}
use lib.Seq.{take-length, length-take-le}
use Rattle.layout.specs.declared.Entry.{Entry}
use Rattle.layout.specs.Layout.{entry_bytes, entries_bytes}
use Rattle.sheet.specs.Reading.{no_entry}
use Rattle.layout.proofs.Laws.{entries_length, entries_append}
use Rattle.sheet.proofs.Laws.Good.{one_more}
use Rattle.laying.specs.Laying.{laid_over}
use Rattle.laying.proofs.Laws.{laid_next}

pub record LaidSoFar (es : List Entry) (b now : List ℕ) (i : ℕ) : Type 0 where
  pub within_es : i ≤ length es
  pub bytes : now ≡ entries_bytes (take i es) ++ drop (6 * i) b
  pub long : length now ≡ length b

module _ (es : List Entry) (b : List ℕ) where
  pub laid_begun : LaidSoFar es b b 0
  laid_begun = record { within_es = omega arith; bytes = refl; long = refl }

  module _ (now : List ℕ) (i : ℕ) (so : LaidSoFar es b now i) where
    pub laid_turned : 6 * length es ≤ length b → i < length es → (after : List ℕ) → after ≡ laid_over now (6 * i) (entry_bytes (get_or es i no_entry)) → length after ≡ length now
        → LaidSoFar es b after (i + 1)
    laid_turned room h after e kept =
        let front : List ℕ = entries_bytes (take i es) in
        let at : length front ≡ 6 * i = entries_length (take i es) ∙ ap (λ (k : ℕ). 6 * k) (length-take-le i es (omega arith)) in
        let six : length (front ++ entry_bytes (get_or es i no_entry)) ≡ 6 * (i + 1) = omega (arith, length-append front (entry_bytes (get_or es i no_entry))) in
        record {
          within_es = omega arith;
          bytes =
              e ∙ ap (λ (l : List ℕ). laid_over l (6 * i) (entry_bytes (get_or es i no_entry))) so.bytes
              ∙ ap (λ (k : ℕ). laid_over (front ++ drop k b) k (entry_bytes (get_or es i no_entry))) (sym at)
              ∙ laid_next front (entry_bytes (get_or es i no_entry)) b (omega arith)
              ∙ rw (six, one_more es i h, entries_append);
          long = kept ∙ so.long;
        }

    pub laid_ended : length es ≤ i → now ≡ entries_bytes es ++ drop (6 * length es) b
    laid_ended h =
        let all : i ≡ length es = omega (arith, so.within_es) in
        so.bytes ∙ rw (all, take-length)
