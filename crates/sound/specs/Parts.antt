-- The clauses of `sound_of` as the loops of the code test them. That they come to `sound_of` is proved (proofs/Laws); nobody need believe it.
-- Assumes nothing.
use Rattle.std.specs.Prelude.{ℕ, Bool, cond, not, ◌&&◌, ◌||◌, List, eqb, leb, ℤ, pos}
use Rattle.cells.specs.Cells.{kind_at, day_at, blank, each}
use Rattle.sound.specs.Sound.{same_day, is_kind, day_fits, ◌implies◌}

abbrev pub blank_from : ℕ → List ℕ → List ℕ → ℕ → Bool
blank_from m kind pkind i = leb m i implies (blank kind i && blank pkind i)

-- kinds that stand for contents; a pending cell's is not blank on the shelf and, but for causal mode, the same there
abbrev pub kinds_fit : Bool → ℕ → ℕ → Bool
kinds_fit causal kind pkind =
    (is_kind kind && is_kind pkind) && (eqb pkind 0 || (not (eqb kind 0) && (causal || eqb pkind kind)))

-- the day of a pending place that agrees with the shelf's
abbrev pub wanted_day : ℕ → ℤ → ℤ
wanted_day pkind day = cond (eqb pkind 0) (pos 0) day

-- the clauses on the days of pending places, in causal mode and in the others
unfoldable pub pending_days : Bool → List ℤ → List ℕ → List ℤ → Bool
pending_days causal day pkind pday =
    cond causal
    (each 64 (λ i. day_fits (kind_at pkind i) (day_at pday i)))
    (each 64 (λ i. same_day (day_at pday i) (wanted_day (kind_at pkind i) (day_at day i))))
