-- What the private functions of this crate do. Nobody need believe it: the public promise is `Sends`.
-- Assumes nothing.
use Rattle.std.specs.Prelude.{◌≡◌, ℕ, zero, suc, ◌+◌, Bool, cond, ◌||◌, List, [], ◌∷◌, ◌++◌, ℤ, length}
use Rattle.laying.specs.Laying.{laid_over}
use Rattle.layout.specs.declared.Entry.{Entry}
use Rattle.cells.specs.Cells.{filled}
use Rattle.pending.specs.Pending.{entry_in}

-- one of the eight places from `from` on is filled
abbrev pub some_of_eight : List ℕ → ℕ → Bool
some_of_eight pkind from =
    ((filled pkind from || filled pkind (from + 1)) || (filled pkind (from + 2) || filled pkind (from + 3)))
    || ((filled pkind (from + 4) || filled pkind (from + 5)) || (filled pkind (from + 6) || filled pkind (from + 7)))

-- the pending entry of a cell, if there is one
unfoldable pub pending_at : List ℕ → List ℤ → ℕ → List Entry
pending_at pkind pday i = cond (filled pkind i) (entry_in pkind pday i ∷ []) []

-- the pending entries of n cells from `from` on
unfoldable pub pending_from : List ℕ → List ℤ → ℕ → ℕ → List Entry
pending_from pkind pday from zero = []
pending_from pkind pday from (suc n) = pending_from pkind pday from n ++ pending_at pkind pday (from + n)

-- bytes laid over a buffer from `at` on, and where they end
pub record Lays (before : List ℕ) (at : ℕ) (x : List ℕ) (end : ℕ) (after : List ℕ) : Type 0 where
  pub ends : end ≡ at + length x
  pub buffer : after ≡ laid_over before at x
