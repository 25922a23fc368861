-- 01, "Take": "Each entry goes to the shelf in causal mode always, in the other modes only if that cell is not pending." And it counts
-- "how many of them went to the shelf".
-- Assumes nothing.
use Rattle.std.specs.Prelude.{◌≡◌, ℕ, ◌+◌, ◌*◌, Bool, cond, ◌||◌, List, [], ◌∷◌, leb, ℤ, length}
use Rattle.std.specs.Int.{w32}
use Rattle.std.proofs.Common.{to_z}
use Rattle.cells.specs.Cells.{blank, put_if}
use Rattle.layout.specs.declared.Entry.{Entry}
use Rattle.layout.specs.Layout.{entries_of}

-- "in causal mode always, in the other modes only if that cell is not pending". (An entry of a cell from 64 up, which no good sheet has, counts
-- as gone and puts nothing.)
abbrev pub goes : Bool → List ℕ → Entry → Bool
goes causal pkind e = causal || blank pkind e.cell

-- an array of the shelf after these entries, in their order: where one goes, its value goes to its cell's place
unfoldable pub laid : {A : Type 0} → (Entry → Bool) → (Entry → A) → List A → List Entry → List A
laid going value l [] = l
laid going value l (e ∷ es) = laid going value (put_if (going e) l e.cell (value e)) es

-- the kind and the day that an entry puts there
abbrev pub kind_on : Entry → ℕ
kind_on e = e.kind

abbrev pub day_on : Entry → ℤ
day_on e = to_z w32 e.day

-- "how many of them went to the shelf"
unfoldable pub went_of : (Entry → Bool) → List Entry → ℕ
went_of going [] = 0
went_of going (e ∷ es) = cond (going e) 1 0 + went_of going es

-- the first n entries that bytes begin with; none where the bytes end before they do, and a trailer of 12 bytes behind them
abbrev pub entries_in : List ℕ → ℕ → List Entry
entries_in s n = cond (leb (6 * n + 12) (length s)) (entries_of n s) []

-- a call that found a shelf of `kind` and `day`, left it as `kind'` and `day'`, and answered r
pub record AppliesEntries (causal : Bool) (pkind : List ℕ) (es : List Entry) (kind : List ℕ) (day : List ℤ) (r : ℕ) (kind' : List ℕ) (day' : List ℤ) : Type 0 where
  pub went : r ≡ went_of (goes causal pkind) es
  pub kinds : kind' ≡ laid (goes causal pkind) kind_on kind es
  pub days : day' ≡ laid (goes causal pkind) day_on day es
