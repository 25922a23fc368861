-- 02, K1: "Keep sent sheets end to end in one lent book in turn order. A book opens at its end: the
-- trailer gives the last sheet's start, and the sheet before ends there." A book is a list of
-- bytes, and its sheets are lists of bytes, the newest first, as they are met from its end. Any
-- bytes have such a list, good or not: it ends at the front, where what is left may be no sheet.
-- There is no other list of good sheets for the same bytes (`OneList`, crates/booked).
-- Assumes nothing.
use Rattle.std.specs.Prelude.{ℕ, zero, suc, ◌+◌, ◌-◌, cond, List, [], ◌∷◌, ◌++◌, eqb, length, take, drop}
use Rattle.layout.specs.Layout.{trailer_in}

-- "the trailer gives the last sheet's start": the trailer is the last 12 bytes, and the distance
-- leads from it back to the first entry. It is the front where the distance leads beyond it
abbrev pub last_start : List ℕ → ℕ
last_start b = length b - ((trailer_in b).distance + 12)

-- the last sheet, and what stands before it: "the sheet before ends there"
abbrev pub last_sheet : List ℕ → List ℕ
last_sheet b = drop (last_start b) b

abbrev pub before : List ℕ → List ℕ
before b = take (last_start b) b

-- so many of its sheets at most, the newest first
unfoldable pub sheets_back : ℕ → List ℕ → List (List ℕ)
sheets_back zero b = []
sheets_back (suc k) b = cond (eqb (length b) 0) [] (last_sheet b ∷ sheets_back k (before b))

-- all of them: no book has more sheets than bytes
unfoldable pub sheets_of : List ℕ → List (List ℕ)
sheets_of b = sheets_back (length b) b

-- sheets, the newest first, "end to end in one lent book in turn order"
unfoldable pub end_to_end : List (List ℕ) → List ℕ
end_to_end [] = []
end_to_end (s ∷ older) = end_to_end older ++ s
