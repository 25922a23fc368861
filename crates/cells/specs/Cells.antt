-- 01's form for a record: "kind and day arrays beside it". A record keeps 64 places for the shelf's cells and 64 for the pending entries;
-- each is a place in an array of kinds and one in an array of days, the two numbers that stand for a content. What is said here is said
-- of such arrays; past the 64 there is no place: it reads as blank and takes nothing.
-- Assumes nothing.
use Rattle.std.specs.Prelude.{ℕ, zero, suc, ◌+◌, Bool, true, false, cond, not, ◌&&◌, ◌||◌, List, eqb, ltb, ℤ, pos, get_or, set}
use Rattle.content.specs.declared.Content.{Content}
use Rattle.content.specs.Content.{content_of}

-- what stands in place i of an array, or `none` past the places
unfoldable pub place_at : {A : Type 0} → A → List A → ℕ → A
place_at none l i = cond (ltb i 64) (get_or l i none) none

-- the two numbers in a place, and the content that they stand for
abbrev pub kind_at : List ℕ → ℕ → ℕ
kind_at kinds i = place_at 0 kinds i

abbrev pub day_at : List ℤ → ℕ → ℤ
day_at days i = place_at (pos 0) days i

abbrev pub content_at : List ℕ → List ℤ → ℕ → Content
content_at kinds days i = content_of (kind_at kinds i) (day_at days i)

-- a place is blank, or filled
abbrev pub blank : List ℕ → ℕ → Bool
blank kinds i = eqb (kind_at kinds i) 0

abbrev pub filled : List ℕ → ℕ → Bool
filled kinds i = not (blank kinds i)

-- a test holds of each place below n; of some; and the number of those of which it holds
unfoldable pub each : ℕ → (ℕ → Bool) → Bool
each zero p = true
each (suc n) p = each n p && p n

unfoldable pub anywhere : ℕ → (ℕ → Bool) → Bool
anywhere zero p = false
anywhere (suc n) p = anywhere n p || p n

unfoldable pub count : ℕ → (ℕ → Bool) → ℕ
count zero p = 0
count (suc n) p = count n p + cond (p n) 1 0

-- an array with x in place i, where a test holds; the array as it is, where not
unfoldable pub put_if : {A : Type 0} → Bool → List A → ℕ → A → List A
put_if t l i x = cond (t && ltb i 64) (set l i x) l
