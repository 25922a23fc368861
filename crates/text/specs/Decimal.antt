-- 01, "The program `rounds`": "decimal without leading zeros".
-- Assumes nothing.
use Rattle.std.specs.Prelude.{ℕ, zero, suc, ◌+◌, ◌*◌, ◌-◌, ◌/◌, ◌%◌, min, Bool, true, false, cond, not, ◌&&◌, ◌||◌, List, [], ◌∷◌, eqb, leb, ltb, ℤ, pos, negsuc, length, drop, Option, None, Some}
use Rattle.text.specs.Separated.{minus, first_part}
use Rattle.text.specs.declared.Decimal.{Decimal}

-- ---- read

abbrev pub is_digit : ℕ → Bool
is_digit b = leb 48 b && leb b 57

abbrev pub digits : List ℕ → Bool
digits [] = true
digits (b ∷ bs) = is_digit b && digits bs

-- "without leading zeros": the word has bytes, and its first is a 0 only if it is the only one
abbrev pub no_leading_zero : List ℕ → Bool
no_leading_zero [] = false
no_leading_zero (b ∷ bs) = not (eqb b 48) || eqb (length bs) 0

unfoldable pub is_decimal : List ℕ → Bool
is_decimal word = digits word && no_leading_zero word

-- the number that digits make, behind those that make v
unfoldable pub value_from : ℕ → List ℕ → ℕ
value_from v [] = v
value_from v (b ∷ bs) = value_from (10 * v + (b - 48)) bs

unfoldable pub value : List ℕ → ℕ
value word = value_from 0 word

-- one more than the greatest number of 32 bits
abbrev pub beyond : ℕ
beyond = 4294967296

-- the number that a word is, if it is decimal: no more than `beyond`, which stands for every number beyond 32 bits
unfoldable pub decimal_in : List ℕ → Option ℕ
decimal_in word = cond (is_decimal word) (Some (min (value word) beyond)) None

-- the word that stands from `from` on, up to the next separator: whether it is decimal, its value (no more than `beyond`, which stands for every
-- number beyond 32 bits), and where it ends
unfoldable pub decimal_at : ℕ → List ℕ → ℕ → Decimal
decimal_at sep s from =
    let word = first_part sep (drop from s) in
    record { ok = is_decimal word; value = min (value word) beyond; end = from + length word }

-- ---- printed

-- the digits of k in front of a tail; `most` is the most that there may be
unfoldable pub digits_onto : (most k : ℕ) → List ℕ → List ℕ
digits_onto zero k tail = tail
digits_onto (suc most) k tail =
    cond (ltb k 10) ((48 + k % 10) ∷ tail) (digits_onto most (k / 10) ((48 + k % 10) ∷ tail))

-- the digits of a number of 32 bits, which has 10 of them at most
unfoldable pub decimal : ℕ → List ℕ
decimal k = digits_onto 10 k []

-- "a minus only before a day below 0"
abbrev pub signed_decimal : ℤ → List ℕ
signed_decimal (pos k) = decimal k
signed_decimal (negsuc k) = minus ∷ decimal (suc k)
