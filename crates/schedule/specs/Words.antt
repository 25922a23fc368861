-- 01, "The program `rounds`": what a word of a line may be. "Single spaces, decimal without leading zeros, a minus only before a day below 0".
-- Assumes nothing.
use Rattle.std.specs.Prelude.{ℕ, ◌-◌, Bool, true, false, cond, ◌&&◌, ◌||◌, List, [], ◌∷◌, eqb, leb, ltb, ℤ, pos, negsuc}
use Prim.Native.String.{String}
use Rattle.content.specs.declared.Content.{Content}
use Rattle.content.specs.declared.Content.TheVariants.{Open, Day}
use Rattle.numbers.specs.Limits.{within}
use Rattle.text.specs.Text.{text}
use Rattle.text.specs.Separated.{parts, space, minus}
use Rattle.text.specs.Decimal.{is_decimal, value}

-- "Single spaces": between two words there is one
abbrev pub words : List ℕ → List (List ℕ)
words line = parts space line

abbrev pub same : List ℕ → List ℕ → Bool
same [] [] = true
same [] (b ∷ bs) = false
same (a ∷ rest) [] = false
same (a ∷ rest) (b ∷ bs) = eqb a b && same rest bs

-- the word is this text
unfoldable pub is : String → List ℕ → Bool
is t word = same word (text t)

-- a number of 32 bits, unsigned
unfoldable pub is_number : List ℕ → Bool
is_number word = is_decimal word && leb (value word) 4294967295

-- a desk that is there, of n
unfoldable pub is_desk : ℕ → List ℕ → Bool
is_desk n word = is_number word && ltb (value word) n

-- "for a day signed": -2,147,483,648 to 2,147,483,647
unfoldable pub is_day_word : List ℕ → Bool
is_day_word [] = false
is_day_word (b ∷ bs) =
    cond (eqb b minus)
    (is_decimal bs && within 1 2147483648 (value bs))
    (is_decimal (b ∷ bs) && leb (value (b ∷ bs)) 2147483647)

unfoldable pub day_of_word : List ℕ → ℤ
day_of_word [] = pos 0
day_of_word (b ∷ bs) = cond (eqb b minus) (negsuc (value bs - 1)) (pos (value (b ∷ bs)))

-- "day-or-`open`"
unfoldable pub is_content_word : List ℕ → Bool
is_content_word word = is "open" word || is_day_word word

unfoldable pub content_of_word : List ℕ → Content
content_of_word word = cond (is "open" word) Open (Day (day_of_word word))
