-- What is promised of texts beside the calls' contracts. proofs/Laws proves each.
-- Assumes nothing.
use Rattle.std.specs.Prelude.{◌≡◌, true, List, ℕ, ◌<◌, ◌^◌}
use Rattle.text.specs.Decimal.{is_decimal, value, decimal}

-- ---- "decimal without leading zeros", read and printed: a number has one such word, and a word one number

pub record ReadsBack (k : ℕ) : Type 0 where
  pub is_decimal_lem : is_decimal (decimal k) ≡ true
  pub same_number : value (decimal k) ≡ k

-- what is printed of a number reads as that number
abbrev pub PrintedReadsBack : Type 0
PrintedReadsBack = (k : ℕ) → k < 10 ^ 10 → ReadsBack k

-- a word that reads as a number is what is printed of it
abbrev pub ReadPrintsBack : Type 0
ReadPrintsBack = (word : List ℕ) → is_decimal word ≡ true → value word < 10 ^ 10 → decimal (value word) ≡ word
