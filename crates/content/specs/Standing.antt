-- 01, "Standing": "blank gives unknown, open gives open, a day gives its number minus today's, exact in 64 bits.
-- 0 days left is still cleared; below 0 is past."
-- Assumes nothing.
use Rattle.std.specs.Prelude.{Bool, true, false, ℕ, ℤ, pos, negsuc, ◌-ℤ◌, List, ◌++◌, codes}
use Rattle.std.specs.Fmt.{signed_decimal}
use Rattle.answer.specs.Answer.{Answer, answered}
use Rattle.content.specs.declared.Content.{Content}
use Rattle.content.specs.declared.Content.TheVariants as content
use Rattle.content.specs.declared.Standing.{Standing}
use Rattle.content.specs.declared.Standing.TheVariants as standing

-- unknown, open (it has no end), or the days left
pub data Stands : Type 0 where
  unknown : Stands
  no_end : Stands
  left : ℤ → Stands

-- of a content, on the day `today`
abbrev pub standing_on : Content → ℤ → Stands
standing_on content.Blank today = unknown
standing_on content.Open today = no_end
standing_on (content.Day d) today = left (d -ℤ today)

-- "0 days left is still cleared"; open is cleared on every day, and of what is unknown nobody can say so
abbrev pub cleared : Stands → Bool
cleared unknown = false
cleared no_end = true
cleared (left (pos n)) = true
cleared (left (negsuc n)) = false

-- "below 0 is past": only a day can be past
abbrev pub past : Stands → Bool
past unknown = false
past no_end = false
past (left (pos n)) = false
past (left (negsuc n)) = true

-- what each case of the code's enum says; a standing is never refused ("Standing: none.")
abbrev pub said_standing : Standing → Answer Stands
said_standing standing.Unknown = answered unknown
said_standing standing.Open = answered no_end
said_standing (standing.Left n) = answered (left n)

-- a standing as the programs print it: 01, "Standing", "blank gives unknown, open gives open", and so many "days left"
abbrev pub shown : Standing → List ℕ
shown standing.Unknown = codes "unknown"
shown standing.Open = codes "open"
shown (standing.Left n) = signed_decimal n ++ codes " days left"
