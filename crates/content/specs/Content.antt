-- 01, "The shelf and what a cell holds": "A cell's content is blank, open, or a day with its signed 32-bit number; each is a case of its own."
-- The enum `Content` of the code is that content. A record keeps two numbers in its place, and a sheet carries them: a kind and a day.
-- Assumes nothing.
use Rattle.std.specs.Prelude.{ℕ, cond, eqb, ℤ, pos, List, ◌++◌, codes}
use Rattle.std.specs.Fmt.{signed_decimal}
use Rattle.content.specs.declared.Content.{Content}
use Rattle.content.specs.declared.Content.TheVariants.{Blank, Open, Day}

-- 01, "A sheet and its trailer": "kind (1: 1 open, 2 day)"; no entry is blank, so 0 is free for it
abbrev pub kind_of : Content → ℕ
kind_of Blank = 0
kind_of Open = 1
kind_of (Day d) = 2

-- 01, `sound`: "day numbers are 0 unless the content is a day"
abbrev pub day_of : Content → ℤ
day_of Blank = pos 0
day_of Open = pos 0
day_of (Day d) = d

-- the content that a kind and a day's number stand for; a kind that is neither 1 nor 2 is no content and reads as never written
abbrev pub content_of : ℕ → ℤ → Content
content_of k d = cond (eqb k 1) Open (cond (eqb k 2) (Day d) Blank)

-- a content as the programs print it: 01, "The program `rounds`": "`blank`, `open` or `day` and number", the number in decimal, "a minus
-- only before a day below 0"
abbrev pub shown : Content → List ℕ
shown Blank = codes "blank"
shown Open = codes "open"
shown (Day d) = codes "day " ++ signed_decimal d
