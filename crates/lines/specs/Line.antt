-- The one line of a step, and the one line 1 of a start. 01, "The program `rounds`": "Single spaces, decimal without leading zeros, a minus only
-- before a day below 0".
-- Assumes nothing.
use Rattle.std.specs.Prelude.{ℕ, cond, List, [], ◌∷◌, ◌++◌, eqb}
use Rattle.schedule.specs.Step.{Act, writes, reads, sends, delivers, takes, Step}
use Rattle.content.specs.declared.Content.{Content}
use Rattle.content.specs.declared.Content.TheVariants.{Blank, Open, Day}
use Rattle.schedule.specs.Start.{Start}
use Rattle.text.specs.Text.{text}
use Rattle.text.specs.Separated.{space}
use Rattle.text.specs.Decimal.{decimal, signed_decimal}

-- "Single spaces"
abbrev pub spaced : List (List ℕ) → List ℕ
spaced [] = []
spaced (w ∷ []) = w
spaced (w ∷ v ∷ ws) = w ++ space ∷ spaced (v ∷ ws)

-- "day-or-`open`"; blank has no word
abbrev pub content_word : Content → List ℕ
content_word Blank = []
content_word Open = text "open"
content_word (Day d) = signed_decimal d

-- "`w` desk cell day-or-`open`; `r` desk cell; `s` desk; `d` sender receiver ..; `t` desk"
abbrev pub words_by : ℕ → Act → List (List ℕ)
words_by p (writes cell c) = text "w" ∷ decimal p ∷ decimal cell ∷ content_word c ∷ []
words_by p (reads cell) = text "r" ∷ decimal p ∷ decimal cell ∷ []
words_by p sends = text "s" ∷ decimal p ∷ []
words_by p (delivers q) = text "d" ∷ decimal q ∷ decimal p ∷ []
words_by p takes = text "t" ∷ decimal p ∷ []

abbrev pub step_line : Step → List ℕ
step_line step = spaced (words_by step.desk step.act)

-- "mode letter (`s`, `c`, `k` for cache, `-` for default)"
abbrev pub mode_word : ℕ → List ℕ
mode_word mode = cond (eqb mode 1) (text "s") (cond (eqb mode 2) (text "c") (cond (eqb mode 3) (text "k") (text "-")))

-- "Line 1: desks, cells, mode letter"
abbrev pub start_line : Start → List ℕ
start_line x = spaced (decimal x.n ∷ decimal x.m ∷ mode_word x.mode ∷ [])
