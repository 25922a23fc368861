-- What is promised of the parts of a sheet beside the calls' contracts: "empty is not zero and not yesterday", on the line. proofs/Laws.antt
-- proves each.
-- Assumes nothing.
use Rattle.std.specs.Prelude.{◌≡◌, ℕ, ℤ}
use Rattle.std.specs.Int.{w32}
use Rattle.std.proofs.Common.{SFits}
use Rattle.content.specs.declared.Content.{Content}
use Rattle.content.specs.declared.Content.TheVariants.{Open, Day}
use Rattle.content.specs.Content.{day_of}
use Rattle.layout.specs.Layout.{entry_bytes, entry_for, content_in}

-- two contents that are sent with the same bytes are the same content; the premises say that the days have 32 bits
abbrev pub ContentsApart : Type 0
ContentsApart =
    (cell : ℕ) (c d : Content) → SFits w32 (day_of c) → SFits w32 (day_of d) → entry_bytes (entry_for cell c) ≡ entry_bytes (entry_for cell d) → c ≡ d

-- an entry gives back the content that it was made of
abbrev pub ContentInEntry : Type 0
ContentInEntry = (cell : ℕ) (c : Content) → SFits w32 (day_of c) → content_in (entry_for cell c) ≡ c

-- no day, and so not day 0, has the bytes of open
abbrev pub OpenMeetsNoDay : Type 0
OpenMeetsNoDay = (cell : ℕ) (d : ℤ) → entry_bytes (entry_for cell Open) ≡ entry_bytes (entry_for cell (Day d)) → ⊥
