-- 01, "The program `rounds`": its listing, input and output, to the byte; and that it is a run of demand 3. The strings are the lines
-- of this crate's files `stdin` and `stdout`: those are the source, and tools/listing holds the strings to them.
-- Assumes nothing.
use Rattle.std.specs.Prelude.{ℕ, ◌≡◌, List, [], ◌∷◌, ◌++◌}
use Prim.Native.String.{String}
use Rattle.text.specs.Text.{text}
use Rattle.schedule.specs.Lines.{Line}
use Rattle.schedule.specs.Start.{Start}
use Rattle.play.specs.Rounds.{printed}
use Rattle.ruled.specs.Promises.{Playable, IsARun}

-- "each line, read or printed, ended by one line feed"
abbrev pub lines : List String → List ℕ
lines [] = []
lines (l ∷ ls) = text l ++ text "\n" ++ lines ls

-- "Input:"
abbrev pub input : List ℕ
input =
    lines
    ("2 2 s"
    ∷ "w 1 0 0"
    ∷ "r 1 1"
    ∷ "r 1 0"
    ∷ "s 0"
    ∷ "d 0 1"
    ∷ "t 1"
    ∷ "s 1"
    ∷ "w 0 1 open"
    ∷ "d 1 0"
    ∷ "t 0"
    ∷ "r 0 0"
    ∷ [])

-- "Output, whole."
abbrev pub output : List ℕ
output =
    lines
    ("desks 2 cells 2 mode s"
    ∷ "1 stored"
    ∷ "2 waits"
    ∷ "3 refused 8"
    ∷ "4 sent 0 0"
    ∷ "5 held"
    ∷ "6 taken 0 0 0 blank"
    ∷ "7 sent 1 1"
    ∷ "8 stored"
    ∷ "9 held"
    ∷ "10 taken 1 1 1 -"
    ∷ "11 day 0"
    ∷ [])

abbrev pub Listing : Type 0
Listing = printed input ≡ output

-- its line 1 says a shelf whose desks can be opened, the lines behind it are calls of a run of demand 3 on that shelf, and what is
-- printed, `output`, are that run's answers
pub record ListingIsARun : Type 0 where
  pub shelf : Start
  pub steps : List Line
  pub plays : Playable input shelf steps
  pub run : IsARun input shelf steps
