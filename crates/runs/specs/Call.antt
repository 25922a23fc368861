-- One call of a run, of a desk's calls other than open. 00, demand 3: "Then make any list of other calls, refused ones too".
-- Assumes nothing.
use Rattle.std.specs.Prelude.{ℕ, List, replicate}
use Rattle.content.specs.declared.Content.{Content}

-- a call of a run: by which desk, and what it is given. "only sheets sent on this shelf are delivered, unaltered, in any order and any number of
-- times": a delivery names the sheet by how many were sent before it
pub data Call : Type 0 where
  writes : (desk cell : ℕ) → Content → Call
  reads : (desk cell : ℕ) → Call
  sends : (desk : ℕ) (buffer : List ℕ) → Call
  delivers : (desk sheet : ℕ) → Call
  takes : (desk : ℕ) → Call

-- which desk it is at
abbrev pub desk_of : Call → ℕ
desk_of (writes p cell c) = p
desk_of (reads p cell) = p
desk_of (sends p buffer) = p
desk_of (delivers p k) = p
desk_of (takes p) = p

-- "`s` lends 396 bytes.": a buffer for a send
unfoldable pub sheet_room : List ℕ
sheet_room = replicate 396 0
