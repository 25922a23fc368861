-- A desk as a process of Figure 1: where document 01 and Figure 1 use different state, the map between them.
-- Assumes nothing.
use Rattle.std.specs.Prelude.{ℕ, cond, List, [], ◌∷◌, eqb, ℤ}
use Rattle.std.proofs.Math.Option.{Option, none, some}
use Rattle.content.specs.declared.Content.{Content}
use Rattle.content.specs.declared.Content.TheVariants.{Blank}
use Rattle.layout.specs.declared.Entry.{Entry}
use Rattle.layout.specs.Layout.{entries_of, trailer_in, content_in}
use Rattle.cells.specs.Cells.{content_at, filled}
use Rattle.sound.specs.Head.{turn_desk, read_waits, wait_cell}
use Rattle.tray.specs.Tray.{sheet_at, holds_good}
use Rattle.desk.specs.declared.Desk.{Desk}
use Rattle.figure.specs.Figure1.{Model, sequential, causal, cache, Updates, ∅, include, Process}

-- 01: "mode (1 sequential, 2 causal, 3 cache)" (a sound record has no other mode)
abbrev pub model_of : ℕ → Model
model_of mode = cond (eqb mode 1) sequential (cond (eqb mode 2) causal cache)

-- 01: "Blank means never written, the initial value of source document 003": so the copies begin
abbrev pub never_written : ℕ → Content
never_written x = Blank

-- the pending entries as a set
abbrev pub updates_of : List ℕ → List ℤ → Updates Content
updates_of pkind pday x = cond (filled pkind x) (some (content_at pkind pday x)) none

-- the set that entries make (of two entries for one cell the first counts; a good sheet has no two)
abbrev pub updates_in : List Entry → Updates Content
updates_in [] = ∅
updates_in (e ∷ es) = include e.cell (content_in e) (updates_in es)

-- the set that a sheet carries; and what is received from desk q: the set of the good sheet in its place, if there is one
abbrev pub carried : List ℕ → Updates Content
carried s = updates_in (entries_of (trailer_in s).entries s)

abbrev pub received : List ℕ → ℕ → Option (Updates Content)
received tray q = cond (holds_good tray q) (some (carried (sheet_at tray q))) none

-- a desk and its tray: the shelf is x_p for each cell x; the pending entries are updates_p; "The turn is at desk (turn number mod n)"; a waiting read is
-- blocked; and the tray is the receiving buffer
abbrev pub process_of : Desk → List ℕ → Process Content
process_of d tray =
    record {
      copy = content_at d.kind d.day;
      updates = updates_of d.pkind d.pday;
      turn = turn_desk d.head;
      blocked = cond (read_waits d.head) (some (wait_cell d.head)) none;
      buffer = received tray;
    }
