-- The invariant of runs, by which all that is proved of them goes: no desk is further than the line, nor behind a sheet of its own, and a place of a
-- tray is free or holds a sheet of the line that is not yet taken; with what specs/EveryRun.antt says of records and sheets.
--   PlaceInOrder, DeskInOrder, InOrder      a place of a tray, a desk's record and tray, a state
-- Assumes nothing.
use mathlib.Core.Path.{◌≡◌}
use mathlib.Core.Bool.{true}
use mathlib.Core.List.{List}
use Prim.Native.Nat.{ℕ, ◌*◌, ◌%◌, ◌≤◌, ◌<◌}
use lib.ListN.{length}
use Rattle.layout.specs.Values.{AreBytes}
use Rattle.tray.specs.Tray.{free, sheet_at, holds_good}
use Rattle.desk.specs.declared.Desk.{Desk}
use Rattle.runs.specs.Run.{Shelf, SentSheet, sheet_on, State, sheet_no}
use Rattle.runs.specs.EveryRun.{AsOpened, SheetInOrder}

-- the place of desk q in the tray of a desk with this turn number
pub data PlaceInOrder (n : ℕ) (line : List SentSheet) (turn : ℕ) (tray : List ℕ) (q : ℕ) : Type 0 where
  is_free : free tray q ≡ true → PlaceInOrder n line turn tray q
  holds_sheet : (k : ℕ) → k < length line → turn ≤ k → k % n ≡ q
      → holds_good tray q ≡ true
      → sheet_at tray q ≡ (sheet_on line k).bytes
      → PlaceInOrder n line turn tray q

-- desk p's record and tray
pub record DeskInOrder (shelf : Shelf) (line : List SentSheet) (p : ℕ) (d : Desk) (tray : List ℕ) : Type 0 where
  pub as_opened : AsOpened shelf p d
  -- it has taken no sheet that was not sent, and has gone past every sheet of its own
  pub no_further : d.head.turn ≤ length line
  pub past_own : (k : ℕ) → k < length line → k % shelf.n ≡ p → k < d.head.turn
  pub tray_long : length tray ≡ 398 * shelf.n
  pub tray_bytes : AreBytes tray
  pub places : (q : ℕ) → q < shelf.n → PlaceInOrder shelf.n line d.head.turn tray q

pub record InOrder (shelf : Shelf) (s : State) : Type 0 where
  pub sheets : (k : ℕ) → k < length s.line → SheetInOrder shelf k (sheet_no s k)
  pub desks : (p : ℕ) → p < shelf.n → DeskInOrder shelf s.line p (s.desk p) (s.tray p)
