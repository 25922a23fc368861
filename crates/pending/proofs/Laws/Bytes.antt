-- A desk's sheet is bytes.
--   sheet_bytes                    where own number, n and m are within limits and each pending place is blank, open or a day
-- Assumes nothing.
use mathlib.Core.Bool.{Bool, true, false, cond}
use mathlib.Core.List.{List, [], ◌∷◌}
use Prim.Native.Nat.{ℕ, zero, suc, ◌<◌, ◌≤◌}
use native.Mathlib.Omega.{arith}
use lib.IntN.{ℤ}
use lib.ListN.{length}
use Rattle.numbers.proofs.Laws.{none, more, bytes_are}
use Rattle.cells.specs.Cells.{kind_at, filled}
use Rattle.sound.specs.declared.Head.{Head}
use Rattle.layout.specs.Layout.{entries_bytes, trailer_bytes, trailer_for}
use Rattle.layout.specs.Values.{AreBytes}
use Rattle.layout.proofs.Bytes.{are_bytes, append_bytes}
use Rattle.layout.proofs.Laws.{entries_append}
use Rattle.pending.specs.Pending.{entry_in, pending_below, pending_entries, numbers_for, sheet_of}
use Rattle.pending.proofs.Laws.Entries.{pending_most}

-- ---- the entries

module _ (pkind : List ℕ) (pday : List ℤ) (kinds : (i : ℕ) → i < 64 → kind_at pkind i ≤ 2) where
  pending_bytes : (n : ℕ) → n ≤ 64 → AreBytes (entries_bytes (pending_below pkind pday n))
  unfolding pending_below
  pending_bytes zero h = are_bytes none
  pending_bytes (suc n) h =
      let es = pending_below pkind pday n in
      let last = cond (filled pkind n) (entry_in pkind pday n ∷ []) [] in
      rw (entries_append es last) (append_bytes (entries_bytes es) (entries_bytes last) (pending_bytes n (omega arith)) (of_cell (filled pkind n)))
    where
      of_cell : (t : Bool) → AreBytes (entries_bytes (cond t (entry_in pkind pday n ∷ []) []))
      of_cell true = are_bytes (more (omega arith) (more (omega (arith, kinds n (omega arith))) (bytes_are 4 (entry_in pkind pday n).day)))
      of_cell false = are_bytes none

-- ---- the sheet

pub sheet_bytes : (h : Head) (pkind : List ℕ) (pday : List ℤ) → h.own < h.n → h.n ≤ 16 → h.m ≤ 64 → ((i : ℕ) → i < 64 → kind_at pkind i ≤ 2)
    → AreBytes (sheet_of h pkind pday)
unfolding sheet_of
sheet_bytes h pkind pday own_below desks_most cells_most kinds =
    let es = pending_entries pkind pday in
    let t = trailer_for (numbers_for h (length es)) in
    append_bytes (entries_bytes es) (trailer_bytes t) (pending_bytes pkind pday kinds 64 (omega arith))
    -- the trailer: distance (2), entries, sender, desks, cells, two zeros and turn (4)
    (are_bytes (more (omega arith) (more (omega arith) (more (omega (arith, pending_most pkind pday)) (more (omega arith) (more (omega arith) (more (omega arith) (more (omega arith) (more (omega arith) (bytes_are 4 t.turn))))))))))
