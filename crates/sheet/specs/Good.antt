-- 01, "A sheet and its trailer": "A sheet is good if the distance is 6 × entries and also length minus 12; desks and cells are within
-- limits; sender is below desks; entries' cells rise strictly and are below cells; kinds, days and zero bytes are as above; the turn
-- number is at most 4,294,967,294 and leaves the sender when divided by desks."
-- Assumes nothing.
use Rattle.std.specs.Prelude.{ℕ, ◌*◌, ◌-◌, ◌%◌, Bool, true, ◌&&◌, ◌||◌, List, [], ◌∷◌, eqb, leb, ltb, length}
use Rattle.numbers.specs.Limits.{desks_within, cells_within}
use Rattle.layout.specs.declared.Entry.{Entry}
use Rattle.layout.specs.Layout.{entries_of, trailer_in}

-- a test holds of every entry
abbrev pub every : (Entry → Bool) → List Entry → Bool
every p [] = true
every p (e ∷ es) = p e && every p es

-- the first of these entries, if there is one, has a cell above c
abbrev pub next_above : ℕ → List Entry → Bool
next_above c [] = true
next_above c (e ∷ es) = ltb c e.cell

-- "entries' cells rise strictly"
abbrev pub rising : List Entry → Bool
rising [] = true
rising (e ∷ es) = next_above e.cell es && rising es

-- "and are below cells"
abbrev pub below : ℕ → Entry → Bool
below cells e = ltb e.cell cells

-- "kinds, days .. are as above": "1 open, 2 day", and the day "zero for open"
abbrev pub kind_and_day : Entry → Bool
kind_and_day e = (eqb e.kind 1 && eqb e.day 0) || eqb e.kind 2

-- 01's table: a sheet has 12 bytes at least. (That it has 396 at most follows: `GoodWithin`, specs/Promises.antt.) Then the
-- clauses of "A sheet is good if", one to a line
unfoldable pub good : List ℕ → Bool
good s =
    let t = trailer_in s in
    let es = entries_of t.entries s in
    leb 12 (length s)
    && (eqb t.distance (6 * t.entries) && eqb t.distance (length s - 12))
    && (desks_within t.desks && cells_within t.cells)
    && ltb t.sender t.desks
    && (rising es && every (below t.cells) es)
    && (every kind_and_day es && (eqb t.zero6 0 && eqb t.zero7 0))
    && (leb t.turn 4294967294 && eqb (t.turn % t.desks) t.sender)
