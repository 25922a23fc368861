-- 01, "A desk, call by call": "A record is sound if n and m are within limits, own number below n, mode 1 to 3; day numbers are 0 unless
-- the content is a day; cells from m up are blank and not pending; a cell's pending place is blank exactly if it is not pending; a pending
-- cell is not blank on the shelf; in modes 1 and 3 pending and shelf content agree; a waiting read has mode 1, a cell below m that is not
-- pending, something pending, and the turn elsewhere."
-- A record is given here as its head and its four arrays: the shelf's kinds and days, and those of the pending entries.
-- Assumes nothing.
use Rattle.std.specs.Prelude.{ℕ, Bool, false, not, ◌&&◌, ◌||◌, List, eqb, leb, ltb, ℤ, pos, negsuc}
use Rattle.numbers.specs.Limits.{within, desks_within, cells_within}
use Rattle.cells.specs.Cells.{kind_at, day_at, blank, filled, each, anywhere}
use Rattle.sound.specs.declared.Head.{Head}
use Rattle.sound.specs.Head.{sequential, causal, own_turn, read_waits, wait_cell}

-- two day numbers are the same
abbrev pub same_day : ℤ → ℤ → Bool
same_day (pos a) (pos b) = eqb a b
same_day (pos a) (negsuc b) = false
same_day (negsuc a) (pos b) = false
same_day (negsuc a) (negsuc b) = eqb a b

-- "n and m are within limits, own number below n, mode 1 to 3"
abbrev pub limits : Head → Bool
limits h = (desks_within h.n && cells_within h.m) && ltb h.own h.n && within 1 3 h.mode

-- a kind stands for a content: 0 blank, 1 open, 2 a day
abbrev pub is_kind : ℕ → Bool
is_kind kind = leb kind 2

-- "day numbers are 0 unless the content is a day"
abbrev pub day_fits : ℕ → ℤ → Bool
day_fits kind day = eqb kind 2 || same_day day (pos 0)

-- what has to hold where something else does
infix 10 ◌implies◌
abbrev pub ◌implies◌ : Bool → Bool → Bool
a implies b = not a || b

-- a waiting read "has mode 1, a cell below m that is not pending, something pending, and the turn elsewhere"
abbrev pub wait_sound : Head → List ℕ → Bool
wait_sound h pkind =
    sequential h
    && (ltb (wait_cell h) h.m && blank pkind (wait_cell h))
    && anywhere 64 (filled pkind)
    && not (own_turn h)

-- the clauses, one to a line; the second line, that each kind stands for a content, is behind 01's words "content" and "blank"
-- (docs/DECISIONS.md, 24). "a cell's pending place is blank exactly if it is not pending" is what pending means here: a cell is pending if
-- its pending place is filled
unfoldable pub sound_of : Head → List ℕ → List ℤ → List ℕ → List ℤ → Bool
sound_of h kind day pkind pday =
    limits h
    && each 64 (λ i. is_kind (kind_at kind i) && is_kind (kind_at pkind i))
    && each 64 (λ i. day_fits (kind_at kind i) (day_at day i) && day_fits (kind_at pkind i) (day_at pday i))
    && each 64 (λ i. leb h.m i implies (blank kind i && blank pkind i))
    && each 64 (λ i. filled pkind i implies filled kind i)
    && (not (causal h) implies each 64 (λ i. filled pkind i implies (eqb (kind_at pkind i) (kind_at kind i) && same_day (day_at pday i) (day_at day i))))
    && (read_waits h implies wait_sound h pkind)
