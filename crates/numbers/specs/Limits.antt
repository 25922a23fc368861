-- 01's table of limits, "least" and "most".
-- Assumes nothing.
use Rattle.std.specs.Prelude.{ℕ, Bool, ◌&&◌, leb}

abbrev pub within : ℕ → ℕ → ℕ → Bool
within least most n = leb least n && leb n most

-- "desks n", from 1 to 16
abbrev pub desks_within : ℕ → Bool
desks_within n = within 1 16 n

-- "cells m", from 1 to 64
abbrev pub cells_within : ℕ → Bool
cells_within m = within 1 64 m
