-- 01, "The program `rounds`": "Line 1: desks, cells, mode letter (`s`, `c`, `k` for cache, `-` for default)".
-- Assumes nothing.
use Rattle.std.specs.Prelude as std
use Rattle.std.specs.Prelude.{ℕ, cond, ◌&&◌, List, [], ◌∷◌, None, Some}
use Rattle.std.proofs.Math.Option.{Option, none, some}
use Rattle.text.specs.Decimal.{value}
use Rattle.schedule.specs.Lines.{Line, ended, cut}
use Rattle.schedule.specs.Words.{words, is, is_number}
use Rattle.schedule.specs.declared.Shelf as declared

-- desks, cells, mode
pub record Start : Type 0 where
  pub n : ℕ
  pub m : ℕ
  pub mode : ℕ

-- 01, "A desk, call by call": "mode (1 sequential, 2 causal, 3 cache)", "Mode 0 means the default"
unfoldable pub mode_in : List ℕ → Option ℕ
mode_in word = cond (is "s" word) (some 1) (cond (is "c" word) (some 2) (cond (is "k" word) (some 3) (cond (is "-" word) (some 0) none)))

abbrev pub start_with : (n m : ℕ) → Option ℕ → Option Start
start_with n m none = none
start_with n m (some mode) = some (record { n = n; m = m; mode = mode })

abbrev pub start_of : List (List ℕ) → Option Start
start_of [] = none
start_of (n ∷ []) = none
start_of (n ∷ m ∷ []) = none
start_of (n ∷ m ∷ mode ∷ []) = cond (is_number n && is_number m) (start_with (value n) (value m) (mode_in mode)) none
start_of (n ∷ m ∷ mode ∷ word ∷ words) = none

-- what line 1 says, if it is of that form
unfoldable pub start_in : Line → Option Start
start_in (ended line) = start_of (words line)
start_in (cut line) = none

-- what the code answers: nothing, where the line says no shelf
abbrev pub said_start : std.Option declared.Shelf → Option Start
said_start None = none
said_start (Some shelf) = some (record { n = shelf.n; m = shelf.m; mode = shelf.mode })
