-- Laws of the lists of rules (specs/Rules.antt).
--   open_numbered, write_numbered, read_numbered, send_numbered, tray_numbered, sheet_numbered, turn_numbered, place_numbered      no rule has the number 0
-- Assumes nothing.
use Prim.Native.Nat.{ℕ}
use mathlib.Core.Bool.{Bool}
use mathlib.Core.List.{List}
use native.Mathlib.Omega.{arith}
use Rattle.answer.specs.Parts.{Numbered}
use Rattle.layout.specs.declared.Numbers.{Numbers}
use Rattle.sound.specs.declared.Head.{Head}
use Rattle.refusals.specs.Rules.{open_tests, write_tests, read_tests, send_tests, tray_tests, sheet_tests, turn_tests, place_tests}

pub open_numbered : (n m own mode : ℕ) → Numbered (open_tests n m own mode)
open_numbered n m own mode = (omega arith, (omega arith, (omega arith, (omega arith, tt))))

module _ (ok : Bool) (h : Head) where
  pub write_numbered : (cell kind : ℕ) → Numbered (write_tests ok h cell kind)
  write_numbered cell kind = (omega arith, (omega arith, (omega arith, (omega arith, tt))))

  pub read_numbered : (cell : ℕ) → Numbered (read_tests ok h cell)
  read_numbered cell = (omega arith, (omega arith, (omega arith, tt)))

  pub send_numbered : Numbered (send_tests ok h)
  send_numbered = (omega arith, (omega arith, (omega arith, tt)))

  pub tray_numbered : (size : ℕ) → Numbered (tray_tests ok h size)
  tray_numbered size = (omega arith, (omega arith, tt))

pub sheet_numbered : (h : Head) (x : Numbers) (is_free : Bool) → Numbered (sheet_tests h x is_free)
sheet_numbered h x is_free = (omega arith, (omega arith, (omega arith, (omega arith, (omega arith, tt)))))

pub turn_numbered : (h : Head) → Numbered (turn_tests h)
turn_numbered h = (omega arith, (omega arith, tt))

pub place_numbered : (h : Head) (tray : List ℕ) (q : ℕ) → Numbered (place_tests h tray q)
place_numbered h tray q = (omega arith, (omega arith, tt))
