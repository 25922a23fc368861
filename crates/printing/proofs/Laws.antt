-- Laws of a line that is being written (src/line.rt), and of `wrote` (specs/Printing.antt).
--   lines                       a set for `search`: what is laid behind the text so far is the text's end (`line_more`), within 64 bytes
--   laid_lines                  a set for `using`: without room for 64 bytes nothing is laid (`wrote_none`); with it the line is (`wrote_whole`)
--   digits_few                  a set for `using`: a number of 32 bits has 10 digits at most, and one of 8 bits 3
-- Assumes nothing.
use mathlib.Core.Path.{◌≡◌, sym, ap, ◌∙◌}
use mathlib.Core.List.{List, ◌++◌}
use Prim.Native.Nat.{ℕ, ◌+◌, ◌<◌, ◌≤◌}
use native.Mathlib.Omega.{arith}
use lib.ListN.{length, take, drop, length-append}
use lib.Seq.{length-take-le, take-append_seam}
use borrow.Author.Tests.{le-leb, lt-leb}
use Rattle.laying.specs.Laying.{laid_over}
use Rattle.laying.proofs.Laws.{laid}
use Rattle.text.proofs.Laws.Printed.{decimal_ten, decimal_three}
use Rattle.printing.specs.Printing.{wrote}

pub ruleset digits_few = (decimal_ten, decimal_three)

-- ---- a line

module _ (b : List ℕ) (k : ℕ) (l x b' : List ℕ) (size : length b ≡ 64) (least : k ≤ 64) (is : take k b ≡ l) (room : length l + length x ≤ 64) (put : b' ≡ laid_over b k x) where
  so_far : length l ≡ k
  so_far = ap (λ (z : List ℕ). length z) (sym is) ∙ length-take-le k b (omega arith)

  pub line_more : take (k + length x) b' ≡ l ++ x
  line_more =
      let long : length (take k b ++ x) ≡ k + length x = length-append (take k b) x ∙ ap (λ (z : List ℕ). length z + length x) is ∙ rw so_far in
      ap (take (k + length x)) (put ∙ laid b k x (omega (arith, so_far)))
      ∙ ap (λ (i : ℕ). take i ((take k b ++ x) ++ drop (k + length x) b)) (sym long)
      ∙ take-append_seam (take k b ++ x) (drop (k + length x) b)
      ∙ ap (λ (z : List ℕ). z ++ x) is

  pub line_long : length (take (k + length x) b') ≡ length l + length x
  line_long = ap (λ (z : List ℕ). length z) line_more ∙ length-append l x

  pub line_within : k + length x ≤ 64
  line_within = omega (arith, so_far)

pub ruleset lines = (line_more, line_long, line_within)

-- ---- where it is laid

module _ (b : List ℕ) (at : ℕ) (line : List ℕ) where
  pub wrote_none : length b < at + 64 → record { bytes = b; end = at } ≡ wrote b at line
  unfolding wrote
  wrote_none h = rw (lt-leb (at + 64) (length b) h)

  pub wrote_whole : (b' : List ℕ) (end : ℕ) → at + 64 ≤ length b → b' ≡ laid_over b at line → end ≡ at + length line → record { bytes = b'; end = end } ≡ wrote b at line
  unfolding wrote
  wrote_whole b' end room e ends = rw (le-leb (at + 64) (length b) room, e, ends)

pub ruleset laid_lines = (wrote_none, wrote_whole)
