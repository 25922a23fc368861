-- A date as it is printed: what `{:04}` and `{:02}` write of a number.
-- Assumes nothing.
use Rattle.std.proofs.Common.{◌≡◌, ℕ, ◌-◌, ◌^◌, false, []}
use Rattle.std.proofs.lemmas.List.{append-nil}
use Rattle.std.proofs.Math.Nat.{sub-zero}
use Rattle.std.specs.Fmt.{decimal, format_spec, padded_integral, char_count}
use Rattle.calendar.specs.Calendar.{wide}

pub wide_lem : (w n : ℕ) → padded_integral (format_spec 32 0 4 w (2 ^ 64 - 1)) false [] (decimal n) ≡ wide w n
unfolding padded_integral char_count
wide_lem w n = simp (append-nil, sub-zero)
