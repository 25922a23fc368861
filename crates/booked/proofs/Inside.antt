-- What specs/Inside.antt states, by computing.
--   a_sheet_inside : ASheetInside
-- Assumes nothing.
use mathlib.Core.Path.{refl}
use native.Mathlib.Omega.{arith}
use Rattle.booked.specs.Inside.{three_opens, ASheetInside}
use Rattle.booked.proofs.Laws.Computing.{computing}

pub a_sheet_inside : ASheetInside
unfolding computing three_opens
a_sheet_inside =
    record {
      inside = record { starts_before = omega arith; in_book = omega arith; is_good = refl };
      one_sheet = refl;
      is_good = refl;
      cut_there = refl;
    }
