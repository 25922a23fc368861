-- Laws of `kind_of`, `day_of` and `content_of` (specs/Content.antt), as specs/Promises.antt states them.
--   never_meet : NeverMeet, content_again : ContentAgain, kind_1_is_never_a_day : Kind1IsNeverADay
-- Assumes nothing.
use mathlib.Core.Path.{refl, ap}
use native.Mathlib.Omega.{arith}
use Rattle.content.specs.declared.Content.TheVariants.{Blank, Open, Day}
use Rattle.content.specs.Content.{kind_of}
use Rattle.content.specs.Promises.{NeverMeet, ContentAgain, Kind1IsNeverADay}

pub never_meet : NeverMeet
never_meet =
    record {
      blank_is_not_open = λ p. omega (arith, ap kind_of p);
      blank_is_no_day = λ d p. omega (arith, ap kind_of p);
      open_is_no_day = λ d p. omega (arith, ap kind_of p);
    }

pub content_again : ContentAgain
content_again Blank = refl
content_again Open = refl
content_again (Day d) = refl

pub kind_1_is_never_a_day : Kind1IsNeverADay
kind_1_is_never_a_day d e = never_meet.open_is_no_day e
