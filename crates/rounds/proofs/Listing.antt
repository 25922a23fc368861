-- Document 01's listing (specs/Listing.antt).
--   listing : Listing                         by computing
--   listing_is_a_run : ListingIsARun          as every schedule that starts
-- Assumes nothing.
use mathlib.Core.Path.{refl}
use mathlib.Core.List.{List}
use lib.ListN.{drop}
use Rattle.text.specs.Separated.{parts}
use Rattle.text.specs.Decimal.{is_decimal, value_from, value, digits_onto, decimal}
use Rattle.schedule.specs.Words.{is, is_number, is_desk, is_day_word, day_of_word, is_content_word, content_of_word}
use Rattle.schedule.specs.Lines.{Line, lines_of}
use Rattle.schedule.specs.Start.{Start, mode_in, start_in}
use Rattle.schedule.specs.Step.{step_in}
use Rattle.printing.specs.Printing.{line_text, header_text}
use Rattle.play.specs.Steps.{latest_from, latest_of, sheet_room, step_answer, after_step}
use Rattle.play.specs.Rounds.{too_long, step_answers, numbered, printed}
use Rattle.ruled.specs.Promises.{Playable}
use Rattle.ruled.proofs.Runs.{schedules_are_runs}
use Rattle.witness.proofs.Laws.Tested.{computing}
use Rattle.rounds.specs.Listing.{input, Listing, ListingIsARun}

pub listing : Listing
unfolding computing parts is_decimal value_from value digits_onto decimal lines_of is is_number is_desk is_day_word day_of_word is_content_word content_of_word mode_in start_in step_in
    line_text header_text latest_from latest_of sheet_room step_answer after_step too_long step_answers numbered printed
listing = refl

-- "2 2 s"
two_desks : Start
two_desks = record { n = 2; m = 2; mode = 1 }

steps : List Line
steps = drop 1 (lines_of input)

plays : Playable input two_desks steps
unfolding computing parts is_decimal value_from value lines_of is is_number mode_in start_in too_long two_desks steps
plays = record { fits = refl; first = _; all_lines = refl; says = refl; can_open = refl }

pub listing_is_a_run : ListingIsARun
listing_is_a_run = record { shelf = two_desks; steps = steps; plays = plays; run = schedules_are_runs input two_desks steps plays }
