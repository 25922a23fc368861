-- The examples marked (P) hold, all by computing the definitions.
-- Assumes nothing.
use mathlib.Core.Path.{refl}
use Rattle.calendar.specs.Spans.{before}
use Rattle.calendar.specs.Calendar.{length_in, year_length, is_date, days_to, number_of, day_number_of}
use Rattle.laying.specs.Laying.{laid_over}
use Rattle.sheet.specs.Good.{good}
use Rattle.cells.specs.Cells.{place_at, each, anywhere, put_if}
use Rattle.sound.specs.Sound.{sound_of}
use Rattle.tray.specs.Tray.{holds_good, held_in, cleared_in}
use Rattle.pending.specs.Pending.{pending_below, sheet_of}
use Rattle.applying.specs.Applying.{laid, went_of}
use Rattle.desk.specs.Calls.{open_of, write_of, must_wait, read_of, send_of, deliver_of, take_of}
use Rattle.edges.specs.Examples.{opened_desk, written_to, sent_into, delivered_to, taken_from, sent_by, cell_after, takes_nine, of_three, delivered_at4, cases, ExamplesHold}

pub examples_hold : ExamplesHold
unfolding cases opened_desk written_to sent_into delivered_to taken_from sent_by cell_after takes_nine of_three delivered_at4
    open_of write_of must_wait read_of send_of deliver_of take_of
    sound_of place_at each anywhere put_if sheet_of pending_below laid went_of holds_good held_in cleared_in laid_over good
    before length_in year_length is_date days_to number_of day_number_of
examples_hold = refl
