-- Small books compute.
--   computing                  opens the definitions of the calls, and all that they rest on
-- Assumes nothing.
use Rattle.sheet.specs.Good.{good}
use Rattle.cells.specs.Cells.{place_at, put_if}
use Rattle.applying.specs.Applying.{laid}
use Rattle.book.specs.Sheets.{sheets_back, sheets_of, end_to_end}
use Rattle.book.specs.Good.{good_sheets}
use Rattle.book.specs.Counting.{count_of}
use Rattle.book.specs.Stepping.{step_back}
use Rattle.book.specs.Lookup.{entry_on, newest, lookup_of}
use Rattle.book.specs.Adding.{added_of, room_of}
use Rattle.booked.specs.Laid.{laid_all}
use Rattle.booked.specs.OfARun.{book_of}

unfoldable pub computing : Unit {0}
unfolding sheets_back sheets_of end_to_end good_sheets good count_of step_back entry_on newest lookup_of added_of room_of laid_all laid place_at put_if book_of
computing = tt
