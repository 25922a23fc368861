-- What specs/EveryRun.antt states of every run, from the invariant.
--   every_desk_opens : EveryDeskOpens
--   records_as_opened : RecordsAsOpened
--   sheets_in_order : SheetsInOrder
--   not_far_ahead : NotFarAhead
--   these_never_come : TheseNeverCome
-- Assumes nothing.
use mathlib.Core.Path.{refl}
use native.Mathlib.Omega.{arith}
use Rattle.runs.specs.EveryRun.{EveryDeskOpens, RecordsAsOpened, SheetsInOrder, NotFarAhead, TheseNeverCome}
use Rattle.runs.proofs.Laws.Order.{near}
use Rattle.runs.proofs.Laws.Fresh.{opens, in_order}
use Rattle.runs.proofs.Laws.Never.{never}

pub every_desk_opens : EveryDeskOpens
every_desk_opens = opens

pub records_as_opened : RecordsAsOpened
records_as_opened shelf cs r p here = ((in_order shelf cs r).desks p here).as_opened

pub sheets_in_order : SheetsInOrder
sheets_in_order shelf cs r = (in_order shelf cs r).sheets

pub not_far_ahead : NotFarAhead
not_far_ahead shelf cs r p k here sent = omega (arith, near ((in_order shelf cs r).desks p here))

pub these_never_come : TheseNeverCome
these_never_come shelf cs r =
    let o = in_order shelf cs r in
    record { never_5 = never _ refl o; never_12 = never _ refl o; never_13 = never _ refl o; never_14 = never _ refl o; never_21 = never _ refl o }
