-- A delivery that is carried out brings a sheet into the receiving buffer, and changes nothing else.
-- Assumes nothing.
use Prim.Native.Nat.{ℕ, ◌+◌, ◌≤◌}
use mathlib.Core.Path.{refl}
use mathlib.Core.List.{List}
use native.Mathlib.Omega.{arith}
use lib.ListN.{length}
use Rattle.layout.specs.Layout.{trailer_in}
use Rattle.sheet.proofs.Laws.Good.{good_trailer_is_fair, good_within}
use Rattle.tray.specs.Tray.{place_start, held_in}
use Rattle.tray.proofs.Laws.Places.{place_there, held_found, held_holds, held_others}
use Rattle.desk.specs.declared.Desk.{Desk}
use Rattle.desk.specs.Answers.{held}
use Rattle.desk.specs.Calls.{deliver_rules, deliver_of}
use Rattle.desk.proofs.Laws.Allowed.{deliver_allows}
use Rattle.figure.specs.Demand2.{ByRules, Arrival}
use Rattle.figure.proofs.Laws.ByRules.{by_call}
use Rattle.figure.proofs.Laws.Takes.{free_holds_none, received_stays}

pub deliver_by_rules : (d : Desk) (tray s : List ℕ) → ByRules (deliver_rules d tray s) d tray (Arrival d tray s) (deliver_of d tray s)
unfolding deliver_of
deliver_by_rules d tray s =
    let q = (trailer_in s).sender in
    by_call (deliver_rules d tray s) d tray held d (held_in tray q s) (Arrival d tray s)
    (λ silent.
    let allowed = deliver_allows d tray s silent in
    let g = allowed.sheet_good in
    let fair = good_trailer_is_fair s g in
    let room : place_start q + 398 ≤ length tray = place_there tray d.head.n q allowed.tray_fits_lem (omega (arith, fair.sender_below, allowed.same_desks)) in
    let few : length s ≤ 396 = (good_within s g).1 in
    let there = held_found tray q s few room in
    record {
      answer = refl;
      same = refl;
      was_free = free_holds_none tray q allowed.place_free;
      place = refl;
      arrives = rw (held_holds tray q s few room, g, there.sheet_is);
      others = λ p other. received_stays (held_in tray q s) tray p (held_others tray p q s other);
    })
