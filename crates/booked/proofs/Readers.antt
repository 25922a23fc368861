-- What specs/Readers.antt states of a reader: its steps are those of `GivesBack`, on what its slice
-- holds.
--   reads_through : ReadsThrough
-- Assumes nothing.
use mathlib.Core.Path.{◌≡◌, refl, sym, subst}
use mathlib.Core.Bool.{true}
use mathlib.Core.List.{List}
use Prim.Native.Nat.{ℕ}
use lib.ListN.{length}
use denote.Ref.{Bor}
use Rattle.sheet.specs.Good.{good}
use Rattle.book.specs.Sheets.{end_to_end}
use Rattle.book.specs.Good.{every_sheet}
use Rattle.book.specs.Stepping.{step_back, place_after}
use Rattle.reader.specs.declared.Reader.{Reader}
use Rattle.reader.specs.Reading.{at_end}
use Rattle.booked.specs.Stepping.{GivesBack}
use Rattle.booked.specs.Stepping as steps
use Rattle.booked.specs.Readers.{ReadsBack, none_comes, one_back, ReadsThrough}
use Rattle.booked.proofs.Stepping.{steps_through, steps_once}

-- a reader is given what the steps from its place give
reads : (book : Bor (List ℕ)) {place : ℕ} {ss : List (List ℕ)} → GivesBack step_back place_after book.now place ss → ReadsBack (record { book = book; place = place }) ss
reads book {place} (steps.none_comes e) =
    none_comes {after = record { book = book; place = place }} (record { gives = sym e; book = refl; place = refl })
reads book (steps.one_back {s = s} e further) =
    one_back {after = record { book = book; place = s.start }} (record { gives = sym e; book = refl; place = refl }) (reads book further)

-- and they give what it is given
gives : {r : Reader} {ss : List (List ℕ)} → ReadsBack r ss → GivesBack step_back place_after r.book.now r.place ss
gives (none_comes s) = steps.none_comes (sym s.gives)
gives (one_back {before = before} {after = after} {older = older} s further) =
    steps.one_back (sym s.gives)
    (subst (λ (i : ℕ). GivesBack step_back place_after before.book.now i older) s.place
    (subst (λ (book : Bor (List ℕ)). GivesBack step_back place_after book.now after.place older) s.book (gives further)))

module _ (ss : List (List ℕ)) (g : every_sheet good ss ≡ true) (book : Bor (List ℕ)) (holds : book.now ≡ end_to_end ss) where
  from_the_end : GivesBack step_back place_after book.now (length book.now) ss
  from_the_end = subst (λ (b : List ℕ). GivesBack step_back place_after b (length b) ss) (sym holds) (steps_through ss g)

  all_of_them : ReadsBack (at_end book) ss
  all_of_them = reads book from_the_end

  nothing_else : (given : List (List ℕ)) → ReadsBack (at_end book) given → given ≡ ss
  nothing_else given r = steps_once step_back place_after book.now (length book.now) given ss (gives r) from_the_end

pub reads_through : ReadsThrough
reads_through = record { all_of_them = all_of_them; nothing_else = nothing_else }
