-- Take as the code makes it: one law for each return, and for what is asked on the way.
--   taken_entries       the entries as the code reads them are those of the sheet in the place
-- Assumes nothing.
use Prim.Native.Nat.{ℕ, ◌+◌, ◌*◌, ◌-◌, ◌<◌, ◌≤◌}
use mathlib.Core.Path.{◌≡◌, sym, ◌∙◌}
use mathlib.Core.Bool.{Bool, true}
use mathlib.Core.List.{List, ◌++◌}
use native.Mathlib.Omega.{arith}
use native.Mathlib.Nat.{mod-lt}
use lib.IntN.{ℤ}
use lib.ListN.{length, take, drop, length-drop}
use lib.Seq.{ext_get_or, get_or-take, get_or-drop, length-take-le, take_all}
use borrow.Author.Tests.{eqb-true, eqb-false, le-leb, not-false}
use mir.Syntax.{w8}
use mir.Val.{Fits}
use Rattle.std.specs.Prelude.{Result, Ok, Err, Option}
use Rattle.answer.specs.Answer.{Rule, refused, answered}
use Rattle.answer.specs.Promises.{Silent, First}
use Rattle.answer.specs.declared.Refusal.{Refusal}
use Rattle.answer.specs.Refusals.{number_of, first_of}
use Rattle.answer.proofs.Laws.{answered_only_if, refused_only_if}
use Rattle.content.specs.declared.Content.{Content}
use Rattle.numbers.specs.Numbers.{at1}
use Rattle.layout.specs.Layout.{entry_of, entries_of, trailer_in}
use Rattle.layout.proofs.Laws.{entries_count, entry_of_entries}
use Rattle.sheet.specs.Reading.{no_entry}
use Rattle.sheet.proofs.Laws.Good.{good_length}
use Rattle.sound.specs.declared.Head.{Head}
use Rattle.sound.specs.Head.{causal, turn_desk}
use Rattle.tray.specs.Tray.{place_start, length_at, sheet_at, holds_good, cleared_in}
use Rattle.tray.proofs.Laws.Places.{place_there, holds_says}
use Rattle.applying.specs.Applying.{goes, went_of, entries_in, AppliesEntries}
use Rattle.refusals.specs.Rules.{last_turn, tray_tests, turn_tests, place_tests, looked_at}
use Rattle.desk.specs.declared.Desk.{Desk}
use Rattle.desk.specs.declared.Answer as declared
use Rattle.desk.specs.declared.Answer.TheVariants as answers
use Rattle.desk.specs.Answers.{Value, taken, waited_of, value_of, settled}
use Rattle.desk.specs.Calls.{sound, next_head, take_rules, entries_taken, taken_desk, waited_for, take_of}
use Rattle.desk.specs.Parts.{waited_in, read_over}
use Rattle.desk.proofs.Laws.Allowed.{desk_says, take_allows}
use Rattle.desk.proofs.Laws.Calls.{silent_if_said, first_if_said, silent_both, first_of_first, first_of_rest, refused_so, done_so}

-- ---- entries, read from a sheet or from what goes on behind it

module _ (k : ℕ) (l : List ℕ) where
  byte_there : (m i : ℕ) → m + i < k → at1 (drop m (take k l)) i ≡ at1 (drop m l) i
  byte_there m i h = get_or-drop m (take k l) i 0 ∙ get_or-take k l (m + i) 0 h ∙ sym (get_or-drop m l i 0)

  entry_there : (m : ℕ) → m + 6 ≤ k → entry_of (drop m (take k l)) ≡ entry_of (drop m l)
  entry_there m h =
      rw (byte_there m 0 (omega arith), byte_there m 1 (omega arith), byte_there m 2 (omega arith), byte_there m 3 (omega arith), byte_there m 4 (omega arith), byte_there m 5 (omega arith))

  entries_there : (n : ℕ) → 6 * n ≤ k → entries_of n (take k l) ≡ entries_of n l
  entries_there n h =
      ext_get_or no_entry (entries_of n (take k l)) (entries_of n l) (entries_count n (take k l) ∙ sym (entries_count n l))
      (λ i low.
      let below : i < n = omega (arith, entries_count n (take k l)) in
      entry_of_entries n i (take k l) no_entry below ∙ entry_there (6 * i) (omega arith) ∙ sym (entry_of_entries n i l no_entry below))

pub taken_entries : (tray : List ℕ) (q : ℕ) → holds_good tray q ≡ true
    → entries_in (drop (place_start q + 2) tray) (trailer_in (sheet_at tray q)).entries ≡ entries_of (trailer_in (sheet_at tray q)).entries (sheet_at tray q)
taken_entries tray q e =
    let h = holds_says tray q e in
    let n = (trailer_in (sheet_at tray q)).entries in
    let l = drop (place_start q + 2) tray in
    let room : length_at tray q ≤ length l = omega (arith, h.room, h.few, length-drop (place_start q + 2) tray) in
    let long : length_at tray q ≡ 6 * n + 12 = sym (length-take-le (length_at tray q) l room) ∙ good_length (sheet_at tray q) h.sheet_good in
    rw (le-leb (6 * n + 12) (length l) (omega arith)) (sym (entries_there (length_at tray q) l n (omega arith)))

-- ---- take

module _ (d : Desk) (tray : List ℕ) {ok : Bool} (is : ok ≡ sound d) where
  early : List Rule
  early = tray_tests (sound d) d.head (length tray) ++ turn_tests d.head

  -- those of the place of the desk whose turn it is
  of_place : List Rule
  of_place = place_tests d.head tray (turn_desk d.head)

  value : Value
  value = taken d.head.turn (length (entries_taken d tray)) (went_of (goes (causal d.head) d.pkind) (entries_taken d tray)) (waited_for d.head (taken_desk d (entries_taken d tray)))

  refused_where : {x : Refusal} → First (number_of x) (take_rules d tray) → {r : Result declared.Answer Refusal} → r ≡ Err x → settled r d tray ≡ take_of d tray
  unfolding take_of value
  refused_where f e = refused_so (take_rules d tray) d tray value (taken_desk d (entries_taken d tray)) (cleared_in tray (turn_desk d.head)) e f

  pub take_refused : {x : Refusal} → refused (number_of x) ≡ first_of (tray_tests ok d.head (length tray) ++ turn_tests d.head) → {r : Result declared.Answer Refusal} → r ≡ Err x
      → settled r d tray ≡ take_of d tray
  unfolding early of_place
  take_refused e = refused_where (first_of_first of_place (first_if_said early (e ∙ rw is)))

  module _ {u : Unit {0}} (e : answered u ≡ first_of (tray_tests ok d.head (length tray) ++ turn_tests d.head)) where
    silent : Silent early
    unfolding early
    silent = silent_if_said early (e ∙ rw is)

    pub take_turn : d.head.turn ≡ 4294967295 → ⊥
    unfolding early
    take_turn = eqb-false d.head.turn last_turn silent.1.1.1.0

    desks : (1 ≤ d.head.n) × (d.head.n ≤ 16)
    unfolding early
    desks = let s = desk_says d (not-false (sound d) silent.0) in (s.desks_least, s.desks_most)

    desk_below : turn_desk d.head < d.head.n
    desk_below = mod-lt d.head.turn (omega (arith, desks.0))

    pub take_desk : {q : ℕ} → q ≡ turn_desk d.head → Fits w8 q
    take_desk e = record { fits = omega (arith, e, desk_below, desks.1) }

    long : length tray ≡ 398 * d.head.n
    unfolding early
    long = eqb-true (length tray) (398 * d.head.n) (not-false _ silent.1.0)

    pub take_room : {q : ℕ} → q ≡ turn_desk d.head → place_start q + 2 ≤ length tray
    take_room e = let there = place_there tray d.head.n (turn_desk d.head) long desk_below in omega (arith, e, there)

    module _ {q : ℕ} (qis : q ≡ turn_desk d.head) where
      pub take_not_there : {x : Refusal} → refused (number_of x) ≡ looked_at d.head tray q → {r : Result declared.Answer Refusal} → r ≡ Err x → settled r d tray ≡ take_of d tray
      unfolding looked_at early of_place
      take_not_there {x} looks =
          refused_where (first_of_rest early silent (refused_only_if of_place (trailer_in (sheet_at tray (turn_desk d.head))).entries (number_of x) (sym (looks ∙ rw qis))))

      module _ {n : ℕ} (looks : answered n ≡ looked_at d.head tray q) where
        found : Silent of_place × ((trailer_in (sheet_at tray (turn_desk d.head))).entries ≡ n)
        unfolding looked_at of_place
        found = answered_only_if of_place (trailer_in (sheet_at tray (turn_desk d.head))).entries n (sym (looks ∙ rw qis))

        all_silent : Silent (take_rules d tray)
        unfolding early of_place
        all_silent = silent_both early of_place silent found.0

        -- the entries as the code lends them, in the rest of the tray
        lent : List ℕ
        lent = take (length tray - (398 * q + 2)) (drop (398 * q + 2) tray)

        these : entries_in lent n ≡ entries_taken d tray
        unfolding lent
        these = rw (take_all (length tray - (398 * q + 2)) (drop (398 * q + 2) tray) (omega (arith, length-drop (398 * q + 2) tray)), qis, ← found.1) (taken_entries tray (turn_desk d.head) (take_allows d tray all_silent).holds_good_lem)

        number_of_entries : n ≡ length (entries_taken d tray)
        number_of_entries = sym found.1 ∙ sym (entries_count (trailer_in (sheet_at tray (turn_desk d.head))).entries (sheet_at tray (turn_desk d.head)))

        pub took :
            {kind' : List ℕ} {day' : List ℤ} {went : ℕ} (w : Option Content) {h' : Head} {tray' : List ℕ} {d' : Desk}
            → AppliesEntries (causal d.head) d.pkind (entries_in (take (length tray - (398 * q + 2)) (drop (398 * q + 2) tray)) n) d.kind d.day went kind' day'
            → tray' ≡ cleared_in tray q → h' ≡ next_head d.head d.head.wait
            → waited_of w ≡ waited_in (record { head = h'; kind = kind'; day = day'; pkind = d.pkind; pday = d.pday })
            → d' ≡ read_over (record { head = h'; kind = kind'; day = day'; pkind = d.pkind; pday = d.pday })
            → settled (Ok (answers.Taken d.head.turn n went w)) d' tray' ≡ take_of d tray
        unfolding take_of value lent
        took {went = went} w ap_said t h waits over =
            let so : value_of (answers.Taken d.head.turn n went w) ≡ value = rw (waits, h, ap_said.kinds, ap_said.days, ap_said.went, these, number_of_entries) in
            rw (t, over, h, ap_said.kinds, ap_said.days, these, qis)
            (done_so (take_rules d tray) d tray value (taken_desk d (entries_taken d tray)) (cleared_in tray (turn_desk d.head)) (answers.Taken d.head.turn n went w) so all_silent)
