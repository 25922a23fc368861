-- Send and deliver as the code makes them: one law for each return, and for what is asked on the way.
-- Assumes nothing.
use Prim.Native.Nat.{ℕ}
use mathlib.Core.Path.{◌≡◌, refl, sym, ap, ◌∙◌}
use mathlib.Core.Bool.{Bool, true, false, not}
use mathlib.Core.List.{List, ◌∷◌, ◌++◌}
use lib.IntN.{pos}
use lib.ListN.{length, drop, replicate}
use borrow.Author.Tests.{eqb-false}
use Rattle.std.specs.Prelude.{Result, Ok, Err}
use Rattle.answer.specs.Answer.{Answer, Rule, refused, answered, ◌if◌}
use Rattle.answer.specs.Promises.{Silent, First, this, later}
use Rattle.answer.specs.declared.Refusal.{Refusal}
use Rattle.answer.specs.Refusals.{number_of, first_of}
use Rattle.answer.proofs.Laws.{refused_only_if, answered_only_if, changed_if, unchanged_if}
use Rattle.layout.specs.declared.Numbers.{Numbers}
use Rattle.layout.specs.Layout.{trailer_in, numbers_of}
use Rattle.sheet.specs.Good.{good}
use Rattle.sheet.specs.Reading as sheets
use Rattle.sheet.proofs.Laws.Reading.{bad_read, said_good, said_bad}
use Rattle.sound.specs.declared.Head.{Head}
use Rattle.tray.specs.Tray.{free, held_in}
use Rattle.pending.specs.Pending.{pending_entries, sheet_of, room_rules, entries_sent, buffer_with, said_sent, Sends}
use Rattle.refusals.specs.Rules.{last_turn, send_tests, tray_tests, sheet_tests}
use Rattle.desk.specs.declared.Desk.{Desk}
use Rattle.desk.specs.declared.Answer as declared
use Rattle.desk.specs.declared.Answer.TheVariants as answers
use Rattle.desk.specs.Answers.{Value, sent, held, settled}
use Rattle.desk.specs.Calls.{sound, send_rules, next_head, sent_desk, send_of, deliver_rules, deliver_of}
use Rattle.desk.proofs.Laws.Calls.{silent_if_said, first_if_said, silent_both, first_of_first, first_of_rest, refused_so, done_so}

-- ---- send

module _ (d : Desk) (buf : List ℕ) {ok : Bool} (s : ok ≡ sound d) where
  early : List Rule
  early = send_tests (sound d) d.head

  sheet : List ℕ
  sheet = sheet_of d.head d.pkind d.pday

  value : Value
  value = sent d.head.turn (length (pending_entries d.pkind d.pday))

  pub send_refused : {x : Refusal} → refused (number_of x) ≡ first_of (send_tests ok d.head) → {r : Result declared.Answer Refusal} → r ≡ Err x
      → settled r d buf ≡ send_of d buf
  unfolding send_of early sheet value
  send_refused e is =
      refused_so (send_rules d buf) d buf value (sent_desk d) (sheet ++ drop (length sheet) buf) is
      (first_of_first (room_rules sheet buf) (first_if_said early (e ∙ rw s)))

  module _ {u : Unit {0}} (e : answered u ≡ first_of (send_tests ok d.head)) where
    silent : Silent early
    unfolding early
    silent = silent_if_said early (e ∙ rw s)

    pub send_turn : d.head.turn ≡ 4294967295 → ⊥
    unfolding early
    send_turn = eqb-false d.head.turn last_turn silent.1.1.0

    pub send_short : {x : Refusal} {w after : _} → Sends d.head d.pkind d.pday buf w after → w ≡ Err x → {r : Result declared.Answer Refusal} → r ≡ Err x
        → settled r d after ≡ send_of d buf
    unfolding send_of entries_sent buffer_with early sheet value
    send_short {x} w e is =
        let first = refused_only_if (room_rules sheet buf) (length (pending_entries d.pkind d.pday)) (number_of x) (sym w.answers ∙ ap said_sent e) in
        rw (w.buffer ∙ unchanged_if buf (sheet ++ drop (length sheet) buf) first)
        (refused_so (send_rules d buf) d buf value (sent_desk d) (sheet ++ drop (length sheet) buf) is (first_of_rest early silent first))

    pub send_whole : {n : ℕ} {after : List ℕ} → Sends d.head d.pkind d.pday buf (Ok n) after → {h : Head} → h ≡ next_head d.head d.head.wait
        → settled (Ok (answers.Sent d.head.turn n)) (record { head = h; kind = d.kind; day = d.day; pkind = replicate 64 0; pday = replicate 64 (pos 0) }) after ≡ send_of d buf
    unfolding send_of entries_sent buffer_with early sheet value
    send_whole {n} w h =
        let carried_out = answered_only_if (room_rules sheet buf) (length (pending_entries d.pkind d.pday)) n (sym w.answers) in
        rw (h, w.buffer ∙ changed_if (room_rules sheet buf) buf (sheet ++ drop (length sheet) buf) carried_out.0, ← carried_out.1)
        (done_so (send_rules d buf) d buf value (sent_desk d) (sheet ++ drop (length sheet) buf) (answers.Sent d.head.turn (length (pending_entries d.pkind d.pday))) refl
        (silent_both early (room_rules sheet buf) silent carried_out.0))

-- ---- deliver

same_number : {j k : ℕ} → ◌≡◌ {A = Answer sheets.Sheet} (refused j) (refused k) → k ≡ j
same_number e = cc

module _ (d : Desk) (tray s : List ℕ) {ok : Bool} (is : ok ≡ sound d) where
  first_two : List Rule
  first_two = tray_tests (sound d) d.head (length tray)

  -- those of a good sheet
  of_sheet : List Rule
  of_sheet = let x = numbers_of (trailer_in s) in sheet_tests d.head x (free tray x.sender)

  after : List ℕ
  after = held_in tray (trailer_in s).sender s

  refused_where : {x : Refusal} → First (number_of x) (deliver_rules d tray s) → {r : Result declared.Answer Refusal} → r ≡ Err x → settled r d tray ≡ deliver_of d tray s
  unfolding deliver_of after
  refused_where f e = refused_so (deliver_rules d tray s) d tray held d after e f

  pub deliver_refused : {x : Refusal} → refused (number_of x) ≡ first_of (tray_tests ok d.head (length tray)) → {r : Result declared.Answer Refusal} → r ≡ Err x
      → settled r d tray ≡ deliver_of d tray s
  unfolding first_two of_sheet
  deliver_refused e = refused_where (first_of_first (13 if not (good s) ∷ of_sheet) (first_if_said first_two (e ∙ rw is)))

  module _ {u : Unit {0}} (e : answered u ≡ first_of (tray_tests ok d.head (length tray))) where
    silent_two : Silent first_two
    unfolding first_two
    silent_two = silent_if_said first_two (e ∙ rw is)

    module _ (w : Result Numbers Refusal) (reads : sheets.said_read s w ≡ sheets.reading_of s) where
      pub deliver_bad : {y : Refusal} → w ≡ Err y → {r : Result declared.Answer Refusal} → r ≡ Err y → settled r d tray ≡ deliver_of d tray s
      unfolding first_two of_sheet
      deliver_bad {y} b =
          let bad : good s ≡ false = said_bad s w y b reads in
          let thirteen : ◌≡◌ {A = Answer sheets.Sheet} (refused (number_of y)) (refused 13) = sym (ap (sheets.said_read s) b) ∙ reads ∙ bad_read s bad in
          let g : not (good s) ≡ true = rw bad in
          refused_where {x = y} (first_of_rest first_two silent_two (this {rs = of_sheet} g (same_number thirteen)))

      module _ (x : Numbers) (g : w ≡ Ok x) {f : Bool} (fr : f ≡ free tray x.sender) where
        is_good : (good s ≡ true) × (x ≡ numbers_of (trailer_in s))
        is_good = said_good s w x g reads

        good_so : not (good s) ≡ false
        good_so = rw is_good.0

        tests_are : first_of (sheet_tests d.head x f) ≡ first_of of_sheet
        unfolding of_sheet
        tests_are = rw (fr, is_good.1)

        pub deliver_misfit : {y : Refusal} → refused (number_of y) ≡ first_of (sheet_tests d.head x f) → {r : Result declared.Answer Refusal} → r ≡ Err y
            → settled r d tray ≡ deliver_of d tray s
        unfolding first_two of_sheet
        deliver_misfit m = refused_where (first_of_rest first_two silent_two (later good_so (first_if_said of_sheet (m ∙ tests_are))))

        pub deliver_so : {v : Unit {0}} → answered v ≡ first_of (sheet_tests d.head x f) → {tray' : List ℕ} → tray' ≡ held_in tray x.sender s
            → settled (Ok answers.Held) d tray' ≡ deliver_of d tray s
        unfolding deliver_of first_two of_sheet after
        deliver_so m t =
            rw (t, is_good.1)
            (done_so (deliver_rules d tray s) d tray held d after answers.Held refl
            (silent_both first_two (13 if not (good s) ∷ of_sheet) silent_two (good_so, silent_if_said of_sheet (m ∙ tests_are))))
