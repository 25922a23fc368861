-- The wrong desks and the slips do not meet demand 2 (specs/WrongDesks.antt): calls that meet it are document 01's (`met_by_01_alone`,
-- crates/figure/specs/Settled.antt), and for each of these there is an input of which they make something else, found by computing.
--   wrong_desks_shut_out : WrongDesksShutOut
--   slips_shut_out : SlipsShutOut
-- Assumes nothing.
use mathlib.Core.Path.{◌≡◌, refl, sym, ap, ◌∙◌}
use mathlib.Core.Bool.{Bool, true, ◌&&◌}
use mathlib.Core.List.{List, [], ◌∷◌}
use mathlib.Core.Option.{none, some}
use Prim.Native.Nat.{ℕ, zero, suc, ◌+◌, ◌≤◌}
use native.Mathlib.Omega.{arith}
use lib.Dec.{ltb}
use lib.IntN.{pos}
use lib.ListN.{replicate}
use Rattle.answer.specs.Answer.{Answer, refused, answered}
use Rattle.content.specs.declared.Content.TheVariants.{Open, Day}
use Rattle.content.specs.Content.{kind_of}
use Rattle.cells.specs.Cells.{kind_at}
use Rattle.layout.specs.Values.{AreBytes}
use Rattle.numbers.proofs.Tests.{tested}
use Rattle.desk.specs.declared.Desk.{Desk}
use Rattle.desk.specs.Answers.{Value, opened, stored, holds, waits, sent, held, taken, Done}
use Rattle.desk.specs.Calls.{Calls, document01, blank_desk, write_of, read_of, send_of, deliver_of}
use Rattle.desk.specs.Values.{DeskFits}
use Rattle.keeping.proofs.Laws.Open.{blank_fits}
use Rattle.keeping.proofs.Laws.Read.{read_fits}
use Rattle.keeping.proofs.Laws.Write.{write_fits}
use Rattle.figure.specs.Demand2.{Demand2}
use Rattle.figure.specs.Settled.{SameCalls}
use Rattle.figure.proofs.Settled.{met_by_01_alone}
use Rattle.witness.specs.WrongRuns.{take_ending_no_read, send_ending_read, read_ends_late}
use Rattle.witness.specs.WrongDesks.{refuses_everything, answers_blank, keeps_its_record, first_take_true, invents_counts, WrongDesksShutOut, one_value_per_cell, sends_no_empty_sheet, own_cell_waits, kind1_is_day0, SlipsShutOut}
use Rattle.witness.proofs.Laws.Tested.{computing}

-- ---- what is seen of an outcome, as a number

shown : Answer Value → ℕ
shown (refused k) = 0
shown (answered opened) = 1
shown (answered stored) = 2
shown (answered (holds c)) = 3 + kind_of c
shown (answered waits) = 6
shown (answered (sent turn entries)) = 7
shown (answered held) = 8
shown (answered (taken turn entries applied none)) = 9
shown (answered (taken turn entries applied (some c))) = 10 + kind_of c

applied_in : Answer Value → ℕ
applied_in (refused k) = 0
applied_in (answered opened) = 0
applied_in (answered stored) = 0
applied_in (answered (holds c)) = 0
applied_in (answered waits) = 0
applied_in (answered (sent turn entries)) = 0
applied_in (answered held) = 0
applied_in (answered (taken turn entries applied waited)) = applied

-- two outcomes of which different numbers are seen are not the same
apart : (see : Done → ℕ) (x y : Done) (a b : ℕ) → see x ≡ a → see y ≡ b → (a ≡ b → ⊥) → x ≡ y → ⊥
apart see x y a b is is' other same = other (sym is ∙ ap see same ∙ is')

by_answer : Done → ℕ
by_answer done = shown done.answer

-- the turn number; the kind of cell 0 on the shelf, and of its pending entry
turn_after : Done → ℕ
turn_after done = done.desk.head.turn

kind_after : Done → ℕ
kind_after done = kind_at done.desk.kind 0

pending_after : Done → ℕ
pending_after done = kind_at done.desk.pkind 0

-- ---- desks and trays

-- desk `own` of 2 desks with 2 cells, blank, at a turn number
at : (own mode turn : ℕ) → Desk
at own mode turn = blank_desk (record { n = 2; m = 2; own = own; mode = mode; turn = turn; wait = 0 })

at_fits : (own mode turn : ℕ) → turn ≤ 4294967295 → DeskFits (at own mode turn)
unfolding at
at_fits own mode turn low = blank_fits _ low

-- it has written open into a cell
opens : Desk → ℕ → Desk
opens d cell = (write_of d cell Open).desk

opens_fits : (d : Desk) (cell : ℕ) → DeskFits d → DeskFits (opens d cell)
unfolding opens
opens_fits d cell fits = write_fits d cell Open (record { sfits = omega arith }) fits

-- the tray in which lies the sheet that this desk sends, of so many bytes
tray_with : Desk → ℕ → List ℕ
tray_with d size = (deliver_of (at 1 1 d.head.turn) (replicate 796 0) (send_of d (replicate size 0)).lent).lent

all_bytes : List ℕ → Bool
all_bytes [] = true
all_bytes (b ∷ bs) = ltb b 256 && all_bytes bs

are_bytes_if : (l : List ℕ) → all_bytes l ≡ true → AreBytes l
unfolding all_bytes
are_bytes_if [] e i = omega arith
are_bytes_if (b ∷ bs) e zero = search tested
are_bytes_if (b ∷ bs) e (suc i) = are_bytes_if bs (search tested) i

-- a sheet of desk 0 with open in cell 0, at turn number 2; and one with open in both cells, at turn number 0
open_in_0 : List ℕ
open_in_0 = tray_with (opens (at 0 2 2) 0) 18

open_in_both : List ℕ
open_in_both = tray_with (opens (opens (at 0 1 0) 0) 1) 24

-- of desk 1, causal, which has open pending in cell 0; and desk 0's sheet with day 9 there
causal_asking : Desk
causal_asking = opens (at 1 2 0) 0

causal_asking_fits : DeskFits causal_asking
unfolding causal_asking
causal_asking_fits = opens_fits (at 1 2 0) 0 (at_fits 1 2 0 (omega arith))

day_in_0 : List ℕ
day_in_0 = tray_with (write_of (at 0 2 0) 0 (Day (pos 9))).desk 18

-- desk 1, sequential, which has cell 0 pending; and which has read cell 1, and waits
asking : Desk
asking = opens (at 1 1 0) 0

asking_fits : DeskFits asking
unfolding asking
asking_fits = opens_fits (at 1 1 0) 0 (at_fits 1 1 0 (omega arith))

waiting : Desk
waiting = (read_of asking 1).desk

waiting_fits : DeskFits waiting
unfolding waiting
waiting_fits = read_fits asking 1 asking_fits

-- ---- what is made of them, by computing

-- of an input: what the wrong calls make of it, and what document 01's do
record Made : Type 0 where
  refuses : (by_answer (refuses_everything.write (at 1 1 0) 0 Open) ≡ 0) × (by_answer (document01.write (at 1 1 0) 0 Open) ≡ 2)
  blank : (by_answer (answers_blank.read asking 0) ≡ 3) × (by_answer (document01.read asking 0) ≡ 4)
  keeps : (turn_after (keeps_its_record.send (at 0 1 0) (replicate 12 0)) ≡ 0) × (turn_after (document01.send (at 0 1 0) (replicate 12 0)) ≡ 1)
  moves : (kind_after (first_take_true.take (at 1 2 2) open_in_0) ≡ 0) × (kind_after (document01.take (at 1 2 2) open_in_0) ≡ 1)
  invents : (applied_in (invents_counts.take asking open_in_both).answer ≡ 2) × (applied_in (document01.take asking open_in_both).answer ≡ 1)
  bytes_0 : all_bytes open_in_0 ≡ true
  bytes_both : all_bytes open_in_both ≡ true

made : Made
unfolding computing by_answer shown applied_in turn_after kind_after at opens tray_with all_bytes open_in_0 open_in_both asking
    refuses_everything answers_blank keeps_its_record first_take_true invents_counts
made =
    record {
      refuses = (refl, refl);
      blank = (refl, refl);
      keeps = (refl, refl);
      moves = (refl, refl);
      invents = (refl, refl);
      bytes_0 = refl;
      bytes_both = refl;
    }

-- ---- the five wrong desks

as_01 : (calls : Calls) → Demand2 calls → SameCalls calls document01
as_01 calls = (met_by_01_alone calls).0

pub wrong_desks_shut_out : WrongDesksShutOut
wrong_desks_shut_out =
    record {
      refuses_everything_is_out = λ demand.
          apart by_answer _ _ 0 2 made.refuses.0 made.refuses.1 (λ e. omega arith)
          ((as_01 _ demand).write (at 1 1 0) 0 Open (at_fits 1 1 0 (omega arith)) (record { sfits = omega arith }));
      answers_blank_is_out = λ demand. apart by_answer _ _ 3 4 made.blank.0 made.blank.1 (λ e. omega arith) ((as_01 _ demand).read asking 0 asking_fits);
      keeps_its_record_is_out = λ demand.
          apart turn_after _ _ 0 1 made.keeps.0 made.keeps.1 (λ e. omega arith)
          ((as_01 _ demand).send (at 0 1 0) (replicate 12 0) (at_fits 0 1 0 (omega arith)));
      first_take_true_is_out = λ demand.
          apart kind_after _ _ 0 1 made.moves.0 made.moves.1 (λ e. omega arith)
          ((as_01 _ demand).take (at 1 2 2) open_in_0 (at_fits 1 2 2 (omega arith)) (are_bytes_if open_in_0 made.bytes_0));
      invents_counts_is_out = λ demand.
          apart (λ done. applied_in done.answer) _ _ 2 1 made.invents.0 made.invents.1 (λ e. omega arith)
          ((as_01 _ demand).take asking open_in_both asking_fits (are_bytes_if open_in_both made.bytes_both));
    }

-- ---- the five slips

record Slipped : Type 0 where
  one_value : (pending_after (one_value_per_cell.take causal_asking day_in_0) ≡ 2) × (pending_after (document01.take causal_asking day_in_0) ≡ 1)
  no_sheet : (turn_after (sends_no_empty_sheet.send (at 0 1 0) (replicate 12 0)) ≡ 0) × (turn_after (document01.send (at 0 1 0) (replicate 12 0)) ≡ 1)
  own_cell : (by_answer (own_cell_waits.read asking 0) ≡ 6) × (by_answer (document01.read asking 0) ≡ 4)
  kind_1 : (kind_after (kind1_is_day0.take (at 1 1 0) open_in_both) ≡ 2) × (kind_after (document01.take (at 1 1 0) open_in_both) ≡ 1)
  late : (by_answer (read_ends_late.take waiting open_in_both) ≡ 9) × (by_answer (document01.take waiting open_in_both) ≡ 11)
  bytes : all_bytes day_in_0 ≡ true

slipped : Slipped
unfolding computing by_answer shown turn_after kind_after pending_after at opens tray_with all_bytes open_in_both asking waiting causal_asking day_in_0
    one_value_per_cell sends_no_empty_sheet own_cell_waits kind1_is_day0 take_ending_no_read send_ending_read
slipped = record { one_value = (refl, refl); no_sheet = (refl, refl); own_cell = (refl, refl); kind_1 = (refl, refl); late = (refl, refl); bytes = refl }

pub slips_shut_out : SlipsShutOut
slips_shut_out =
    record {
      one_value_per_cell_is_out = λ demand.
          apart pending_after _ _ 2 1 slipped.one_value.0 slipped.one_value.1 (λ e. omega arith)
          ((as_01 _ demand).take causal_asking day_in_0 causal_asking_fits (are_bytes_if day_in_0 slipped.bytes));
      sends_no_empty_sheet_is_out = λ demand.
          apart turn_after _ _ 0 1 slipped.no_sheet.0 slipped.no_sheet.1 (λ e. omega arith)
          ((as_01 _ demand).send (at 0 1 0) (replicate 12 0) (at_fits 0 1 0 (omega arith)));
      own_cell_waits_is_out = λ demand.
          apart by_answer _ _ 6 4 slipped.own_cell.0 slipped.own_cell.1 (λ e. omega arith) ((as_01 _ demand).read asking 0 asking_fits);
      kind_1_is_day_0 = λ demand.
          apart kind_after _ _ 2 1 slipped.kind_1.0 slipped.kind_1.1 (λ e. omega arith)
          ((as_01 _ demand).take (at 1 1 0) open_in_both (at_fits 1 1 0 (omega arith)) (are_bytes_if open_in_both made.bytes_both));
      read_ends_late_is_out = λ demand.
          apart by_answer _ _ 9 11 slipped.late.0 slipped.late.1 (λ e. omega arith)
          ((as_01 _ demand).take waiting open_in_both waiting_fits (are_bytes_if open_in_both made.bytes_both));
    }
