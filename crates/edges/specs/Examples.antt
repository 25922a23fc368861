-- 01, "Examples at the edges": "(P) marks those for the proved table": one list of cases and one statement over it, `ExamplesHold`, proved in
-- proofs/Examples.antt. Examples 1, 2, 4 and 5 are made by a desk's calls (crates/desk/specs/Calls.antt), one after the other from open
-- on; 6 by a send and a delivery, on records with the turn numbers that it names. What 5 and 6 say of more than a case is `AlwaysAndOnly`,
-- proved in proofs/AlwaysAndOnly.antt.
-- Assumes nothing.
use Rattle.std.specs.Prelude.{◌≡◌, ◌≢◌, true, List, [], ◌∷◌, map, ℕ, ◌*◌, ◌<◌, ℤ, pos, negsuc, length, drop, replicate}
use Rattle.std.proofs.Math.Option.{none}
use Rattle.answer.specs.Answer.{Answer, refused, answered}
use Rattle.content.specs.declared.Content.{Content}
use Rattle.content.specs.declared.Content.TheVariants.{Blank, Day}
use Rattle.content.specs.Standing.{Stands, unknown, left, standing_on}
use Rattle.calendar.specs.declared.Date.{Date}
use Rattle.calendar.specs.Calendar.{day_number_of}
use Rattle.layout.specs.Layout.{entry_for, entry_bytes, trailer_in}
use Rattle.sheet.specs.Good.{good}
use Rattle.cells.specs.Cells.{content_at}
use Rattle.sound.specs.Head.{own_turn}
use Rattle.tray.specs.Tray.{free}
use Rattle.desk.specs.declared.Desk.{Desk}
use Rattle.desk.specs.Answers.{Done, holds, waits, sent, held, taken}
use Rattle.desk.specs.Answers as desk
use Rattle.desk.specs.Calls.{sound, open_of, write_of, read_of, send_of, deliver_of, take_of, blank_desk}

-- what the examples speak of: bytes; a standing; a day; a call's answer, alone, with the buffer after it, or with what a cell then holds
-- on the shelf and as a pending entry
pub data Shown : Type 0 where
  bytes : List ℕ → Shown
  standing : Stands → Shown
  day : Answer ℤ → Shown
  call : Answer desk.Value → Shown
  sheet : Answer desk.Value → List ℕ → Shown
  cell : Answer desk.Value → (shelf pending : Content) → Shown

-- an example: its number in 01, what the definitions make, and what 01 says
pub record Case : Type 0 where
  pub example : ℕ
  pub made : Shown
  pub says : Shown

-- ---- calls in a row

-- desk `own` of n desks, m cells, opened in a mode: 0 the default, 1 sequential, 2 causal, 3 cache
unfoldable pub opened_desk : (n m own mode : ℕ) → Desk
opened_desk n m own mode = (open_of n m own mode).desk

-- the desk after a write
unfoldable pub written_to : Desk → ℕ → Content → Desk
written_to d i c = (write_of d i c).desk

-- a send into a buffer of so many sevens
unfoldable pub sent_into : Desk → ℕ → Done
sent_into d room = send_of d (replicate room 7)

-- a sheet delivered into a tray of zeros; and then taken
unfoldable pub delivered_to : Desk → List ℕ → Done
delivered_to d s = deliver_of d (replicate (398 * d.head.n) 0) s

unfoldable pub taken_from : Desk → List ℕ → Done
taken_from d s = let done = delivered_to d s in take_of done.desk done.lent

-- ---- what the examples look at

unfoldable pub sent_by : Done → Shown
sent_by done = sheet done.answer done.lent

unfoldable pub cell_after : ℕ → Done → Shown
cell_after i done =
    let d = done.desk in
    cell done.answer (content_at d.kind d.day i) (content_at d.pkind d.pday i)

-- example 4, in a mode: desk 1 of 2, 2 cells, has day 5 pending in cell 0, and takes desk 0's sheet with day 9 in that cell
unfoldable pub takes_nine : ℕ → Done
takes_nine mode =
    let nine = (sent_into (written_to (opened_desk 2 2 0 mode) 0 (Day (pos 9))) 18).lent in
    taken_from (written_to (opened_desk 2 2 1 mode) 0 (Day (pos 5))) nine

-- example 6: desk `own` of 3, 1 cell, sequential, blank, at a turn number
unfoldable pub of_three : (own turn : ℕ) → Desk
of_three own turn = blank_desk (record { n = 3; m = 1; own = own; mode = 1; turn = turn; wait = 0 })

-- desk 1 at turn number 4 is delivered desk 0's sheet of this turn number
unfoldable pub delivered_at4 : ℕ → Shown
delivered_at4 turn = call (delivered_to (of_three 1 4) (sent_into (of_three 0 turn) 12).lent).answer

abbrev pub date_of2000 : ℕ → ℕ → Date
date_of2000 m d = record { year = 2000; month = m; day = d }

-- ---- the table

unfoldable pub cases : List Case
cases =
    -- "Desk 0 of 2, 2 cells, sends day 0 in cell 1 at turn 0: `01 02 00 00 00 00 06 00 01 00 02 02 00 00 00 00 00 00`."
    -- (In the default mode.)
    record {
      example = 1;
      made = sent_by (sent_into (written_to (opened_desk 2 2 0 0) 1 (Day (pos 0))) 18);
      says = sheet (answered (sent 0 1)) (0x01 ∷ 0x02 ∷ 0x00 ∷ 0x00 ∷ 0x00 ∷ 0x00 ∷ 0x06 ∷ 0x00 ∷ 0x01 ∷ 0x00 ∷ 0x02 ∷ 0x02 ∷ 0x00 ∷ 0x00 ∷ 0x00 ∷ 0x00 ∷ 0x00 ∷ 0x00 ∷ []);
    }
    -- "Nothing pending there: `00 00 00 00 02 02 00 00 00 00 00 00`."
    ∷ record {
      example = 2;
      made = sent_by (sent_into (opened_desk 2 2 0 0) 12);
      says = sheet (answered (sent 0 0)) (0x00 ∷ 0x00 ∷ 0x00 ∷ 0x00 ∷ 0x02 ∷ 0x02 ∷ 0x00 ∷ 0x00 ∷ 0x00 ∷ 0x00 ∷ 0x00 ∷ 0x00 ∷ []);
    }
    -- "Day -1 is `FF FF FF FF`."
    ∷ record { example = 3; made = bytes (drop 2 (entry_bytes (entry_for 1 (Day (negsuc 0))))); says = bytes (0xFF ∷ 0xFF ∷ 0xFF ∷ 0xFF ∷ []) }
    -- "Causal, pending day 5, taken day 9 in that cell: shelf 9, pending 5."
    ∷ record { example = 4; made = cell_after 0 (takes_nine 2); says = cell (answered (taken 0 1 1 none)) (Day (pos 9)) (Day (pos 5)) }
    -- "Sequential or cache: both 5."
    ∷ record { example = 4; made = cell_after 0 (takes_nine 1); says = cell (answered (taken 0 1 0 none)) (Day (pos 5)) (Day (pos 5)) }
    ∷ record { example = 4; made = cell_after 0 (takes_nine 3); says = cell (answered (taken 0 1 0 none)) (Day (pos 5)) (Day (pos 5)) }
    -- "One desk, sequential, another cell pending: a read answers at once, the turn is always its own."
    ∷ record { example = 5; made = call (read_of (written_to (opened_desk 1 2 0 1) 0 (Day (pos 5))) 1).answer; says = call (answered (holds Blank)) }
    -- "n = 3, turn number 4: from desk 0 only number 6 may be delivered; 3 gets 16, 9 gets 17."
    ∷ record { example = 6; made = delivered_at4 6; says = call (answered held) }
    ∷ record { example = 6; made = delivered_at4 3; says = call (refused 16) }
    ∷ record { example = 6; made = delivered_at4 9; says = call (refused 17) }
    ∷ record { example = 6; made = delivered_at4 0; says = call (refused 16) }
    ∷ record { example = 6; made = delivered_at4 12; says = call (refused 17) }
    -- "Standing of day 0 on day 0 is 0 left; on day 1 it is -1; of blank, unknown."
    ∷ record { example = 7; made = standing (standing_on (Day (pos 0)) (pos 0)); says = standing (left (pos 0)) }
    ∷ record { example = 7; made = standing (standing_on (Day (pos 0)) (pos 1)); says = standing (left (negsuc 0)) }
    ∷ record { example = 7; made = standing (standing_on Blank (pos 1)); says = standing unknown }
    -- "1 January 2000 is 10,957 and 29 February 2000 is 11,016."
    ∷ record { example = 8; made = day (day_number_of (date_of2000 1 1)); says = day (answered (pos 10957)) }
    ∷ record { example = 8; made = day (day_number_of (date_of2000 2 29)); says = day (answered (pos 11016)) }
    ∷ []

-- the definitions make of every case what 01 says
abbrev pub ExamplesHold : Type 0
ExamplesHold = map (λ (c : Case). c.made) cases ≡ map (λ (c : Case). c.says) cases

-- ---- what no list of cases can say: examples 5 and 6 speak of every such desk, and of every sheet

-- example 6: a sound record of another desk than 0 with "n = 3, turn number 4", its tray, and a good sheet of its shelf "from desk 0"
pub record FromDesk0 (d : Desk) (tray s : List ℕ) : Type 0 where
  pub is_sound : sound d ≡ true
  pub three_desks : d.head.n ≡ 3
  pub turn_number : d.head.turn ≡ 4
  pub not_desk_0 : d.head.own ≢ 0
  pub tray_fits_lem : length tray ≡ 398 * 3
  pub is_good : good s ≡ true
  pub same_desks : (trailer_in s).desks ≡ 3
  pub same_cells : (trailer_in s).cells ≡ d.head.m
  pub from_desk_0 : (trailer_in s).sender ≡ 0

pub record AlwaysAndOnly : Type 0 where
  -- example 5, "the turn is always its own": in every mode, whatever is pending
  pub turn_is_own : (d : Desk) → sound d ≡ true → d.head.n ≡ 1 → own_turn d.head ≡ true
  -- "a read answers at once" what the cell holds; and no record with n = 1, sound or not, makes one wait
  pub answers_at_once :
      (d : Desk) (i : ℕ) → sound d ≡ true → d.head.n ≡ 1 → i < d.head.m
      → (read_of d i).answer ≡ answered (holds (content_at d.kind d.day i))
  pub never_waits : (d : Desk) (i : ℕ) → d.head.n ≡ 1 → (read_of d i).answer ≡ answered waits → ⊥
  -- example 6, "from desk 0 only number 6 may be delivered": of all bytes, with any tray, at any record with these two numbers; and 6 may,
  -- where desk 0's place is free
  pub only_6_is_held :
      (d : Desk) (tray s : List ℕ) → d.head.n ≡ 3 → d.head.turn ≡ 4 → (trailer_in s).sender ≡ 0
      → (deliver_of d tray s).answer ≡ answered held → (trailer_in s).turn ≡ 6
  pub number_6_is_held :
      (d : Desk) (tray s : List ℕ) → FromDesk0 d tray s → (trailer_in s).turn ≡ 6 → free tray 0 ≡ true
      → (deliver_of d tray s).answer ≡ answered held
  -- "3 gets 16, 9 gets 17", and so does every number below 6, and every number above it
  pub below_6_gets_16 : (d : Desk) (tray s : List ℕ) → FromDesk0 d tray s → (trailer_in s).turn < 6 → (deliver_of d tray s).answer ≡ refused 16
  pub above_6_gets_17 : (d : Desk) (tray s : List ℕ) → FromDesk0 d tray s → 6 < (trailer_in s).turn → (deliver_of d tray s).answer ≡ refused 17
