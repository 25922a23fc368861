-- Runs, played by computing the definitions of the calls. They show that what demand 3 speaks of comes about, and that some of what it
-- says cannot be said more strongly. (01's listing is a run, too: crates/rounds/specs/Listing.antt.) proofs/RunsPlayed.antt proves it.
-- Assumes nothing.
use Rattle.std.specs.Prelude.{◌≡◌, List, [], ◌∷◌, ◌++◌, ℕ, zero, suc, ◌+◌, ◌-◌, ◌<◌, pos, replicate}
use Rattle.std.proofs.Math.Option.{none, some}
use Rattle.answer.specs.Answer.{Answer, refused, answered}
use Rattle.content.specs.declared.Content.TheVariants.{Open, Day}
use Rattle.layout.specs.Layout.{trailer_in}
use Rattle.desk.specs.Answers.{Value, stored, waits, sent, held, taken}
use Rattle.runs.specs.Call.{Call, writes, reads, sends, delivers, takes, sheet_room}
use Rattle.desk.specs.Calls.{document01}
use Rattle.runs.specs.Run.{Shelf, State, sheet_no, start, made, after, Possible, answers_of, RunOn, reached}
use Rattle.runs.specs.TurnRules.{turn_of, BeforeTheEnd, HasTurn, Untaken, CanSend, InTray, CanTake, takes_by, ReadAnswered}

-- ---- what the runs share

-- 2 desks, 2 cells, sequential
abbrev pub two_desks : Shelf
two_desks = record { n = 2; m = 2; mode = λ p. 1 }

-- the same with a third desk
abbrev pub three_desks : Shelf
three_desks = record { n = 3; m = 2; mode = λ p. 1 }

-- these calls are a run on this shelf, and this is what they answer
pub record Plays (shelf : Shelf) (cs : List Call) (answers : List (Answer Value)) : Type 0 where
  pub run : RunOn document01 shelf cs
  pub answers_are : answers_of document01 (start document01 shelf) cs ≡ answers

-- ---- "a desk has at most one sent and untaken sheet from each other desk": of several desks it may have one each

-- desk p has sheet k in its tray, and has not taken it
pub record HoldsUntaken (shelf : Shelf) (cs : List Call) (p k : ℕ) : Type 0 where
  pub in_tray : InTray (reached document01 shelf cs) p k
  pub untaken : Untaken document01 shelf cs p k

-- desk 0 sends sheet 0, and it is delivered to desks 1 and 2
unfoldable pub one_sheet : List Call
one_sheet = sends 0 sheet_room ∷ delivers 1 0 ∷ delivers 2 0 ∷ []

-- then desk 1 takes it and sends sheet 1, which is delivered to desk 2
unfoldable pub two_sheets : List Call
two_sheets = sends 0 sheet_room ∷ delivers 1 0 ∷ delivers 2 0 ∷ takes 1 ∷ sends 1 sheet_room ∷ delivers 2 1 ∷ []

pub record TwoHold : Type 0 where
  pub one_plays : Plays three_desks one_sheet (answered (sent 0 0) ∷ answered held ∷ answered held ∷ [])
  -- two desks hold the same sheet
  pub desk_1 : HoldsUntaken three_desks one_sheet 1 0
  pub desk_2 : HoldsUntaken three_desks one_sheet 2 0
  -- no desk has its turn, and the sheet, delivered again, gets 18, since it is there; desk 1 can take it
  pub no_turn : (p : ℕ) → p < 3 → HasTurn (reached document01 three_desks one_sheet) p → ⊥
  pub there_already : (made document01 (reached document01 three_desks one_sheet) (delivers 1 0)).answer ≡ refused 18
  pub can_take : CanTake document01 (reached document01 three_desks one_sheet) 1
  pub two_play :
      Plays three_desks two_sheets
      (answered (sent 0 0) ∷ answered held ∷ answered held ∷ answered (taken 0 0 0 none) ∷ answered (sent 1 0) ∷ answered held ∷ [])
  -- one desk holds two sheets
  pub from_desk_0 : (sheet_no (reached document01 three_desks two_sheets) 0).from ≡ 0
  pub from_desk_1 : (sheet_no (reached document01 three_desks two_sheets) 1).from ≡ 1
  pub sheet_0 : HoldsUntaken three_desks two_sheets 2 0
  pub sheet_1 : HoldsUntaken three_desks two_sheets 2 1

-- ---- "by its desk's accepted take number n-1 at the latest": number n-2 may be too early

-- desk 0 sends, and writes cell 0; it then reads cell 1
unfoldable pub before_the_read : List Call
before_the_read = sends 0 sheet_room ∷ writes 0 0 Open ∷ []

-- it takes desk 1's sheet; desk 2 writes that cell, takes both sheets and sends, and its sheet is delivered to desk 0
unfoldable pub while_it_waits : List Call
while_it_waits =
    delivers 1 0
    ∷ takes 1
    ∷ sends 1 sheet_room
    ∷ delivers 0 1
    ∷ takes 0
    ∷ writes 2 1 (Day (pos 9))
    ∷ delivers 2 0
    ∷ takes 2
    ∷ delivers 2 1
    ∷ takes 2
    ∷ sends 2 sheet_room
    ∷ delivers 0 2
    ∷ []

-- with its second take, n-1 for 3 desks, the read is over
unfoldable pub until_answered : List Call
until_answered = while_it_waits ++ takes 0 ∷ []

unfoldable pub wait_answers : List (Answer Value)
wait_answers =
    answered (sent 0 0)
    ∷ answered stored
    ∷ answered waits
    ∷ answered held
    ∷ answered (taken 0 0 0 none)
    ∷ answered (sent 1 0)
    ∷ answered held
    ∷ answered (taken 1 0 0 none)
    ∷ answered stored
    ∷ answered held
    ∷ answered (taken 0 0 0 none)
    ∷ answered held
    ∷ answered (taken 1 0 0 none)
    ∷ answered (sent 2 1)
    ∷ answered held
    ∷ answered (taken 2 1 1 (some (Day (pos 9))))
    ∷ []

-- "counted from that read"
abbrev pub since_the_read : State
since_the_read = after document01 (reached document01 three_desks before_the_read) (reads 0 1)

pub record LongestWait : Type 0 where
  pub plays : Plays three_desks (before_the_read ++ reads 0 1 ∷ until_answered) wait_answers
  pub read_waits : (made document01 (reached document01 three_desks before_the_read) (reads 0 1)).answer ≡ answered waits
  pub one_take : takes_by document01 0 since_the_read while_it_waits ≡ 1
  pub not_yet : ReadAnswered document01 0 1 since_the_read while_it_waits → ⊥
  pub two_takes : takes_by document01 0 since_the_read until_answered ≡ 2
  pub at_last : ReadAnswered document01 0 1 since_the_read until_answered

-- ---- "some desk can send into 396 bytes, or can take its next sheet": there may be no desk that can send

unfoldable pub sheet_on_the_line : List Call
sheet_on_the_line = sends 0 sheet_room ∷ []

pub record NobodySends : Type 0 where
  -- on a fresh shelf desk 0 "has its own turn"
  pub fresh : HasTurn (reached document01 two_desks []) 0
  -- when it has sent, no desk has, and desk 1 can take that sheet
  pub plays : Plays two_desks sheet_on_the_line (answered (sent 0 0) ∷ [])
  pub before_the_end : BeforeTheEnd 2 (reached document01 two_desks sheet_on_the_line)
  pub no_turn : (p : ℕ) → p < 2 → HasTurn (reached document01 two_desks sheet_on_the_line) p → ⊥
  pub no_send : (p : ℕ) → p < 2 → CanSend document01 (reached document01 two_desks sheet_on_the_line) p → ⊥
  pub next_sheet : CanTake document01 (reached document01 two_desks sheet_on_the_line) 1

-- ---- "refusal 17 never comes": how near to it a delivery gets

-- 01's table, 17: "sheet's number at or above turn number + n". The greatest that can be delivered is turn number + n - 2 (crates/runs/specs/EveryRun.antt,
-- `NotFarAhead`), and here it is: desk 0 sends sheet 0, desk 1 sheet 1 and desk 2 sheet 2, before desk 0 takes any
unfoldable pub three_sheets : List Call
three_sheets =
    sends 0 sheet_room
    ∷ delivers 1 0
    ∷ takes 1
    ∷ sends 1 sheet_room
    ∷ delivers 2 0
    ∷ takes 2
    ∷ delivers 2 1
    ∷ takes 2
    ∷ sends 2 sheet_room
    ∷ []

unfoldable pub three_sheets_answers : List (Answer Value)
three_sheets_answers =
    answered (sent 0 0)
    ∷ answered held
    ∷ answered (taken 0 0 0 none)
    ∷ answered (sent 1 0)
    ∷ answered held
    ∷ answered (taken 0 0 0 none)
    ∷ answered held
    ∷ answered (taken 1 0 0 none)
    ∷ answered (sent 2 0)
    ∷ []

pub record Furthest : Type 0 where
  pub plays : Plays three_desks three_sheets three_sheets_answers
  pub turn : turn_of (reached document01 three_desks three_sheets) 0 ≡ 1
  pub number : (trailer_in (sheet_no (reached document01 three_desks three_sheets) 2).bytes).turn ≡ turn_of (reached document01 three_desks three_sheets) 0 + 3 - 2
  pub possible : Possible 3 (reached document01 three_desks three_sheets) (delivers 0 2)
  pub is_held : (made document01 (reached document01 three_desks three_sheets) (delivers 0 2)).answer ≡ answered held

-- ---- "into 396 bytes": fewer may be too few

-- one desk alone with 64 cells; `written k` writes each of the first k
abbrev pub full_shelf : Shelf
full_shelf = record { n = 1; m = 64; mode = λ p. 2 }

unfoldable pub written : ℕ → List Call
written zero = []
written (suc k) = written k ++ writes 0 k Open ∷ []

pub record FullSheet : Type 0 where
  pub run : RunOn document01 full_shelf (written 64)
  pub too_few : (made document01 (reached document01 full_shelf (written 64)) (sends 0 (replicate 395 0))).answer ≡ refused 11
  pub enough : (made document01 (reached document01 full_shelf (written 64)) (sends 0 (replicate 396 0))).answer ≡ answered (sent 0 64)

-- ---- all of them

pub record RunsPlayed : Type 0 where
  pub two_hold : TwoHold
  pub longest_wait : LongestWait
  pub nobody_sends : NobodySends
  pub furthest : Furthest
  pub full_sheet : FullSheet
