-- 00, demand 3, from "While no desk's turn number has reached its end" on: what is so after every run. `Demand3 document01` is proved in
-- proofs/TurnRules.antt, for all three modes and any mix of them.
-- Assumes nothing.
use Rattle.std.specs.Prelude.{◌≡◌, ◌≢◌, ◌⊎◌, Bool, true, false, cond, ◌&&◌, List, [], ◌∷◌, ℕ, ◌+◌, ◌-◌, ◌≤◌, ◌<◌, eqb, length}
use Rattle.std.proofs.Math.Option.{Option, some}
use Rattle.answer.specs.Answer.{refused, answered, accepted}
use Rattle.content.specs.declared.Content.{Content}
use Rattle.layout.specs.Layout.{trailer_in}
use Rattle.sound.specs.Head.{turn_desk, own_turn, read_waits, wait_cell}
use Rattle.tray.specs.Tray.{sheet_at}
use Rattle.refusals.specs.Rules.{last_turn}
use Rattle.desk.specs.Answers.{Value, waits, sent, held, taken}
use Rattle.runs.specs.Call.{Call, writes, reads, sends, delivers, takes}
use Rattle.desk.specs.Calls.{Calls, shown_at}
use Rattle.runs.specs.Run.{Shelf, State, sheet_no, start, made, after, Possible, Run, RunOn, reached}

-- ---- words of the demand

-- the turn number of desk p
abbrev pub turn_of : State → ℕ → ℕ
turn_of s p = (s.desk p).head.turn

-- "no desk's turn number has reached its end"
abbrev pub BeforeTheEnd : ℕ → State → Type 0
BeforeTheEnd n s = (p : ℕ) → p < n → turn_of s p < last_turn

-- desk p "has its own turn"
abbrev pub HasTurn : State → ℕ → Type 0
HasTurn s p = own_turn (s.desk p).head ≡ true

-- one of these calls, made one after the other from s on, is such a call
pub data OneOf (calls : Calls) (such : State → Call → Type 0) : State → List Call → Type 0 where
  first : {s : State} {c : Call} {cs : List Call} → such s c → OneOf calls such s (c ∷ cs)
  further : {s : State} {c : Call} {cs : List Call} → OneOf calls such (after calls s c) cs → OneOf calls such s (c ∷ cs)

-- an accepted take of desk p that takes sheet k: this was sent before, and its bytes are in the place, in p's tray, of the desk whose turn it is.
-- (Sheets of a run of 01's calls differ, each having its own turn number, specs/EveryRun.antt; so a take takes one.)
pub data TakesSheet (calls : Calls) (p k : ℕ) (s : State) : Call → Type 0 where
  takes_it : (v : Value)
      → (made calls s (takes p)).answer ≡ answered v
      → k < length s.line
      → sheet_at (s.tray p) (turn_desk (s.desk p).head) ≡ (sheet_no s k).bytes
      → TakesSheet calls p k s (takes p)

-- sheet k is "sent" when these calls have been made on a fresh shelf, and "untaken" by desk p: none of them took it
pub record Untaken (calls : Calls) (shelf : Shelf) (cs : List Call) (p k : ℕ) : Type 0 where
  pub sent : k < length (reached calls shelf cs).line
  pub untaken : OneOf calls (TakesSheet calls p k) (start calls shelf) cs → ⊥

-- desk p "can send into 396 bytes", or more: whatever they are, the send is carried out with the desk's turn number
abbrev pub CanSend : Calls → State → ℕ → Type 0
CanSend calls s p =
    (buffer : List ℕ) → 396 ≤ length buffer → (entries : ℕ) × ((made calls s (sends p buffer)).answer ≡ answered (sent (turn_of s p) entries))

-- sheet k is in desk p's tray, in its sender's place
abbrev pub InTray : State → (p k : ℕ) → Type 0
InTray s p k = sheet_at (s.tray p) (sheet_no s k).from ≡ (sheet_no s k).bytes

-- a delivery of sheet k to desk p: it is held, or refused with 18 because it is there already
pub data Arrives (calls : Calls) (s : State) (p k : ℕ) : Type 0 where
  is_held : (made calls s (delivers p k)).answer ≡ answered held → Arrives calls s p k
  is_there : (made calls s (delivers p k)).answer ≡ refused 18 → InTray s p k → Arrives calls s p k

-- desk p "can take its next sheet, one already sent, once delivered": sheet k is from the desk whose turn it is and has the desk's turn number;
-- after a delivery of it, it is in the tray, and the take is accepted, with that turn number
pub record CanTake (calls : Calls) (s : State) (p : ℕ) : Type 0 where
  pub k : ℕ
  pub sent : k < length s.line
  pub from : (sheet_no s k).from ≡ turn_desk (s.desk p).head
  pub turn : (trailer_in (sheet_no s k).bytes).turn ≡ turn_of s p
  pub arrives : Arrives calls s p k
  pub in_tray : InTray (after calls s (delivers p k)) p k
  pub entries : ℕ
  pub applied : ℕ
  pub waited : Option Content
  pub taken_then : (made calls (after calls s (delivers p k)) (takes p)).answer ≡ answered (taken (turn_of s p) entries applied waited)

-- some desk can do the one or the other
abbrev pub SomeGoesOn : Calls → ℕ → State → Type 0
SomeGoesOn calls n s = (p : ℕ) × (p < n) × (CanSend calls s p ⊎ CanTake calls s p)

-- the call is a take of desk p
abbrev pub take_of_desk : ℕ → Call → Bool
take_of_desk p (writes q cell c) = false
take_of_desk p (reads q cell) = false
take_of_desk p (sends q buffer) = false
take_of_desk p (delivers q k) = false
take_of_desk p (takes q) = eqb q p

-- how many of these calls are accepted takes of desk p
unfoldable pub takes_by : Calls → ℕ → State → List Call → ℕ
takes_by calls p s [] = 0
takes_by calls p s (c ∷ cs) = cond (take_of_desk p c && accepted (made calls s c).answer) 1 0 + takes_by calls p (after calls s c) cs

-- at desk p a read of this cell waits
abbrev pub ReadWaits : State → ℕ → ℕ → Type 0
ReadWaits s p cell = (read_waits (s.desk p).head ≡ true) × (wait_cell (s.desk p).head ≡ cell)

-- an accepted take of desk p that answers the read of this cell, with what the shelf then has there, "and the read is over"
pub data AnswersRead (calls : Calls) (p cell : ℕ) (s : State) : Call → Type 0 where
  answers_it : (turn entries applied : ℕ) (c : Content)
      → (made calls s (takes p)).answer ≡ answered (taken turn entries applied (some c))
      → c ≡ shown_at ((after calls s (takes p)).desk p) cell
      → read_waits ((after calls s (takes p)).desk p).head ≡ false
      → AnswersRead calls p cell s (takes p)

-- one of these calls answers it, and until then it waits
pub data ReadAnswered (calls : Calls) (p cell : ℕ) : State → List Call → Type 0 where
  at_this : {s : State} {c : Call} {cs : List Call} → ReadWaits s p cell → AnswersRead calls p cell s c → ReadAnswered calls p cell s (c ∷ cs)
  waits_on : {s : State} {c : Call} {cs : List Call}
      → ReadWaits s p cell
      → ReadAnswered calls p cell (after calls s c) cs
      → ReadAnswered calls p cell s (c ∷ cs)

-- ---- the demand

-- Each part says what is so after these calls, made on a fresh shelf. The first so many calls of a run are a run too, so it is so after every
-- call of a run.

-- 1. "at most one desk has its own turn"
abbrev pub OneTurn : Calls → Shelf → List Call → Type 0
OneTurn calls shelf cs =
    let s = reached calls shelf cs in
    (p q : ℕ) → p < shelf.n → q < shelf.n → HasTurn s p → HasTurn s q → p ≡ q

-- 2. "a desk has at most one sent and untaken sheet from each other desk": of sheets j and k, both from desk q
abbrev pub OneSheet : Calls → Shelf → List Call → Type 0
OneSheet calls shelf cs =
    let s = reached calls shelf cs in
    (p q : ℕ) → p < shelf.n → q ≢ p → (j k : ℕ) → (sheet_no s j).from ≡ q → (sheet_no s k).from ≡ q
    → Untaken calls shelf cs p j → Untaken calls shelf cs p k → j ≡ k

-- 3. "refusal 17 never comes", and of any other refusal: whichever call is next
abbrev pub Never : ℕ → Calls → Shelf → List Call → Type 0
Never number calls shelf cs =
    let s = reached calls shelf cs in
    (c : Call) → Possible shelf.n s c → (made calls s c).answer ≢ refused number

-- 4. "While no desk's turn number has reached its end: .. some desk can send into 396 bytes, or can take its next sheet, one already sent, once
-- delivered."
abbrev pub GoesOn : Calls → Shelf → List Call → Type 0
GoesOn calls shelf cs = let s = reached calls shelf cs in BeforeTheEnd shelf.n s → SomeGoesOn calls shelf.n s

-- 5. "A read that waits is answered by its desk's accepted take number n-1 at the latest, counted from that read, for n desks.": of any further
-- calls among which that desk has n-1 accepted takes or more, one answers it
abbrev pub WaitEnds : Calls → Shelf → List Call → Type 0
WaitEnds calls shelf cs =
    (p cell : ℕ) → p < shelf.n → (made calls (reached calls shelf cs) (reads p cell)).answer ≡ answered waits
    → (let s = after calls (reached calls shelf cs) (reads p cell) in
    (ds : List Call) → Run calls shelf.n s ds → shelf.n - 1 ≤ takes_by calls p s ds → ReadAnswered calls p cell s ds)

-- "While no desk's turn number has reached its end" is a premise of the fourth part alone: the others are so from then on, too. (What is left of the
-- fourth then is said in specs/AtTheEnd.antt.)
pub record TurnRules (calls : Calls) (shelf : Shelf) (cs : List Call) : Type 0 where
  pub one_turn : OneTurn calls shelf cs
  pub one_sheet : OneSheet calls shelf cs
  pub no_17 : Never 17 calls shelf cs
  pub goes_on : GoesOn calls shelf cs
  pub wait_ends : WaitEnds calls shelf cs

-- "Open all desks of a shelf once, with clear trays. Then make any list of other calls, refused ones too"
abbrev pub Demand3 : Calls → Type 0
Demand3 calls = (shelf : Shelf) (cs : List Call) → RunOn calls shelf cs → TurnRules calls shelf cs
