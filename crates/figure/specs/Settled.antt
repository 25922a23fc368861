-- What demand 2 settles. proofs/Settled.antt proves it, but for `LoopsAgree`, which proofs/Laws/Agree.antt does.
-- Assumes nothing.
use Rattle.std.specs.Prelude.{◌≡◌, List, ◌↔◌, ℕ}
use Rattle.std.specs.Int.{w32}
use Rattle.std.proofs.Common.{SFits}
use Rattle.content.specs.declared.Content.{Content}
use Rattle.content.specs.Content.{day_of}
use Rattle.layout.specs.Values.{AreBytes}
use Rattle.desk.specs.declared.Desk.{Desk}
use Rattle.desk.specs.Calls.{Calls, document01}
use Rattle.desk.specs.Values.{DeskFits}
use Rattle.figure.specs.Figure1.{Model, Updates, Loop}
use Rattle.figure.specs.Demand2.{Demand2}

-- 01, "What the contracts have to say": "Where two outcomes could both satisfy it, show they are equal". These calls and those give the same
-- answer, next record and lent bytes for every input: every sound record and every other, every tray, buffer and sheet, as the code has them
pub record SameCalls (calls calls' : Calls) : Type 0 where
  pub opening : (n m own mode : ℕ) → calls.opening n m own mode ≡ calls'.opening n m own mode
  pub write : (d : Desk) (cell : ℕ) (c : Content) → DeskFits d → SFits w32 (day_of c) → calls.write d cell c ≡ calls'.write d cell c
  pub read : (d : Desk) (cell : ℕ) → DeskFits d → calls.read d cell ≡ calls'.read d cell
  pub send : (d : Desk) (buf : List ℕ) → DeskFits d → calls.send d buf ≡ calls'.send d buf
  pub deliver : (d : Desk) (tray s : List ℕ) → calls.deliver d tray s ≡ calls'.deliver d tray s
  pub take : (d : Desk) (tray : List ℕ) → DeskFits d → AreBytes tray → calls.take d tray ≡ calls'.take d tray

-- calls that both meet the demand are the same
abbrev pub Demand2Settles : Type 0
Demand2Settles = (calls calls' : Calls) → Demand2 calls → Demand2 calls' → SameCalls calls calls'

-- so it is met by document 01's calls, and by none that differs from them on a value of the code
abbrev pub MetBy01Alone : Type 0
MetBy01Alone = (calls : Calls) → Demand2 calls ↔ SameCalls calls document01

-- 000 leaves open which pair a loop extracts next: "extract (x, v) from updates_q". It makes no difference: two loops over the same set, from
-- the same copies, extract and assign equally many pairs and end with the same copies. So a step that applies a set settles the counts and
-- the shelf. (A loop ends, so its set is finite; nothing need be said of that.)
pub record SameEnd {A : Type 0} (extracted assigned : ℕ) (after : ℕ → A) (extracted' assigned' : ℕ) (after' : ℕ → A) : Type 0 where
  pub same_extracted : extracted ≡ extracted'
  pub same_assigned : assigned ≡ assigned'
  pub same_copies : after ≡ after'

abbrev pub LoopsAgree : Type 1
LoopsAgree =
    (A : Type 0) (model : Model) (own updates : Updates A) (copy : ℕ → A) (k j k' j' : ℕ) (after after' : ℕ → A)
    → Loop model own updates copy k j after → Loop model own updates copy k' j' after' → SameEnd k j after k' j' after'
