-- What wrong calls are made of: document 01's calls with some of them changed, and an outcome of a call with a part of it changed.
-- Assumes nothing.
use Rattle.std.specs.Prelude.{cond, List, ℕ}
use Rattle.std.proofs.Math.Option.{Option, none, some}
use Rattle.answer.specs.Answer.{Answer, refused, answered, accepted}
use Rattle.content.specs.declared.Content.{Content}
use Rattle.desk.specs.declared.Desk.{Desk}
use Rattle.desk.specs.Answers.{Value, opened, stored, holds, waits, sent, held, taken, Done}
use Rattle.desk.specs.Calls.{Calls, open_of, with_head}

-- ---- calls

-- these calls, and 01's open
abbrev pub calls_with :
    (write : Desk → ℕ → Content → Done) (read : Desk → ℕ → Done) (send : Desk → List ℕ → Done) (deliver : Desk → List ℕ → List ℕ → Done)
    (take : Desk → List ℕ → Done) → Calls
calls_with write read send deliver take = record { opening = open_of; write = write; read = read; send = send; deliver = deliver; take = take }

-- ---- an outcome

abbrev pub with_answer : (Answer Value → Answer Value) → Done → Done
with_answer change done = record { answer = change done.answer; desk = done.desk; lent = done.lent }

-- with another record, where the call was carried out: a refused one changes nothing
abbrev pub with_desk : (Desk → Desk) → Done → Done
with_desk change done =
    record { answer = done.answer; desk = cond (accepted done.answer) (change done.desk) done.desk; lent = done.lent }

abbrev pub with_lent : List ℕ → Done → Done
with_lent lent done = record { answer = done.answer; desk = done.desk; lent = lent }

-- ---- a record

-- with the shelf of this one, or with its pending entries
abbrev pub with_shelf_of : Desk → Desk → Desk
with_shelf_of e d = record { head = d.head; kind = e.kind; day = e.day; pkind = d.pkind; pday = d.pday }

abbrev pub with_pending_of : Desk → Desk → Desk
with_pending_of e d = record { head = d.head; kind = d.kind; day = d.day; pkind = e.pkind; pday = e.pday }

-- with this waiting read, or with none
abbrev pub with_wait : ℕ → Desk → Desk
with_wait wait d =
    let h = d.head in
    with_head (record { n = h.n; m = h.m; own = h.own; mode = h.mode; turn = h.turn; wait = wait }) d

-- ---- an answer

-- the content of a read changed; the applied count of a take, from its entries and that count; and the content that it carries, if any
pub record Change : Type 0 where
  pub content : Content → Content
  pub applied : (entries applied : ℕ) → ℕ
  pub waited : Option Content → Option Content

abbrev pub showing : Change → Value → Value
showing x opened = opened
showing x stored = stored
showing x (holds c) = holds (x.content c)
showing x waits = waits
showing x (sent turn entries) = sent turn entries
showing x held = held
showing x (taken turn entries applied waited) = taken turn entries (x.applied entries applied) (x.waited waited)

abbrev pub answering : Change → Answer Value → Answer Value
answering x (refused k) = refused k
answering x (answered v) = answered (showing x v)

-- every content changed, that of a read that waited too
abbrev pub in_option : (Content → Content) → Option Content → Option Content
in_option show none = none
in_option show (some c) = some (show c)

abbrev pub contents : (Content → Content) → Answer Value → Answer Value
contents show = answering (record { content = show; applied = λ entries applied. applied; waited = in_option show })

-- what a take carries, and nothing else
abbrev pub carrying : Option Content → Answer Value → Answer Value
carrying waited = answering (record { content = λ c. c; applied = λ entries applied. applied; waited = λ before. waited })
