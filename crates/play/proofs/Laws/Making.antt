-- What `send` knows (src/making.rt).
--   sent_room                     a sheet that was sent has room in what was lent
--   sends                         a set for `search`: `send`
-- Assumes nothing.
use Prim.Native.Nat.{ℕ, ◌+◌, ◌*◌, ◌≤◌}
use mathlib.Core.Path.{◌≡◌, refl, sym, ap, ◌∙◌, subst}
use mathlib.Core.List.{List, ◌++◌}
use native.Mathlib.Omega.{arith}
use lib.ListN.{length, take, drop, replicate, length-append}
use lib.Seq.{length-take-le}
use Rattle.std.specs.Prelude.{Ok}
use Rattle.answer.specs.Answer.{Answer, answered}
use Rattle.pending.specs.Pending.{pending_entries, sheet_of}
use Rattle.pending.proofs.Laws.Sending.{sheet_long}
use Rattle.desk.specs.declared.Desk.{Desk}
use Rattle.desk.specs.declared.Outcome.{Outcome}
use Rattle.desk.specs.declared.Answer as declared
use Rattle.desk.specs.declared.Answer.TheVariants as cases
use Rattle.desk.specs.Answers.{Value, sent, Done, said_answer, outcome}
use Rattle.desk.specs.Calls.{send_rules, sent_desk, send_of}
use Rattle.runs.proofs.Laws.Steps.{by_call}
use Rattle.play.specs.Steps.{sheet_room}

pub room_is : replicate 396 0 ≡ sheet_room
unfolding sheet_room
room_is = refl

-- ---- send

-- a sheet that was sent has room in the bytes that were lent
abbrev Room : Answer Value → List ℕ → Type 0
Room a lent = (turn entries : ℕ) → a ≡ answered (sent turn entries) → 6 * entries + 12 ≤ length lent

sending_room : (d : Desk) (buf : List ℕ) → Room (send_of d buf).answer (send_of d buf).lent
unfolding send_of
sending_room d buf =
    let sheet : List ℕ = sheet_of d.head d.pkind d.pday in
    let count : ℕ = length (pending_entries d.pkind d.pday) in
    let all : 6 * count + 12 ≤ length (sheet ++ drop (length sheet) buf) =
    omega (arith, sheet_long d.head d.pkind d.pday, length-append sheet (drop (length sheet) buf))
    in
    by_call (λ (x : Done). Room x.answer x.lent) (send_rules d buf) d buf
    (sent d.head.turn count)
    (sent_desk d)
    (sheet ++ drop (length sheet) buf)
    (λ k first turn entries e. let apart : ◌≡◌ {A = ℕ} 0 1 = cc in absurd (omega arith))
    (λ silent turn entries e. let same : count ≡ entries = cc in omega arith)

module _ (d : Desk) (room : List ℕ) (blank : room ≡ sheet_room) (o : Outcome) (lent : List ℕ) (gave : outcome o lent ≡ send_of d room) where
  is : outcome o lent ≡ send_of d sheet_room
  is = gave ∙ ap (send_of d) blank

  module _ (turn entries : ℕ) {a : declared.Answer} (e : o.answer ≡ Ok a) (s : a ≡ cases.Sent turn entries) where
    pub sent_room : 6 * entries + 12 ≤ length lent
    sent_room = subst (λ (x : Done). Room x.answer x.lent) (sym is) (sending_room d sheet_room) turn entries (ap said_answer (e ∙ ap Ok s))

    pub sent_part : 6 * entries + 12 ≡ length (take (6 * entries + 12) lent)
    sent_part = sym (length-take-le (6 * entries + 12) lent sent_room)

pub ruleset sends = (room_is, sent_room, sent_part)
