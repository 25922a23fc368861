-- What every call keeps of the bytes lent to it, beside what demand 2 says (crates/figure/specs/Demand2.antt). proofs/Keeping.antt proves it.
-- Assumes nothing.
use Rattle.std.specs.Prelude.{◌≡◌, List, ℕ, ◌≤◌, length}
use Rattle.answer.specs.Answer.{refused}
use Rattle.pending.specs.Pending.{sheet_of}
use Rattle.desk.specs.declared.Desk.{Desk}
use Rattle.desk.specs.Calls.{send_of, deliver_of, take_of}

-- 00: "The desk whose turn it is sends one sheet of 396 bytes at most". Sends from a sound record, and from any other, fit 396 bytes: 11, "buffer
-- shorter than the sheet", never comes where as many are lent
pub record SendsFit : Type 0 where
  pub sheet_most : (d : Desk) → length (sheet_of d.head d.pkind d.pday) ≤ 396
  pub never_11 : (d : Desk) (buf : List ℕ) → 396 ≤ length buf → (send_of d buf).answer ≡ refused 11 → ⊥

-- a buffer and a tray are as long afterwards as they were
pub record LentStaysLong : Type 0 where
  pub send : (d : Desk) (buf : List ℕ) → length (send_of d buf).lent ≡ length buf
  pub deliver : (d : Desk) (tray s : List ℕ) → length (deliver_of d tray s).lent ≡ length tray
  pub take : (d : Desk) (tray : List ℕ) → length (take_of d tray).lent ≡ length tray
