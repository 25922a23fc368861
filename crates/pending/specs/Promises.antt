-- What is promised of the sheet of a desk's pending entries beside the call's contract. proofs/Laws/Sending.antt proves it.
-- Assumes nothing.
use Rattle.std.specs.Prelude.{◌≡◌, ℕ, Result}
use Rattle.answer.specs.declared.Refusal.{Refusal}
use Rattle.pending.specs.Pending.{said_sent}

-- two different answers never say the same
abbrev pub SendingsApart : Type 0
SendingsApart = (a b : Result ℕ Refusal) → said_sent a ≡ said_sent b → a ≡ b
