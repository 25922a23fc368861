-- What is promised of the calls on a book beside their contracts. proofs/Laws/Answers.antt proves
-- it. What is proved of books is stated in crates/booked.
-- Assumes nothing.
use Rattle.std.specs.Prelude.{◌≡◌, ℕ, Option, Result}
use Rattle.answer.specs.declared.Refusal.{Refusal}
use Rattle.book.specs.declared.Found.{Found}
use Rattle.book.specs.Counting.{said_count}
use Rattle.book.specs.Lookup.{said_found}
use Rattle.book.specs.Adding.{said_added}

-- two different answers never say the same: blank is no entry, and no refusal
pub record AnswersApart : Type 0 where
  pub counts : (a b : Result ℕ Refusal) → said_count a ≡ said_count b → a ≡ b
  pub founds : (a b : Result (Option Found) Refusal) → said_found a ≡ said_found b → a ≡ b
  pub addings : (a b : Result ℕ Refusal) → said_added a ≡ said_added b → a ≡ b
