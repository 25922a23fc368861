-- The statements settle the calls: whatever meets them is document 02's, answer for answer and byte
-- for byte. proofs/Settled.antt proves it.
-- Assumes nothing.
use Rattle.std.specs.Prelude.{◌≡◌, Bool, List, ℕ, Option}
use Rattle.answer.specs.Answer.{Answer}
use Rattle.book.specs.declared.Back.{Back}
use Rattle.book.specs.Good.{good_book}
use Rattle.book.specs.Counting.{count_of}
use Rattle.book.specs.Stepping.{step_back, place_after}
use Rattle.book.specs.Lookup.{LastSet, lookup_of}
use Rattle.book.specs.Adding.{added_of, room_of}
use Rattle.booked.specs.OneList.{GoodExactly, CountsThem}
use Rattle.booked.specs.Stepping.{StepGives, StepNone, AfterAStep}
use Rattle.booked.specs.Lookups.{LastSheetWith, LookupRefuses}
use Rattle.booked.specs.Adding.{Adding, AddedTo, AddRefused, AddsIf}

pub record Settled : Type 0 where
  pub test : (test : List ℕ → Bool) → GoodExactly test → (b : List ℕ) → test b ≡ good_book b
  pub count : (count : List ℕ → Answer ℕ) → CountsThem count → (b : List ℕ) → count b ≡ count_of b
  pub step : (step : List ℕ → ℕ → Option Back) → StepGives step → StepNone step → (b : List ℕ) (place : ℕ) → step b place ≡ step_back b place
  pub next : (next : Option Back → ℕ → ℕ) → AfterAStep next → (r : Option Back) (place : ℕ) → next r place ≡ place_after r place
  pub look : (look : List ℕ → ℕ → Answer LastSet) → LookupRefuses look → LastSheetWith look → (b : List ℕ) (cell : ℕ) → look b cell ≡ lookup_of b cell
  pub add : (add : Adding) → AddsIf add → (room : List ℕ) (len : ℕ) (s : List ℕ) → add.answers room len s ≡ added_of room len s
  pub room : (add : Adding) → AddsIf add → AddedTo add → AddRefused add
      → (room : List ℕ) (len : ℕ) (s : List ℕ) → add.leaves room len s ≡ room_of room len s
