-- answers_apart : AnswersApart (specs/Promises.antt).
-- Assumes nothing.
use mathlib.Core.Path.{◌≡◌, refl}
use Rattle.std.specs.Prelude.{Option, Some, None}
use Rattle.answer.proofs.Refusals.{said_apart}
use Rattle.book.specs.declared.Found.{Found}
use Rattle.book.specs.Lookup.{last_set}
use Rattle.book.specs.Parts.{found_of}
use Rattle.book.specs.Promises.{AnswersApart}

found_again : (found : Option Found) → found_of (last_set found) ≡ found
found_again None = refl
found_again (Some found) = refl

pub answers_apart : AnswersApart
answers_apart =
    record {
      counts = said_apart (λ n. n) (λ n. n) (λ n. refl);
      founds = said_apart last_set found_of found_again;
      addings = said_apart (λ n. n) (λ n. n) (λ n. refl);
    }
