-- What no list of rules may have: the laws of the rules of a desk's calls (crates/refusals/proofs/Laws/Rules.antt) say that theirs have not.
-- Nobody need believe it.
-- Assumes nothing.
use Rattle.std.specs.Prelude.{◌<◌, List, [], ◌∷◌}
use Rattle.answer.specs.Answer.{Rule}

-- no rule has the number 0: a pair for each rule, in their order
abbrev pub Numbered : List Rule → Type 0
Numbered [] = Unit {0}
Numbered (r ∷ rs) = (0 < r.number) × Numbered rs
