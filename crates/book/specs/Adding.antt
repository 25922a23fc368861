-- 02, K1: "A sheet is added at the end; other bytes stay." "when adding, 13, then 23 for the book
-- as it would become or a length beyond its room, then 11 for room."
-- Assumes nothing.
use Rattle.std.specs.Prelude.{◌≡◌, ℕ, ◌+◌, ◌-◌, not, ◌||◌, List, [], ◌∷◌, ◌++◌, ltb, length, take, drop, Result}
use Rattle.answer.specs.Answer.{Answer, Rule, ◌if◌, answer, leaves}
use Rattle.answer.specs.declared.Refusal.{Refusal}
use Rattle.answer.specs.Refusals.{said}
use Rattle.sheet.specs.Good.{good}
use Rattle.book.specs.Good.{good_book}

-- "the book as it would become": the book of this length at the room's front, and the sheet behind
-- it, whether it has room there or not
abbrev pub becomes : List ℕ → ℕ → List ℕ → List ℕ
becomes room len s = take len room ++ s

-- "13, then 23 for the book as it would become or a length beyond its room, then 11 for room"
abbrev pub add_rules : List ℕ → ℕ → List ℕ → List Rule
add_rules room len s =
    13 if not (good s) ∷ 23 if (ltb (length room) len || not (good_book (becomes room len s))) ∷ 11 if ltb (length room - len) (length s) ∷ []

-- the answer: the book's new length
unfoldable pub added_of : List ℕ → ℕ → List ℕ → Answer ℕ
added_of room len s = answer (add_rules room len s) (len + length s)

-- the room afterwards: the book as it became, and the bytes past it as they were
unfoldable pub room_of : List ℕ → ℕ → List ℕ → List ℕ
room_of room len s = leaves (add_rules room len s) room (becomes room len s ++ drop (len + length s) room)

-- what the code's answer says
abbrev pub said_added : Result ℕ Refusal → Answer ℕ
said_added = said (λ n. n)

-- a call that found the room `before`, left it as `after` and answered r
pub record Adds (before : List ℕ) (len : ℕ) (s : List ℕ) (r : Result ℕ Refusal) (after : List ℕ) : Type 0 where
  pub answers : said_added r ≡ added_of before len s
  pub room : after ≡ room_of before len s
