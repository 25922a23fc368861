-- 01, "Send": "Writes one sheet with every pending entry, an empty sheet if there are none .. Bytes of the lent buffer past the sheet stay."
-- 11 is "buffer shorter than the sheet".
-- Assumes nothing.
use Rattle.std.specs.Prelude.{◌≡◌, ℕ, zero, suc, cond, Result, List, [], ◌∷◌, ◌++◌, ltb, ℤ, length, drop}
use Rattle.std.specs.Int.{w32}
use Rattle.std.proofs.Common.{of_z}
use Rattle.answer.specs.Answer.{Answer, Rule, ◌if◌, answer, leaves}
use Rattle.answer.specs.declared.Refusal.{Refusal}
use Rattle.answer.specs.Refusals.{said}
use Rattle.cells.specs.Cells.{kind_at, day_at, filled}
use Rattle.sound.specs.declared.Head.{Head}
use Rattle.layout.specs.declared.Entry.{Entry}
use Rattle.layout.specs.declared.Numbers.{Numbers}
use Rattle.layout.specs.Layout.{sheet_bytes, trailer_for}

-- the entry of a cell's pending place: its kind and its day
abbrev pub entry_in : List ℕ → List ℤ → ℕ → Entry
entry_in pkind pday i = record { cell = i; kind = kind_at pkind i; day = of_z w32 (day_at pday i) }

-- the pending entries of the cells below n, in the order of the cells
unfoldable pub pending_below : List ℕ → List ℤ → ℕ → List Entry
pending_below pkind pday zero = []
pending_below pkind pday (suc n) = pending_below pkind pday n ++ cond (filled pkind n) (entry_in pkind pday n ∷ []) []

-- "every pending entry"
abbrev pub pending_entries : List ℕ → List ℤ → List Entry
pending_entries pkind pday = pending_below pkind pday 64

-- the numbers of the desk's sheet: it is the sender
abbrev pub numbers_for : Head → ℕ → Numbers
numbers_for h n = record { entries = n; sender = h.own; desks = h.n; cells = h.m; turn = h.turn }

-- the sheet of a desk with these pending places
unfoldable pub sheet_of : Head → List ℕ → List ℤ → List ℕ
sheet_of h pkind pday =
    let es = pending_entries pkind pday in
    sheet_bytes es (trailer_for (numbers_for h (length es)))

-- 11: "buffer shorter than the sheet"
abbrev pub room_rules : List ℕ → List ℕ → List Rule
room_rules sheet buf = 11 if ltb (length buf) (length sheet) ∷ []

-- the answer: the number of entries
unfoldable pub entries_sent : Head → List ℕ → List ℤ → List ℕ → Answer ℕ
entries_sent h pkind pday buf = answer (room_rules (sheet_of h pkind pday) buf) (length (pending_entries pkind pday))

-- the buffer afterwards: the sheet, and the bytes past it as they were
unfoldable pub buffer_with : Head → List ℕ → List ℤ → List ℕ → List ℕ
buffer_with h pkind pday buf =
    let sheet = sheet_of h pkind pday in
    leaves (room_rules sheet buf) buf (sheet ++ drop (length sheet) buf)

-- what the code's answer says
abbrev pub said_sent : Result ℕ Refusal → Answer ℕ
said_sent r = said (λ n. n) r

-- a call that found the buffer `before`, left it as `after` and answered r
pub record Sends (h : Head) (pkind : List ℕ) (pday : List ℤ) (before : List ℕ) (r : Result ℕ Refusal) (after : List ℕ) : Type 0 where
  pub answers : said_sent r ≡ entries_sent h pkind pday before
  pub buffer : after ≡ buffer_with h pkind pday before
