-- 01, "A sheet and its trailer": "A tray has one place of 398 bytes per desk, in order: sheet length (2), sheet, zeros to the end. A free
-- place is all zeros; deliver counts it free if its first two bytes are zero, and overwrites all 398."
-- Assumes nothing.
use Rattle.std.specs.Prelude.{ℕ, ◌+◌, ◌*◌, ◌-◌, Bool, true, cond, ◌&&◌, List, [], ◌∷◌, ◌++◌, eqb, leb, length, take, drop, replicate}
use Rattle.numbers.specs.Numbers.{bytes, at2}
use Rattle.laying.specs.Laying.{laid_over}
use Rattle.answer.specs.Answer.{Answer, refused, answered}
use Rattle.layout.specs.declared.Numbers.{Numbers}
use Rattle.layout.specs.Layout.{trailer_in, numbers_of}
use Rattle.sheet.specs.Good.{good}
use Rattle.tray.specs.declared.Place.{Place}
use Rattle.tray.specs.declared.Place.TheVariants as place

-- where the place of desk q starts
abbrev pub place_start : ℕ → ℕ
place_start q = 398 * q

-- "sheet length (2)": its first two bytes
abbrev pub length_at : List ℕ → ℕ → ℕ
length_at tray q = at2 tray (place_start q)

-- "free if its first two bytes are zero"
abbrev pub free : List ℕ → ℕ → Bool
free tray q = eqb (length_at tray q) 0

-- "sheet", as long as the first two bytes say, and what follows it in the place
abbrev pub sheet_at : List ℕ → ℕ → List ℕ
sheet_at tray q = take (length_at tray q) (drop (place_start q + 2) tray)

abbrev pub rest_at : List ℕ → ℕ → List ℕ
rest_at tray q = take (396 - length_at tray q) (drop (place_start q + 2 + length_at tray q) tray)

abbrev pub zeros : List ℕ → Bool
zeros [] = true
zeros (b ∷ bs) = eqb b 0 && zeros bs

-- the tray has the place of desk q, and it holds a good sheet "followed by zeros" (01's table, 21)
unfoldable pub holds_good : List ℕ → ℕ → Bool
holds_good tray q =
    leb (place_start q + 398) (length tray)
    && leb (length_at tray q) 396
    && good (sheet_at tray q)
    && zeros (rest_at tray q)

-- what a look at the place of desk q finds: it is free; it holds a good sheet with these numbers; or neither
unfoldable pub place_of : List ℕ → ℕ → Place
place_of tray q =
    cond (free tray q) place.Free
    (cond (holds_good tray q) (place.Holds (numbers_of (trailer_in (sheet_at tray q)))) place.Spoilt)

-- what each case of the code's enum says: 20 "first two bytes of the turn desk's place are zero", 21, or the numbers of the sheet
abbrev pub said_place : Place → Answer Numbers
said_place place.Free = refused 20
said_place place.Spoilt = refused 21
said_place (place.Holds x) = answered x

-- "sheet length (2), sheet, zeros to the end"
abbrev pub place_bytes : List ℕ → List ℕ
place_bytes sheet = bytes 2 (length sheet) ++ sheet ++ replicate (396 - length sheet) 0

-- the tray with a sheet in the place of desk q, all 398 bytes of it; as it is where the sheet is longer than any sheet, or the tray
-- ends before the place does
unfoldable pub held_in : List ℕ → ℕ → List ℕ → List ℕ
held_in tray q sheet = cond (leb (length sheet) 396) (laid_over tray (place_start q) (place_bytes sheet)) tray

-- the tray with the place of desk q all zeros
unfoldable pub cleared_in : List ℕ → ℕ → List ℕ
cleared_in tray q = laid_over tray (place_start q) (replicate 398 0)
