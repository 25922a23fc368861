-- What is promised of sheets beside the calls' contracts. proofs/Laws proves each.
-- Assumes nothing.
use Rattle.std.specs.Prelude.{◌≡◌, true, Result, List, ℕ, ◌<◌, ◌≤◌, length, get_or}
use Rattle.std.specs.Int.{w32}
use Rattle.std.proofs.Common.{to_z}
use Rattle.answer.specs.Answer.{answered}
use Rattle.content.specs.declared.Content.TheVariants.{Open, Day}
use Rattle.layout.specs.declared.Entry.{Entry}
use Rattle.answer.specs.declared.Refusal.{Refusal}
use Rattle.layout.specs.declared.Numbers.{Numbers}
use Rattle.layout.specs.Layout.{content_in}
use Rattle.sheet.specs.Good.{good}
use Rattle.sheet.specs.Reading.{Sheet, reading_of, said_read, no_entry, entry_at}

-- ---- a good sheet gives its entries, where they stand

-- kind 1 is open and never a day; kind 2 is a day and never open
pub data OpenOrDay (e : Entry) : Type 0 where
  is_open : e.kind ≡ 1 → content_in e ≡ Open → OpenOrDay e
  is_day : e.kind ≡ 2 → content_in e ≡ Day (to_z w32 e.day) → OpenOrDay e

pub record GoodEntry (cells : ℕ) (e : Entry) : Type 0 where
  pub cell_below : e.cell < cells
  pub open_or_day : OpenOrDay e

pub record EntriesStand (s : List ℕ) (sheet : Sheet) : Type 0 where
  pub count : length sheet.entries ≡ sheet.numbers.entries
  pub in_place : (k : ℕ) → k < sheet.numbers.entries → entry_at s k ≡ get_or sheet.entries k no_entry
  pub good_one : (k : ℕ) → k < sheet.numbers.entries → GoodEntry sheet.numbers.cells (entry_at s k)
  pub rise : (j k : ℕ) → j < k → k < sheet.numbers.entries → (entry_at s j).cell < (entry_at s k).cell

abbrev pub EntriesInPlace : Type 0
EntriesInPlace = (s : List ℕ) (sheet : Sheet) → reading_of s ≡ answered sheet → EntriesStand s sheet

-- 01's table: "sheet, bytes" from 12 to 396
abbrev pub GoodWithin : Type 0
GoodWithin = (s : List ℕ) → good s ≡ true → (12 ≤ length s) × (length s ≤ 396)

-- two different answers never say the same of the same bytes
abbrev pub ReadingsApart : Type 0
ReadingsApart = (s : List ℕ) (a b : Result Numbers Refusal) → said_read s a ≡ said_read s b → a ≡ b
