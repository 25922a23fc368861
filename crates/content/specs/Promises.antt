-- What is promised of contents and standings beside the calls' contracts. proofs/Laws proves each.
-- Assumes nothing.
use Rattle.std.specs.Prelude.{◌≡◌, true, false, not, ℤ, pos, negsuc}
use Rattle.std.proofs.Math.IntN.{suc_ℤ}
use Rattle.std.specs.Int.Signed.{lt_z}
use Rattle.content.specs.declared.Content.{Content}
use Rattle.content.specs.declared.Content.TheVariants.{Blank, Open, Day}
use Rattle.content.specs.declared.Standing.{Standing}
use Rattle.content.specs.Content.{kind_of, day_of, content_of}
use Rattle.content.specs.Standing.{left, standing_on, cleared, past, said_standing}

-- ---- "empty is not zero and not yesterday"

-- blank, open and a day never meet, day 0 among them
pub record NeverMeet : Type 0 where
  pub blank_is_not_open : Blank ≡ Open → ⊥
  pub blank_is_no_day : (d : ℤ) → Blank ≡ Day d → ⊥
  pub open_is_no_day : (d : ℤ) → Open ≡ Day d → ⊥

-- nor do the two numbers that stand for them: a content's kind and day make the content again
abbrev pub ContentAgain : Type 0
ContentAgain = (c : Content) → content_of (kind_of c) (day_of c) ≡ c

-- "treating kind 1 as a day of zero" is a slip: kind 1 is never a day, whatever stands in the day's place
abbrev pub Kind1IsNeverADay : Type 0
Kind1IsNeverADay = (d e : ℤ) → content_of 1 d ≡ Day e → ⊥

-- ---- standings

-- "0 days left is still cleared": so a day stands on the day itself
pub record OnTheDay (d : ℤ) : Type 0 where
  pub none_left : standing_on (Day d) d ≡ left (pos 0)
  pub still_cleared : cleared (standing_on (Day d) d) ≡ true
  pub not_past : past (standing_on (Day d) d) ≡ false

abbrev pub OnEachDay : Type 0
OnEachDay = (d : ℤ) → OnTheDay d

-- "below 0 is past": so it stands on the next
pub record OnTheNextDay (d : ℤ) : Type 0 where
  pub one_less : standing_on (Day d) (suc_ℤ d) ≡ left (negsuc 0)
  pub not_cleared : cleared (standing_on (Day d) (suc_ℤ d)) ≡ false
  pub is_past : past (standing_on (Day d) (suc_ℤ d)) ≡ true

abbrev pub OnEachNextDay : Type 0
OnEachNextDay = (d : ℤ) → OnTheNextDay d

-- a day is past exactly on the days after it, and cleared on all others
pub record PastAfter (d today : ℤ) : Type 0 where
  pub past_after : past (standing_on (Day d) today) ≡ lt_z d today
  pub else_cleared : cleared (standing_on (Day d) today) ≡ not (lt_z d today)

abbrev pub PastExactlyAfter : Type 0
PastExactlyAfter = (d today : ℤ) → PastAfter d today

-- a blank is neither cleared nor past, on any day; open is cleared on every day
pub record NoDay (today : ℤ) : Type 0 where
  pub blank_not_cleared : cleared (standing_on Blank today) ≡ false
  pub blank_not_past : past (standing_on Blank today) ≡ false
  pub open_cleared : cleared (standing_on Open today) ≡ true
  pub open_not_past : past (standing_on Open today) ≡ false

abbrev pub WithoutADay : Type 0
WithoutADay = (today : ℤ) → NoDay today

-- "exact in 64 bits": the greatest day on the least, and the least on the greatest
pub record BothEnds : Type 0 where
  pub greatest_on_least : standing_on (Day (pos 2147483647)) (negsuc 2147483647) ≡ left (pos 4294967295)
  pub least_on_greatest : standing_on (Day (negsuc 2147483647)) (pos 2147483647) ≡ left (negsuc 4294967294)

-- two different answers never say the same
abbrev pub StandingsApart : Type 0
StandingsApart = (a b : Standing) → said_standing a ≡ said_standing b → a ≡ b
