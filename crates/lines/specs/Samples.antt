-- Lines as 01 has them written, and what they say: one of each form, the greatest and least, and lines of other forms; on a shelf of
-- two desks. proofs/Samples.antt computes each.
-- Assumes nothing.
use Rattle.std.specs.Prelude.{◌≡◌, pos, negsuc}
use Rattle.std.proofs.Math.Option.{none, some}
use Prim.Native.String.{String}
use Rattle.content.specs.declared.Content.TheVariants.{Open, Day}
use Rattle.schedule.specs.Lines.{ended, cut}
use Rattle.schedule.specs.Start.{Start, start_in}
use Rattle.schedule.specs.Step.{writes, reads, sends, delivers, takes, Step, step_in}
use Rattle.text.specs.Text.{text}

abbrev pub SaysStep : String → Step → Type 0
SaysStep line step = step_in 2 (ended (text line)) ≡ some step

abbrev pub SaysNoStep : String → Type 0
SaysNoStep line = step_in 2 (ended (text line)) ≡ none

abbrev pub SaysStart : String → Start → Type 0
SaysStart line x = start_in (ended (text line)) ≡ some x

abbrev pub SaysNoStart : String → Type 0
SaysNoStart line = start_in (ended (text line)) ≡ none

-- "Line 1: desks, cells, mode letter (`s`, `c`, `k` for cache, `-` for default)"; "Steps: `w` desk cell day-or-`open`; `r` desk cell;
-- `s` desk; `d` sender receiver (sender's latest sheet, again if wanted); `t` desk."
pub record EachForm : Type 0 where
  pub start : SaysStart "3 5 s" (record { n = 3; m = 5; mode = 1 })
  pub write_day : SaysStep "w 1 4 7" (record { desk = 1; act = writes 4 (Day (pos 7)) })
  pub write_open : SaysStep "w 0 3 open" (record { desk = 0; act = writes 3 Open })
  pub read : SaysStep "r 1 0" (record { desk = 1; act = reads 0 })
  pub send : SaysStep "s 0" (record { desk = 0; act = sends })
  pub deliver : SaysStep "d 0 1" (record { desk = 1; act = delivers 0 })
  pub take : SaysStep "t 1" (record { desk = 1; act = takes })

pub record AtTheEdges : Type 0 where
  pub greatest_cell : SaysStep "r 0 4294967295" (record { desk = 0; act = reads 4294967295 })
  pub greatest_day : SaysStep "w 0 0 2147483647" (record { desk = 0; act = writes 0 (Day (pos 2147483647)) })
  pub least_day : SaysStep "w 0 0 -2147483648" (record { desk = 0; act = writes 0 (Day (negsuc 2147483647)) })
  pub greatest_start : SaysStart "4294967295 4294967295 k" (record { n = 4294967295; m = 4294967295; mode = 3 })
  pub least_start : SaysStart "0 0 c" (record { n = 0; m = 0; mode = 2 })
  pub default_mode : SaysStart "16 64 -" (record { n = 16; m = 64; mode = 0 })

pub record OtherForms : Type 0 where
  pub nothing_at_all : SaysNoStep ""
  pub two_spaces : SaysNoStep "r  0 0"
  pub space_in_front : SaysNoStep " r 0 0"
  pub space_behind : SaysNoStep "r 0 0 "
  pub a_word_more : SaysNoStep "s 0 0"
  pub a_word_less : SaysNoStep "r 0"
  pub leading_zero : SaysNoStep "r 0 01"
  pub number_beyond : SaysNoStep "r 0 4294967296"
  pub no_such_desk : SaysNoStep "r 2 0"
  pub minus_before_a_cell : SaysNoStep "r 0 -1"
  pub minus_before_0 : SaysNoStep "w 0 0 -0"
  pub day_beyond : SaysNoStep "w 0 0 2147483648"
  pub day_below : SaysNoStep "w 0 0 -2147483649"
  pub blank_is_no_word : SaysNoStep "w 0 0 blank"
  pub capital_letter : SaysNoStep "R 0 0"
  pub no_line_feed : step_in 2 (cut (text "r 0 0")) ≡ none

pub record OtherStarts : Type 0 where
  pub nothing_at_all : SaysNoStart ""
  pub two_spaces : SaysNoStart "2  2 s"
  pub a_word_more : SaysNoStart "2 2 s s"
  pub a_word_less : SaysNoStart "2 2"
  pub leading_zero : SaysNoStart "02 2 s"
  pub number_beyond : SaysNoStart "4294967296 2 s"
  pub minus_before_desks : SaysNoStart "-2 2 s"
  pub capital_letter : SaysNoStart "2 2 S"
  pub no_line_feed : start_in (cut (text "2 2 s")) ≡ none
