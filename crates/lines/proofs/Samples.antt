-- Lines as 01 has them written (specs/Samples.antt), each by computing.
--   each_form_reads : EachForm, edges_read : AtTheEdges, other_forms : OtherForms, other_starts : OtherStarts
-- Assumes nothing.
use mathlib.Core.Path.{refl}
use Rattle.text.specs.Separated.{parts}
use Rattle.text.specs.Decimal.{is_decimal, value_from, value}
use Rattle.schedule.specs.Words.{is, is_number, is_desk, is_day_word, day_of_word, is_content_word, content_of_word}
use Rattle.schedule.specs.Start.{mode_in, start_in}
use Rattle.schedule.specs.Step.{step_in}
use Rattle.lines.specs.Samples.{EachForm, AtTheEdges, OtherForms, OtherStarts}

pub each_form_reads : EachForm
unfolding parts is_decimal value_from value is is_number is_desk is_day_word day_of_word is_content_word content_of_word mode_in start_in step_in
each_form_reads = record { start = refl; write_day = refl; write_open = refl; read = refl; send = refl; deliver = refl; take = refl }

pub edges_read : AtTheEdges
unfolding parts is_decimal value_from value is is_number is_desk is_day_word day_of_word is_content_word content_of_word mode_in start_in step_in
edges_read =
    record { greatest_cell = refl; greatest_day = refl; least_day = refl; greatest_start = refl; least_start = refl; default_mode = refl }

pub other_forms : OtherForms
unfolding parts is_decimal value_from value is is_number is_desk is_day_word day_of_word is_content_word content_of_word step_in
other_forms =
    record {
      nothing_at_all = refl;
      two_spaces = refl;
      space_in_front = refl;
      space_behind = refl;
      a_word_more = refl;
      a_word_less = refl;
      leading_zero = refl;
      number_beyond = refl;
      no_such_desk = refl;
      minus_before_a_cell = refl;
      minus_before_0 = refl;
      day_beyond = refl;
      day_below = refl;
      blank_is_no_word = refl;
      capital_letter = refl;
      no_line_feed = refl;
    }

pub other_starts : OtherStarts
unfolding parts is_decimal value_from value is is_number mode_in start_in
other_starts =
    record {
      nothing_at_all = refl;
      two_spaces = refl;
      a_word_more = refl;
      a_word_less = refl;
      leading_zero = refl;
      number_beyond = refl;
      minus_before_desks = refl;
      capital_letter = refl;
      no_line_feed = refl;
    }
