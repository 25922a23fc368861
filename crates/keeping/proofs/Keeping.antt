-- What specs/Promises.antt states, and what proofs/Laws/Kept.antt does, from the laws of each call (proofs/Laws).
--   sends_fit : SendsFit, lent_stays_long : LentStaysLong          the bytes that are lent to a call
--   open_is_sound : OpenIsSound, keeps_sound : KeepsSound          a record is sound from its open on
--   keeps_fits : KeepsFits                                         and fits
--   numbers_stay : NumbersStay                                     n, m, own number and mode stay; the turn number goes up by 1 or stays
-- Assumes nothing.
use mathlib.Core.Path.{sym, ap, ◌∙◌, subst}
use Rattle.desk.specs.Calls.{sound}
use Rattle.desk.specs.Values.{DeskFits}
use Rattle.keeping.specs.Promises.{SendsFit, LentStaysLong}
use Rattle.keeping.proofs.Laws.Kept.{OpenIsSound, KeepsSound, KeepsFits, NumbersStay}
use Rattle.keeping.proofs.Laws.Open.{open_sound, open_fits}
use Rattle.keeping.proofs.Laws.Write.{write_sound, write_fits}
use Rattle.keeping.proofs.Laws.Read.{read_sound, read_fits}
use Rattle.keeping.proofs.Laws.Send.{send_sound, send_fits, sheet_fits, never_11, send_long}
use Rattle.keeping.proofs.Laws.Deliver.{deliver_same, deliver_long}
use Rattle.keeping.proofs.Laws.Take.{take_sound, take_fits, take_long}
use Rattle.keeping.proofs.Laws.Numbers.{write_numbers, read_numbers, send_numbers, take_numbers, write_turn, read_turn, send_turn, take_turn}

pub open_is_sound : OpenIsSound
open_is_sound = record { sound_record = open_sound; record_fits = open_fits }

pub keeps_sound : KeepsSound
keeps_sound =
    record {
      write = write_sound;
      read = read_sound;
      send = send_sound;
      deliver = λ d tray s fits e. ap sound (deliver_same d tray s) ∙ e;
      take = take_sound;
    }

pub keeps_fits : KeepsFits
keeps_fits =
    record {
      write = write_fits;
      read = read_fits;
      send = send_fits;
      deliver = λ d tray s fits. subst DeskFits (sym (deliver_same d tray s)) fits;
      take = take_fits;
    }

pub sends_fit : SendsFit
sends_fit = record { sheet_most = sheet_fits; never_11 = never_11 }

pub lent_stays_long : LentStaysLong
lent_stays_long = record { send = send_long; deliver = deliver_long; take = take_long }

pub numbers_stay : NumbersStay
numbers_stay =
    record {
      write = write_numbers;
      read = read_numbers;
      send = send_numbers;
      deliver = deliver_same;
      take = take_numbers;
      write_turn = write_turn;
      read_turn = read_turn;
      send_turn = send_turn;
      take_turn = take_turn;
    }
