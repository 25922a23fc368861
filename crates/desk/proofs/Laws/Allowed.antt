-- What is so where a call is carried out: its rules, none of which applies, as facts with a name each, in 01's order. Whoever needs one asks for it
-- by that name, and not by its place in the list of rules.
--   SoundDesk, desk_says                                                                  a sound record, as its clauses
--   OpenAllowed, WriteAllowed, ReadAllowed, SendAllowed, DeliverAllowed, TakeAllowed
--   open_allows, write_allows, read_allows, send_allows, deliver_allows, take_allows      they are so where no rule applies
--   open_if, send_if, take_if                                                             and where they are so, none does
-- Assumes nothing.
use Prim.Native.Nat.{ℕ, ◌+◌, ◌*◌, ◌≤◌, ◌<◌}
use mathlib.Core.Path.{◌≡◌}
use mathlib.Core.Logic.{◌≢◌}
use mathlib.Core.Bool.{true, false, not}
use mathlib.Core.List.{List}
use lib.Dec.{eqb}
use lib.ListN.{length}
use borrow.Author.Tests.{eq-eqb, le-leb, lt-leb, le-ltb}
use Rattle.answer.specs.Promises.{Silent}
use Rattle.content.specs.declared.Content.{Content}
use Rattle.content.specs.Content.{kind_of}
use Rattle.numbers.specs.Limits.{within}
use Rattle.numbers.proofs.Tests.{tested}
use Rattle.layout.specs.Layout.{trailer_in, numbers_of}
use Rattle.sheet.specs.Good.{good}
use Rattle.sound.specs.Head.{turn_desk, own_turn, read_waits}
use Rattle.sound.proofs.Laws.Sound.{Sound, sound_says}
use Rattle.tray.specs.Tray.{free, sheet_at, holds_good}
use Rattle.pending.specs.Pending.{sheet_of}
use Rattle.refusals.specs.Rules.{last_turn}
use Rattle.refusals.proofs.Laws.Next.{Next, next_says, next_if}
use Rattle.desk.specs.declared.Desk.{Desk}
use Rattle.desk.specs.Calls.{sound, open_rules, write_rules, read_rules, send_rules, deliver_rules, take_rules}

-- a sound record, as its clauses
abbrev pub SoundDesk : Desk → Type 0
SoundDesk d = Sound d.head d.kind d.day d.pkind d.pday

pub desk_says : (d : Desk) → sound d ≡ true → SoundDesk d
desk_says d = sound_says {h = d.head} {kind = d.kind} {day = d.day} {pkind = d.pkind} {pday = d.pday}

pub record OpenAllowed (n m own mode : ℕ) : Type 0 where
  pub desks_least : 1 ≤ n
  pub desks_most : n ≤ 16
  pub cells_least : 1 ≤ m
  pub cells_most : m ≤ 64
  pub own_below : own < n
  pub mode_most : mode ≤ 3

pub open_allows : (n m own mode : ℕ) → Silent (open_rules n m own mode) → OpenAllowed n m own mode
open_allows n m own mode silent = search tested

pub open_if : (n m own mode : ℕ) → OpenAllowed n m own mode → Silent (open_rules n m own mode)
open_if n m own mode a =
    let desks : not (within 1 16 n) ≡ false = rw (le-leb 1 n a.desks_least, le-leb n 16 a.desks_most) in
    let cells : not (within 1 64 m) ≡ false = rw (le-leb 1 m a.cells_least, le-leb m 64 a.cells_most) in
    (desks, (cells, (lt-leb n own a.own_below, (le-ltb 3 mode a.mode_most, tt))))

module _ (d : Desk) where
  pub record WriteAllowed (cell : ℕ) (c : Content) : Type 0 where
    pub is_sound : sound d ≡ true
    pub cell_below : cell < d.head.m
    pub not_blank : kind_of c ≢ 0
    pub none_waits : read_waits d.head ≡ false

  pub write_allows : (cell : ℕ) (c : Content) → Silent (write_rules d cell c) → WriteAllowed cell c
  write_allows cell c silent = search tested

  pub record ReadAllowed (cell : ℕ) : Type 0 where
    pub is_sound : sound d ≡ true
    pub cell_below : cell < d.head.m
    pub none_waits : read_waits d.head ≡ false

  pub read_allows : (cell : ℕ) → Silent (read_rules d cell) → ReadAllowed cell
  read_allows cell silent = search tested

  pub record SendAllowed (buf : List ℕ) : Type 0 where
    pub is_sound : sound d ≡ true
    pub own_turn_lem : own_turn d.head ≡ true
    pub not_last : eqb d.head.turn last_turn ≡ false
    pub room : length (sheet_of d.head d.pkind d.pday) ≤ length buf

  pub send_allows : (buf : List ℕ) → Silent (send_rules d buf) → SendAllowed buf
  send_allows buf silent = search tested

  pub send_if : (buf : List ℕ) → SendAllowed buf → Silent (send_rules d buf)
  send_if buf a =
      (rw a.is_sound, (rw a.own_turn_lem, (a.not_last, (le-ltb (length buf) (length (sheet_of d.head d.pkind d.pday)) a.room, tt))))

  pub record DeliverAllowed (tray s : List ℕ) : Type 0 where
    pub is_sound : sound d ≡ true
    pub tray_fits_lem : length tray ≡ 398 * d.head.n
    pub sheet_good : good s ≡ true
    pub same_desks : (trailer_in s).desks ≡ d.head.n
    pub same_cells : (trailer_in s).cells ≡ d.head.m
    pub other_sender : (trailer_in s).sender ≢ d.head.own
    pub due : d.head.turn ≤ (trailer_in s).turn
    pub near : (trailer_in s).turn < d.head.turn + d.head.n
    pub place_free : free tray (trailer_in s).sender ≡ true

  pub deliver_allows : (tray s : List ℕ) → Silent (deliver_rules d tray s) → DeliverAllowed tray s
  deliver_allows tray s silent = search tested

  pub record TakeAllowed (tray : List ℕ) : Type 0 where
    pub is_sound : sound d ≡ true
    pub tray_fits_lem : length tray ≡ 398 * d.head.n
    pub elsewhere : own_turn d.head ≡ false
    pub not_last : eqb d.head.turn last_turn ≡ false
    pub not_free : free tray (turn_desk d.head) ≡ false
    pub holds_good_lem : holds_good tray (turn_desk d.head) ≡ true
    pub is_next : Next d.head (numbers_of (trailer_in (sheet_at tray (turn_desk d.head))))

  pub take_allows : (tray : List ℕ) → Silent (take_rules d tray) → TakeAllowed tray
  take_allows tray silent = search (next_says, tested)

  pub take_if : (tray : List ℕ) → TakeAllowed tray → Silent (take_rules d tray)
  take_if tray a =
      let h = d.head in
      let x = numbers_of (trailer_in (sheet_at tray (turn_desk h))) in
      (rw a.is_sound, (rw (eq-eqb (length tray) (398 * h.n) a.tray_fits_lem), (a.elsewhere, (a.not_last, (a.not_free, (rw (a.holds_good_lem, next_if h x a.is_next), tt))))))
