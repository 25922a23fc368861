-- A record is sound by its places: the clauses of `Sound` (crates/sound) that speak of a cell, of one cell at a time.
--   FairNumbers, numbers_are          the clauses on n, m, own number and mode
--   FairPlace, place_is               the clauses on one cell: its kind and day on the shelf, and those of its pending place
--   sound_by_places                   numbers, places and a waiting read that are as they should be make a sound record
--   blank_place                       every place of an array of blanks is blank
-- Assumes nothing.
use Prim.Native.Nat.{ℕ, ◌≤◌, ◌<◌}
use mathlib.Core.Path.{◌≡◌, refl}
use mathlib.Core.Bool.{Bool, true, false, cond}
use mathlib.Core.List.{List}
use lib.Dec.{ltb}
use lib.IntN.{ℤ}
use lib.ListN.{replicate, get_or, get_or-replicate}
use borrow.Author.Tests.{ltb-true}
use Rattle.cells.specs.Cells.{place_at, kind_at, day_at}
use Rattle.sound.specs.declared.Head.{Head}
use Rattle.sound.specs.Sound.{day_fits, sound_of}
use Rattle.sound.proofs.Laws.Sound.{Sound, Waiting, sound_if}

-- "n and m are within limits, own number below n, mode 1 to 3"
pub record FairNumbers (n m own mode : ℕ) : Type 0 where
  pub desks_least : 1 ≤ n
  pub desks_most : n ≤ 16
  pub cells_least : 1 ≤ m
  pub cells_most : m ≤ 64
  pub own_below : own < n
  pub mode_least : 1 ≤ mode
  pub mode_most : mode ≤ 3

-- cell i of a record with these cells and this mode: the kind k and the day d on the shelf, the kind p and the day q of its pending place
pub record FairPlace (m mode i k : ℕ) (d : ℤ) (p : ℕ) (q : ℤ) : Type 0 where
  pub kind_is : k ≤ 2
  pub pkind_is : p ≤ 2
  -- "day numbers are 0 unless the content is a day"
  pub day_fits_lem : day_fits k d ≡ true
  pub pday_fits : day_fits p q ≡ true
  -- "cells from m up are blank and not pending"
  pub blank_past : m ≤ i → (k ≡ 0) × (p ≡ 0)
  -- "a pending cell is not blank on the shelf"
  pub pending_shown : (p ≡ 0 → ⊥) → k ≡ 0 → ⊥
  -- "in modes 1 and 3 pending and shelf content agree"
  pub agree : (mode ≡ 2 → ⊥) → (p ≡ 0 → ⊥) → (p ≡ k) × (q ≡ d)

module _ {h : Head} {kind : List ℕ} {day : List ℤ} {pkind : List ℕ} {pday : List ℤ} where
  pub numbers_are : Sound h kind day pkind pday → FairNumbers h.n h.m h.own h.mode
  numbers_are s =
      record {
        desks_least = s.desks_least;
        desks_most = s.desks_most;
        cells_least = s.cells_least;
        cells_most = s.cells_most;
        own_below = s.own_below;
        mode_least = s.mode_least;
        mode_most = s.mode_most;
      }

  pub place_is : Sound h kind day pkind pday → (i : ℕ) → i < 64 → FairPlace h.m h.mode i (kind_at kind i) (day_at day i) (kind_at pkind i) (day_at pday i)
  place_is s i b =
      record {
        kind_is = s.kind_is i b;
        pkind_is = s.pkind_is i b;
        day_fits_lem = s.day_fits_lem i b;
        pday_fits = s.pday_fits i b;
        blank_past = s.blank_past i b;
        pending_shown = s.pending_shown i b;
        agree = λ m. s.agree m i b;
      }

pub sound_by_places : (h : Head) (kind : List ℕ) (day : List ℤ) (pkind : List ℕ) (pday : List ℤ) → FairNumbers h.n h.m h.own h.mode
    → ((i : ℕ) → i < 64 → FairPlace h.m h.mode i (kind_at kind i) (day_at day i) (kind_at pkind i) (day_at pday i))
    → ((h.wait ≡ 0 → ⊥) → Waiting h pkind) → sound_of h kind day pkind pday ≡ true
sound_by_places h kind day pkind pday numbers place waits =
    sound_if {h = h} {kind = kind} {day = day} {pkind = pkind} {pday = pday}
    (record {
      desks_least = numbers.desks_least;
      desks_most = numbers.desks_most;
      cells_least = numbers.cells_least;
      cells_most = numbers.cells_most;
      own_below = numbers.own_below;
      mode_least = numbers.mode_least;
      mode_most = numbers.mode_most;
      kind_is = λ i b. (place i b).kind_is;
      pkind_is = λ i b. (place i b).pkind_is;
      day_fits_lem = λ i b. (place i b).day_fits_lem;
      pday_fits = λ i b. (place i b).pday_fits;
      blank_past = λ i b. (place i b).blank_past;
      pending_shown = λ i b. (place i b).pending_shown;
      agree = λ m i b. (place i b).agree m;
      waits = waits;
    })

pub blank_place : {A : Type 0} (none : A) (i : ℕ) → place_at none (replicate 64 none) i ≡ none
unfolding place_at
blank_place none i = by_test (ltb i 64) refl
  where
    by_test : (t : Bool) → ltb i 64 ≡ t → cond t (get_or (replicate 64 none) i none) none ≡ none
    by_test true e = get_or-replicate 64 i none none (ltb-true i 64 e)
    by_test false e = refl
