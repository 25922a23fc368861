-- When a desk's sheet is good, and that it then reads back as what the desk has pending.
--   pending_every                         a test that holds of every pending entry
--   FairPlaces, pending_good              places that are blank, open or a day, and blank from m up: their entries are good
--   Days32, pending_days                  days of 32 bits have room in four bytes
--   FairHead, sheet_is_good               a desk whose turn it is and whose numbers are within limits: its sheet is good
--   sheet_reads_back                      and gives back the entries and the desk's numbers
-- Assumes nothing.
use mathlib.Core.Path.{◌≡◌, refl, ap, ◌∙◌}
use mathlib.Core.Bool.{Bool, true, false, cond}
use mathlib.Core.List.{List, [], ◌∷◌, ◌++◌, append-nil}
use Prim.Native.Nat.{ℕ, zero, suc, ◌*◌, ◌%◌, ◌<◌, ◌≤◌}
use native.Mathlib.Omega.{arith}
use lib.Dec.{eqb, ltb}
use lib.IntN.{ℤ, pos}
use lib.ListN.{length}
use mir.Syntax.{w32}
use mir.Val.{SFits}
use mir.Facts.{Fits-of_z}
use borrow.Author.Tests.{lt-ltb, le-leb, eq-eqb, ltb-false, eqb-true, eqb-false, not-true}
use Rattle.answer.specs.Answer.{answered}
use Rattle.numbers.proofs.Tests.{tested}
use Rattle.cells.specs.Cells.{kind_at, day_at, filled}
use Rattle.sound.specs.declared.Head.{Head}
use Rattle.layout.specs.declared.Entry.{Entry}
use Rattle.layout.specs.declared.Trailer.{Trailer}
use Rattle.layout.specs.Layout.{trailer_bytes, numbers_of, trailer_for}
use Rattle.layout.specs.Values.{DaysFit, no_days, a_day}
use Rattle.layout.proofs.Laws.{TrailerFits, entries_back, trailer_back}
use Rattle.sheet.specs.Good.{every, rising, below, kind_and_day, good}
use Rattle.sheet.specs.Clauses.{good_trailer, good_entries}
use Rattle.sheet.specs.Reading.{sheet_in, reading_of}
use Rattle.sheet.proofs.Laws.Good.{sheet_good}
use Rattle.sheet.proofs.Laws.Reading.{good_read}
use Rattle.pending.specs.Pending.{entry_in, pending_below, pending_entries, numbers_for, sheet_of}
use Rattle.pending.proofs.Laws.Entries.{pending_most}

-- ---- entries behind entries

every_behind : (p : Entry → Bool) (es fs : List Entry) → every p es ≡ true → every p fs ≡ true → every p (es ++ fs) ≡ true
every_behind p [] fs a b = b
every_behind p (e ∷ es) fs a b = let here : p e ≡ true = search tested in rw here (every_behind p es fs (search tested) b)

rising_behind : (es : List Entry) (e : Entry) → rising es ≡ true → every (below e.cell) es ≡ true → rising (es ++ (e ∷ [])) ≡ true
rising_behind [] e r b = refl
rising_behind (x ∷ []) e r b = let under : below e.cell x ≡ true = search tested in rw under
rising_behind (x ∷ y ∷ es) e r b =
    let rise : ltb x.cell y.cell ≡ true = search tested in
    rw rise (rising_behind (y ∷ es) e (search tested) (search tested))

days_behind : {es fs : List Entry} → DaysFit es → DaysFit fs → DaysFit (es ++ fs)
days_behind no_days g = g
days_behind (a_day h f) g = a_day h (days_behind f g)

-- the days in the places have 32 bits, as they have in every value of the code
abbrev pub Days32 : List ℤ → Type 0
Days32 pday = (i : ℕ) → i < 64 → SFits w32 (day_at pday i)

module _ (pkind : List ℕ) (pday : List ℤ) where
  -- ---- every pending entry

  pub pending_every : (p : Entry → Bool) (n : ℕ) → ((i : ℕ) → i < n → filled pkind i ≡ true → p (entry_in pkind pday i) ≡ true) → every p (pending_below pkind pday n) ≡ true
  unfolding pending_below
  pending_every p zero f = refl
  pending_every p (suc n) f =
      every_behind p (pending_below pkind pday n) (cond (filled pkind n) (entry_in pkind pday n ∷ []) []) (pending_every p n (λ i h. f i (omega arith))) (last (filled pkind n) refl)
    where
      last : (t : Bool) → filled pkind n ≡ t → every p (cond t (entry_in pkind pday n ∷ []) []) ≡ true
      last true e = rw (f n (omega arith) e)
      last false e = refl

  -- they stand in the order of the cells
  pending_rise : (n : ℕ) → rising (pending_below pkind pday n) ≡ true
  unfolding pending_below
  pending_rise zero = refl
  pending_rise (suc n) = last (pending_rise n) (filled pkind n)
    where
      last : rising (pending_below pkind pday n) ≡ true → (t : Bool) → rising (pending_below pkind pday n ++ cond t (entry_in pkind pday n ∷ []) []) ≡ true
      last r true = rising_behind (pending_below pkind pday n) (entry_in pkind pday n) r (pending_every (below n) n (λ i h e. lt-ltb i n h))
      last r false = rw append-nil r

  -- ---- good entries

  -- each place is blank, open or a day; the day of an open one is 0; from m up the places are blank
  pub record FairPlaces (m : ℕ) : Type 0 where
    pub kinds : (i : ℕ) → i < 64 → kind_at pkind i ≤ 2
    pub opens : (i : ℕ) → i < 64 → kind_at pkind i ≡ 1 → day_at pday i ≡ pos 0
    pub blanks : (i : ℕ) → i < 64 → m ≤ i → kind_at pkind i ≡ 0

  module _ (m : ℕ) (fair : FairPlaces m) (i : ℕ) (h : i < 64) (f : filled pkind i ≡ true) where
    some_kind : kind_at pkind i ≡ 0 → ⊥
    some_kind = eqb-false (kind_at pkind i) 0 (not-true (eqb (kind_at pkind i) 0) f)

    cell_below : below m (entry_in pkind pday i) ≡ true
    cell_below = by_test (ltb i m) refl
      where
        by_test : (t : Bool) → ltb i m ≡ t → t ≡ true
        by_test true e = refl
        by_test false e = absurd (some_kind (fair.blanks i h (ltb-false i m e)))

    open_or_a_day : kind_and_day (entry_in pkind pday i) ≡ true
    open_or_a_day = by_test (eqb (kind_at pkind i) 2) refl
      where
        by_test : (t : Bool) → eqb (kind_at pkind i) 2 ≡ t → kind_and_day (entry_in pkind pday i) ≡ true
        by_test true e = rw (eqb-true (kind_at pkind i) 2 e)
        by_test false e =
            let other = eqb-false (kind_at pkind i) 2 e in
            let one : kind_at pkind i ≡ 1 = omega (arith, fair.kinds i h, some_kind) in
            rw (one, fair.opens i h one)

  pub pending_good : (m : ℕ) → FairPlaces m → good_entries m (pending_entries pkind pday) ≡ true
  pending_good m fair =
      rw (pending_rise 64, pending_every (below m) 64 (cell_below m fair), pending_every kind_and_day 64 (open_or_a_day m fair))

  -- ---- days

  below_days : Days32 pday → (n : ℕ) → n ≤ 64 → DaysFit (pending_below pkind pday n)
  unfolding pending_below
  below_days fit zero h = no_days
  below_days fit (suc n) h = days_behind (below_days fit n (omega arith)) (last (filled pkind n))
    where
      last : (t : Bool) → DaysFit (cond t (entry_in pkind pday n ∷ []) [])
      last true = a_day (Fits-of_z (fit n (omega arith))).fits no_days
      last false = no_days

  pub pending_days : Days32 pday → DaysFit (pending_entries pkind pday)
  pending_days fit = below_days fit 64 (omega arith)

-- ---- the sheet

-- numbers within limits, and the turn is the desk's own
pub record FairHead (h : Head) : Type 0 where
  pub desks_least : 1 ≤ h.n
  pub desks_most : h.n ≤ 16
  pub cells_least : 1 ≤ h.m
  pub cells_most : h.m ≤ 64
  pub own_below : h.own < h.n
  pub turn_most : h.turn ≤ 4294967294
  pub turn_is_own : h.turn % h.n ≡ h.own

module _ (h : Head) (pkind : List ℕ) (pday : List ℤ) (head : FairHead h) (fair : FairPlaces pkind pday h.m) (fit : Days32 pday) where
  abbrev es : List Entry
  es = pending_entries pkind pday

  abbrev t : Trailer
  t = trailer_for (numbers_for h (length es))

  trailer_fits : TrailerFits t
  trailer_fits = record { distance = omega (arith, pending_most pkind pday); turn = omega (arith, head.turn_most) }

  trailer_good : good_trailer t (6 * length es) ≡ true
  trailer_good =
      rw (eq-eqb (6 * length es) (6 * length es) refl, le-leb 1 h.n head.desks_least, le-leb h.n 16 head.desks_most, le-leb 1 h.m head.cells_least, le-leb h.m 64 head.cells_most, lt-ltb h.own h.n head.own_below, le-leb h.turn 4294967294 head.turn_most, eq-eqb (h.turn % h.n) h.own head.turn_is_own)

  pub sheet_is_good : good (sheet_of h pkind pday) ≡ true
  unfolding sheet_of
  sheet_is_good =
      sheet_good es t trailer_fits (pending_days pkind pday fit) refl trailer_good ∙ pending_good pkind pday h.m fair

  pub sheet_reads_back : reading_of (sheet_of h pkind pday) ≡ answered (record { numbers = numbers_for h (length es); entries = es })
  unfolding sheet_of
  sheet_reads_back =
      good_read (sheet_of h pkind pday) sheet_is_good
      ∙ ap (λ (x : Trailer). answered (sheet_in (sheet_of h pkind pday) (numbers_of x))) (trailer_back es t trailer_fits)
      ∙ ap (λ (l : List Entry). answered (record { numbers = numbers_for h (length es); entries = l })) (entries_back (pending_days pkind pday fit) (trailer_bytes t))
