-- Laws of `reading_of`, `said_read` and `entry_at` (specs/Reading.antt).
--   readings                     a set for `search`: what `read` knows at each of its returns, and what it then answers
--   good_read, bad_read          what reading gives, by `good` alone
--   said_good, said_bad          what a reading says of `good`
--   trailer_none, trailer_there  what `trailer_of` gives, by the length; trailers, a set with what a slice of all its bytes is
--   said_read_tells_apart : ReadingsApart (specs/Promises.antt)
--   entries_in_place : EntriesInPlace (specs/Promises.antt)
-- Assumes nothing.
use mathlib.Core.Path.{◌≡◌, refl, sym, ap, ◌∙◌, subst, subst⁻¹, subst₂}
use mathlib.Core.List.{List, [], ◌∷◌}
use mathlib.Core.Bool.{Bool, true, false, not, ◌&&◌}
use Prim.Native.Nat.{ℕ, zero, suc, ◌+◌, ◌*◌, ◌-◌, ◌<◌, ◌≤◌}
use native.Mathlib.Omega.{arith}
use native.Mathlib.Nat.{not-suc-le-zero, le_of_suc-le-suc}
use lib.ListN.{length, get_or, take}
use lib.Seq.{take_all}
use lib.Dec.{ltb}
use borrow.Author.Tests.{le-leb, lt-leb, ltb-true, ltb-false, not-true, not-false}
use Rattle.answer.specs.Answer.{refused, answered, ◌if◌}
use Rattle.answer.proofs.Laws.{answered_only_if}
use Rattle.layout.specs.declared.Entry.{Entry}
use Rattle.layout.specs.declared.Numbers.{Numbers}
use Rattle.layout.specs.declared.Trailer.{Trailer}
use Rattle.answer.specs.declared.Refusal.{Refusal}
use Rattle.answer.specs.declared.Refusal.TheVariants as refusal
use Rattle.answer.specs.Refusals.{refused_when}
use Rattle.answer.proofs.Refusals.{said_apart, when_went_on, when_refused}
use Rattle.std.specs.Prelude.{Result, Ok, Err}
use Rattle.layout.specs.Layout.{entries_of, trailer_in, numbers_of}
use Rattle.sheet.specs.Good.{every, next_above, rising, below, kind_and_day, good}
use Rattle.sheet.specs.Clauses.{good_trailer, good_entries, good_entries_in}
use Rattle.sheet.specs.Reading.{sheet_in, reading_of, said_read, no_trailer, trailer_at_end, no_entry, entry_at}
use Rattle.sheet.specs.Promises.{GoodEntry, EntriesStand, EntriesInPlace, ReadingsApart}
use Rattle.numbers.proofs.Tests.{tested}
use Rattle.layout.proofs.Laws.{entries_count, entry_of_entries}
use Rattle.sheet.proofs.Laws.Good.{good_is, too_short_is_bad, fair_trailer, good_length, good_entries_are, open_or_day}

-- ---- by good alone

module _ (s : List ℕ) where
  pub good_read : good s ≡ true → reading_of s ≡ answered (sheet_in s (numbers_of (trailer_in s)))
  unfolding reading_of
  good_read g = rw g

  pub bad_read : good s ≡ false → reading_of s ≡ refused 13
  unfolding reading_of
  bad_read g = rw g

-- ---- the trailer at the end

module _ (s : List ℕ) where
  pub trailer_none : length s < 12 → no_trailer ≡ trailer_at_end s
  unfolding trailer_at_end
  trailer_none h = rw (lt-leb 12 (length s) h)

  pub trailer_there : 12 ≤ length s → trailer_at_end s ≡ trailer_in s
  unfolding trailer_at_end
  trailer_there h = rw (le-leb 12 (length s) h)

-- bytes that are taken from the front to the end are all of them
pub all_of : (s : List ℕ) (k : ℕ) → length s ≤ k → take k s ≡ s
all_of s k h = take_all k s h

pub ruleset trailers = (trailer_none, trailer_there, all_of)

-- ---- as the code goes

-- what `read` knows of a test of its own: that the sheet may still be good, or that it is not
abbrev went_on : Bool → Type 0
went_on applies = Ok (tt {0}) ≡ refused_when refusal.SheetNotGood applies

abbrev stopped : Bool → Refusal → Type 0
stopped applies x = Err x ≡ refused_when refusal.SheetNotGood applies

module _ (s : List ℕ) where
  -- a test that applies
  refuses : (applies : Bool) → (applies ≡ true → good s ≡ false) → (x : Refusal) → stopped applies x → (r : Result Numbers Refusal) → r ≡ Err x → said_read s r ≡ reading_of s
  refuses applies bad x test r is =
      let found = when_refused refusal.SheetNotGood applies x test in
      rw (is, found.1) (sym (bad_read s (bad found.0)))

  pub read_short : (x : Refusal) → stopped (ltb (length s) 12) x → (r : Result Numbers Refusal) → r ≡ Err x → said_read s r ≡ reading_of s
  read_short x test r is = refuses (ltb (length s) 12) (λ short. too_short_is_bad s (ltb-true (length s) 12 short)) x test r is

  module _ (on : went_on (ltb (length s) 12)) (t : Trailer) (at_end : t ≡ trailer_at_end s) where
    long : 12 ≤ length s
    long = ltb-false (length s) 12 (when_went_on refusal.SheetNotGood (ltb (length s) 12) on)

    is : t ≡ trailer_in s
    is = at_end ∙ trailer_there s long

    good_by : good s ≡ good_trailer t (length s - 12) && good_entries t.cells (entries_of t.entries s)
    good_by = good_is s long ∙ ap (λ (x : Trailer). good_trailer x (length s - 12) && good_entries x.cells (entries_of x.entries s)) (sym is)

    module _ (g : Bool) (test : g ≡ good_trailer t (length s - 12)) where
      pub read_bad_trailer : (x : Refusal) → stopped (not g) x → (r : Result Numbers Refusal) → r ≡ Err x → said_read s r ≡ reading_of s
      read_bad_trailer x off r e = refuses (not g) (λ bad. good_by ∙ rw (← test, not-true g bad)) x off r e

      module _ (fair : went_on (not g)) where
        on_trailer : g ≡ true
        on_trailer = not-false g (when_went_on refusal.SheetNotGood (not g) fair)

        read_room : 6 * t.entries ≤ length s
        read_room = let f = fair_trailer t (length s - 12) (sym test ∙ on_trailer) in omega (arith, long)

        by_entries : good s ≡ good_entries t.cells (entries_of t.entries s)
        by_entries = good_by ∙ rw (← test, on_trailer)

        module _ (b : Bool) (tests : b ≡ good_entries_in s t.entries t.cells) where
          -- the entries have room before the trailer
          in_bytes : good s ≡ b
          in_bytes = by_entries ∙ sym (tests ∙ rw (le-leb (6 * t.entries) (length s) read_room))

          pub read_bad_entries : (x : Refusal) → stopped (not b) x → (r : Result Numbers Refusal) → r ≡ Err x → said_read s r ≡ reading_of s
          read_bad_entries x off r e = refuses (not b) (λ bad. in_bytes ∙ not-true b bad) x off r e

          pub read_good : went_on (not b) → (n : Numbers) → n ≡ numbers_of t → answered (sheet_in s n) ≡ reading_of s
          read_good all n numbers =
              ap (λ (x : Numbers). answered (sheet_in s x)) (numbers ∙ ap numbers_of is)
              ∙ sym (good_read s (in_bytes ∙ not-false b (when_went_on refusal.SheetNotGood (not b) all)))

pub ruleset readings = (read_short, read_bad_trailer, read_bad_entries, read_good)

-- ---- the answer

pub said_read_tells_apart : ReadingsApart
said_read_tells_apart s a b = said_apart (sheet_in s) (λ sheet. sheet.numbers) (λ n. refl) a b

-- ---- what a reading says of `good`

module _ (s : List ℕ) (r : Result Numbers Refusal) where
  pub said_good : (n : Numbers) → r ≡ Ok n → said_read s r ≡ reading_of s → (good s ≡ true) × (n ≡ numbers_of (trailer_in s))
  said_good n is said_answer = by_test (good s) refl
    where
      by_test : (g : Bool) → good s ≡ g → (good s ≡ true) × (n ≡ numbers_of (trailer_in s))
      by_test true g =
          let same : r ≡ Ok (numbers_of (trailer_in s)) = said_read_tells_apart s r (Ok (numbers_of (trailer_in s))) (said_answer ∙ good_read s g) in
          (g, cc)
      by_test false g = let e = bad_read s g in let z : ◌≡◌ {A = ℕ} 0 1 = cc in absurd (omega arith)

  pub said_bad : (x : Refusal) → r ≡ Err x → said_read s r ≡ reading_of s → good s ≡ false
  said_bad x is said_answer = by_test (good s) refl
    where
      by_test : (g : Bool) → good s ≡ g → good s ≡ false
      by_test true g = let e = good_read s g in let z : ◌≡◌ {A = ℕ} 0 1 = cc in absurd (omega arith)
      by_test false g = g

-- ---- entries where they stand

entry_in_place : (s : List ℕ) → good s ≡ true → (k : ℕ) → k < (trailer_in s).entries → entry_at s k ≡ get_or (entries_of (trailer_in s).entries s) k no_entry
entry_in_place s g k h =
    rw (le-leb (6 * k + 18) (length s) (omega (arith, good_length s g)))
    (sym (entry_of_entries (trailer_in s).entries k s no_entry h))

-- a test of every entry, at one of them
at_entry : (p : Entry → Bool) (es : List Entry) (k : ℕ) → k < length es → every p es ≡ true → p (get_or es k no_entry) ≡ true
at_entry p [] k h g = absurd (not-suc-le-zero h)
at_entry p (e ∷ es) zero h g = search tested
at_entry p (e ∷ es) (suc k) h g = at_entry p es k (le_of_suc-le-suc h) (search tested)

good_one : (s : List ℕ) → good s ≡ true → (k : ℕ) → k < (trailer_in s).entries → GoodEntry (trailer_in s).cells (entry_at s k)
good_one s g k h =
    let t = trailer_in s in
    let es = entries_of t.entries s in
    let tests = good_entries_are s g in
    let long : k < length es = omega (arith, entries_count t.entries s) in
    subst⁻¹ (GoodEntry t.cells) (entry_in_place s g k h)
    (record {
      cell_below = ltb-true _ _ (at_entry (below t.cells) es k long (search tested));
      open_or_day = open_or_day (get_or es k no_entry) (at_entry kind_and_day es k long (search tested));
    })

-- cells that rise strictly from one entry to the next do so from any entry to any later one
all_above : (c : ℕ) (es : List Entry) (k : ℕ) → k < length es → next_above c es ≡ true → rising es ≡ true → c < (get_or es k no_entry).cell
all_above c [] k h n r = absurd (not-suc-le-zero h)
all_above c (e ∷ es) zero h n r = ltb-true c e.cell n
all_above c (e ∷ es) (suc k) h n r =
    let first : c < e.cell = ltb-true c e.cell n in
    let later = all_above e.cell es k (le_of_suc-le-suc h) (search tested) (search tested) in
    omega arith

rise_from : (es : List Entry) (j k : ℕ) → j < k → k < length es → rising es ≡ true → (get_or es j no_entry).cell < (get_or es k no_entry).cell
rise_from [] j k l h r = absurd (not-suc-le-zero h)
rise_from (e ∷ es) j zero l h r = absurd (not-suc-le-zero l)
rise_from (e ∷ es) zero (suc k) l h r = all_above e.cell es k (le_of_suc-le-suc h) (search tested) (search tested)
rise_from (e ∷ es) (suc j) (suc k) l h r = rise_from es j k (le_of_suc-le-suc l) (le_of_suc-le-suc h) (search tested)

rise : (s : List ℕ) → good s ≡ true → (j k : ℕ) → j < k → k < (trailer_in s).entries → (entry_at s j).cell < (entry_at s k).cell
rise s g j k l h =
    let t = trailer_in s in
    let es = entries_of t.entries s in
    let rises : rising es ≡ true = search (good_entries_are s g, tested) in
    let before : j < t.entries = omega arith in
    let apart = rise_from es j k l (omega (arith, entries_count t.entries s)) rises in
    subst₂ (λ (a b : Entry). a.cell < b.cell) (sym (entry_in_place s g j before)) (sym (entry_in_place s g k h)) apart

pub entries_in_place : EntriesInPlace
unfolding reading_of
entries_in_place s sheet e =
    let carried_out = answered_only_if (13 if not (good s) ∷ []) (sheet_in s (numbers_of (trailer_in s))) sheet e in
    let g : good s ≡ true = not-false (good s) carried_out.0.0 in
    subst (EntriesStand s) carried_out.1
    (record { count = entries_count (trailer_in s).entries s; in_place = entry_in_place s g; good_one = good_one s g; rise = rise s g })
