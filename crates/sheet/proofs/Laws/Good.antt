-- Laws of `good` (specs/Good.antt) and of its parts (specs/Parts.antt).
--   SoFar, begun, turned, ended              a loop over entries, wherever they stand
--   goes_on, stops                           a loop that stops where an entry is not good
--   mapped, same_in_32                       what entries are read from, and as they are on the line
--   sixes_good                               the first entries of bytes, as the code cuts them
--   good_is, too_short_is_bad                good is its two parts; fewer than 12 bytes are no sheet
--   fair_trailer                             a good trailer's clauses as facts
--   good_is_long, good_trailer_is_fair, good_entries_are, good_length, good_within    what a good sheet is known to be
--   few_entries                              no more entries than cells
--   sheet_bad, sheet_good                    the bytes of values are good exactly if the values are
--   open_or_day                              contents in entries
-- Assumes nothing.
use mathlib.Core.Path.{subst, ◌≡◌, refl, sym, ap, ◌∙◌}
use mathlib.Core.List.{List, [], ◌∷◌, ◌++◌}
use mathlib.Core.Bool.{Bool, true, false, ◌&&◌, and-true, and_assoc, or-false, false≢true}
use Prim.Native.Nat.{ℕ, zero, suc, ◌+◌, ◌*◌, ◌/◌, ◌-◌, ◌%◌, ◌<◌, ◌≤◌}
use native.Mathlib.Omega.{arith}
use native.Mathlib.Numerals.{add-one}
use lib.ListN.{length, get_or, take, drop, drop_of_length-le}
use Rattle.std.proofs.lemmas.List.{get_or-map, drop-take}
use lib.Seq.{length-take-le, take-take, drop-cons, take-suc}
use lib.Dec.{eqb, leb, ltb}
use borrow.Author.Tests.{le-leb, lt-leb, eqb-true, leb-true, leb-false}
use mir.Syntax.{w32}
use mir.Val.{to_z}
use Rattle.std.specs.Simd.{first_chunks}
use Rattle.std.specs.Prelude.{map}
use Rattle.content.specs.Content.{content_of}
use Rattle.layout.specs.declared.Entry.{Entry}
use Rattle.layout.specs.declared.Trailer.{Trailer}
use Rattle.layout.specs.Layout.{trailer_bytes, sheet_bytes, entry_of, entries_of, trailer_in}
use Rattle.numbers.specs.Limits.{desks_within, cells_within}
use Rattle.numbers.proofs.Tests.{and_split, tested}
use Rattle.sheet.specs.Good.{every, next_above, rising, below, kind_and_day, good}
use Rattle.sheet.specs.Promises.{OpenOrDay, is_open, is_day}
use Rattle.layout.specs.Values.{DaysFit}
use Rattle.sheet.specs.Reading.{no_entry}
use Rattle.sheet.specs.Promises.{GoodWithin}
use Rattle.sheet.specs.Clauses.{good_trailer, good_entry, good_entries, good_entries_in, in_32_bits}
use Rattle.sheet.proofs.Laws.Bools.{in_any_order}
use Rattle.layout.proofs.Laws.{entries_count, sheet_length, TrailerFits, entries_back, trailer_back}

-- ---- the entries, as a loop goes

-- the first of these entries, if there is one, has a cell from `least` on
abbrev not_below : ℕ → List Entry → Bool
not_below least [] = true
not_below least (e ∷ es) = leb least e.cell

abbrev pub good_from : ℕ → ℕ → List Entry → Bool
good_from cells least [] = true
good_from cells least (e ∷ es) = good_entry cells least e && good_from cells (e.cell + 1) es

above_is : (c : ℕ) (es : List Entry) → next_above c es ≡ not_below (c + 1) es
above_is c [] = refl
above_is c (e ∷ es) = rw add-one

-- tests entry by entry are the same as tests kind by kind
by_kind_of_test : (least low fine next rise lows fines : Bool) → least && low && fine && (next && (rise && lows && fines)) ≡ least && (next && rise && (low && lows) && (fine && fines))
by_kind_of_test least low fine next rise lows fines = simp in_any_order

from_is : (cells least : ℕ) (es : List Entry) → good_from cells least es ≡ not_below least es && good_entries cells es
from_is cells least [] = refl
from_is cells least (e ∷ es) =
    rw (from_is cells (e.cell + 1) es, ← (above_is e.cell es))
    (by_kind_of_test (leb least e.cell) (below cells e) (kind_and_day e) (next_above e.cell es) (rising es) (every (below cells) es) (every kind_and_day es))

-- ---- a loop over entries: what is tested so far, and the rest, is the whole

none_below : (es : List Entry) → not_below 0 es ≡ true
none_below [] = refl
none_below (e ∷ es) = le-leb 0 e.cell (omega arith)

pub record SoFar (es : List Entry) (cells : ℕ) (ok : Bool) (least i : ℕ) : Type 0 where
  pub within_es : i ≤ length es
  pub whole : good_entries cells es ≡ ok && good_from cells least (drop i es)

module _ (es : List Entry) (cells : ℕ) where
  pub begun : SoFar es cells true 0 0
  begun = record { within_es = omega arith; whole = sym (from_is cells 0 es ∙ rw (none_below es)) }

  module _ (ok : Bool) (least i : ℕ) (so : SoFar es cells ok least i) where
    pub turned : i < length es → (e : Entry) (g : Bool) → e ≡ get_or es i no_entry → g ≡ good_entry cells least e → (c : ℕ) → c ≡ e.cell → SoFar es cells (ok && g) (c + 1) (i + 1)
    turned h e g is test c cell =
        record {
          within_es = omega arith;
          whole =
              so.whole
              ∙ ap (λ (l : List Entry). ok && good_from cells least l) (drop-cons es i no_entry h)
              ∙ ap (λ (x : Entry). ok && (good_entry cells least x && good_from cells (x.cell + 1) (drop (suc i) es))) (sym is)
              ∙ rw (← test, ← (add-one i), ← cell) (sym (and_assoc ok g _));
        }

    pub ended : length es ≤ i → ok ≡ good_entries cells es
    ended h = sym (so.whole ∙ rw (drop_of_length-le es h) (and-true ok))

pub one_more : (es : List Entry) (i : ℕ) → i < length es → take (i + 1) es ≡ take i es ++ (get_or es i no_entry ∷ [])
one_more es i h = rw add-one (take-suc es i no_entry h)

-- an element of what entries are read from
pub mapped : {X : Type 0} (f : X → Entry) (xs : List X) (i : ℕ) (x : X) → x ≡ get_or xs i x → i < length xs → f x ≡ get_or (map f xs) i no_entry
mapped f xs i x is h = ap f is ∙ sym (get_or-map f xs i x no_entry h)

-- a loop that stops where an entry is not good
module _ (es : List Entry) (cells least i : ℕ) (so : SoFar es cells true least i) where
  module _ (h : i < length es) (e : Entry) (is : e ≡ get_or es i no_entry) (g : Bool) (test : g ≡ good_entry cells least e) where
    pub goes_on : g ≡ true → (c : ℕ) → c ≡ e.cell → SoFar es cells true (c + 1) (i + 1)
    goes_on on c cell = subst (λ (t : Bool). SoFar es cells t (c + 1) (i + 1)) on (turned es cells true least i so h e g is test c cell)

    pub stops : g ≡ false → false ≡ good_entries cells es
    stops off = sym ((turned es cells true least i so h e g is test e.cell refl).whole ∙ rw off refl)

-- an entry whose day has 32 bits, and where it stands
pub same_in_32 : (e : Entry) → e.day < 4294967296 → in_32_bits e ≡ e
same_in_32 e h = let day : e.day % 4294967296 ≡ e.day = omega arith in ap (λ (d : ℕ). record { cell = e.cell; kind = e.kind; day = d }) day

pub there_in_32 : (es : List Entry) (i : ℕ) (e : Entry) → e ≡ get_or es i no_entry → e.day < 4294967296 → i < length es → e ≡ get_or (map in_32_bits es) i no_entry
there_in_32 es i e is day h = sym (get_or-map in_32_bits es i no_entry no_entry h ∙ ap in_32_bits (sym is) ∙ same_in_32 e day)

-- ---- the first n entries of bytes, in sixes

pub entry_of_six : (l : List ℕ) → entry_of (take 6 l) ≡ entry_of l
entry_of_six [] = refl
entry_of_six (a ∷ []) = refl
entry_of_six (a ∷ b ∷ []) = refl
entry_of_six (a ∷ b ∷ c ∷ []) = refl
entry_of_six (a ∷ b ∷ c ∷ d ∷ []) = refl
entry_of_six (a ∷ b ∷ c ∷ d ∷ e ∷ []) = refl
entry_of_six (a ∷ b ∷ c ∷ d ∷ e ∷ f ∷ l) = refl

sixes_are : (n : ℕ) (s : List ℕ) → map entry_of (first_chunks 6 n (take (6 * n) s)) ≡ entries_of n s
sixes_are zero s = refl
sixes_are (suc n) s =
    let more : 6 * suc n ≡ 6 + 6 * n = omega arith in
    let first : take 6 (take (6 + 6 * n) s) ≡ take 6 s = take-take 6 (6 + 6 * n) s (omega arith) in
    rw (more, first, entry_of_six s, drop-take 6 (6 * n) s) (ap (λ (l : List Entry). entry_of s ∷ l) (sixes_are n (drop 6 s)))

-- what is found of them is found of the bytes
pub sixes_good : (s : List ℕ) (n cells k : ℕ) (sixes : List (List ℕ)) → k ≡ n → 6 * k ≤ length s → sixes ≡ first_chunks 6 (length (take (6 * k) s) / 6) (take (6 * k) s)
    → good_entries cells (map entry_of sixes) ≡ good_entries_in s n cells
sixes_good s n cells k sixes is room are =
    let count : length (take (6 * k) s) / 6 ≡ n = omega (arith, length-take-le (6 * k) s room) in
    let same : sixes ≡ first_chunks 6 n (take (6 * n) s) = are ∙ rw (count, is) refl in
    ap (λ (l : List (List ℕ)). good_entries cells (map entry_of l)) same
    ∙ ap (good_entries cells) (sixes_are n s)
    ∙ sym (rw (le-leb (6 * n) (length s) (omega arith)))

-- ---- good is its two parts

-- the clauses in 01's order are those of the trailer and then those of the entries
trailer_then_entries : (distance limits sender rise lows fines zeros turn : Bool)
    → distance && limits && sender && (rise && lows) && (fines && zeros) && turn ≡ distance && limits && sender && zeros && turn && (rise && lows && fines)
trailer_then_entries distance limits sender rise lows fines zeros turn = simp in_any_order

module _ (s : List ℕ) (long : 12 ≤ length s) where
  pub good_is : good s ≡ good_trailer (trailer_in s) (length s - 12) && good_entries (trailer_in s).cells (entries_of (trailer_in s).entries s)
  unfolding good
  good_is =
      let t = trailer_in s in
      let es = entries_of t.entries s in
      rw (le-leb 12 (length s) long)
      (trailer_then_entries (eqb t.distance (6 * t.entries) && eqb t.distance (length s - 12)) (desks_within t.desks && cells_within t.cells) (ltb t.sender t.desks) (rising es) (every (below t.cells) es) (every kind_and_day es) (eqb t.zero6 0 && eqb t.zero7 0) (leb t.turn 4294967294 && eqb (t.turn % t.desks) t.sender))

-- a slice of fewer than 12 bytes has no trailer
pub too_short_is_bad : (s : List ℕ) → length s < 12 → good s ≡ false
unfolding good
too_short_is_bad s h = rw (lt-leb 12 (length s) h)

-- ---- the clauses as facts

-- what a good trailer says, in 01's order
pub record FairTrailer (t : Trailer) (back : ℕ) : Type 0 where
  pub distance_is_entries : t.distance ≡ 6 * t.entries
  pub distance_is_back : t.distance ≡ back
  pub desks_least : 1 ≤ t.desks
  pub desks_most : t.desks ≤ 16
  pub cells_least : 1 ≤ t.cells
  pub cells_most : t.cells ≤ 64
  pub sender_below : t.sender < t.desks
  pub zero6_is : t.zero6 ≡ 0
  pub zero7_is : t.zero7 ≡ 0
  pub turn_most : t.turn ≤ 4294967294
  pub turn_leaves : t.turn % t.desks ≡ t.sender

pub fair_trailer : (t : Trailer) (back : ℕ) → good_trailer t back ≡ true → FairTrailer t back
fair_trailer t back e = search tested depth 9

-- ---- good sheets

module _ (s : List ℕ) (g : good s ≡ true) where
  pub good_is_long : 12 ≤ length s
  good_is_long = by_test (leb 12 (length s)) refl
    where
      by_test : (long : Bool) → leb 12 (length s) ≡ long → 12 ≤ length s
      by_test true p = leb-true 12 (length s) p
      by_test false p = absurd (false≢true (sym (too_short_is_bad s (leb-false 12 (length s) p)) ∙ g))

  parts : (good_trailer (trailer_in s) (length s - 12) ≡ true) × (good_entries (trailer_in s).cells (entries_of (trailer_in s).entries s) ≡ true)
  parts = and_split _ _ (sym (good_is s good_is_long) ∙ g)

  pub good_trailer_is_fair : FairTrailer (trailer_in s) (length s - 12)
  good_trailer_is_fair = fair_trailer (trailer_in s) (length s - 12) parts.0

  pub good_entries_are : good_entries (trailer_in s).cells (entries_of (trailer_in s).entries s) ≡ true
  good_entries_are = parts.1

  -- its length is that of its entries and its trailer
  pub good_length : length s ≡ 6 * (trailer_in s).entries + 12
  good_length = let f = good_trailer_is_fair in let l = good_is_long in omega arith

-- entries that rise strictly and are below `cells` are no more than `cells`
from_few : (cells least : ℕ) (es : List Entry) → good_from cells least es ≡ true → length es ≤ cells - least
from_few cells least [] g = omega arith
from_few cells least (e ∷ es) g =
    let low : least ≤ e.cell = search tested in
    let high : e.cell < cells = search tested in
    omega (arith, from_few cells (e.cell + 1) es (search tested))

pub few_entries : (cells : ℕ) (es : List Entry) → good_entries cells es ≡ true → length es ≤ cells
few_entries cells es g =
    omega (arith, from_few cells 0 es (from_is cells 0 es ∙ rw (none_below es) g))

-- 01's table: a sheet has from 12 bytes to 396
pub good_within : GoodWithin
good_within s g =
    let f = good_trailer_is_fair s g in
    let few = few_entries (trailer_in s).cells (entries_of (trailer_in s).entries s) (good_entries_are s g) in
    omega (arith, good_length s g, entries_count (trailer_in s).entries s)

-- ---- the bytes of entries and a trailer are good exactly if these are

module _ (es : List Entry) (t : Trailer) (tf : TrailerFits t) where
  back_is : length (sheet_bytes es t) - 12 ≡ 6 * length es
  back_is = omega (arith, sheet_length es t)

  by_values : good (sheet_bytes es t) ≡ good_trailer t (6 * length es) && good_entries t.cells (entries_of t.entries (sheet_bytes es t))
  by_values =
      good_is (sheet_bytes es t) (omega (arith, sheet_length es t))
      ∙ ap (λ (x : Trailer). good_trailer x (length (sheet_bytes es t) - 12) && good_entries x.cells (entries_of x.entries (sheet_bytes es t))) (trailer_back es t tf)
      ∙ rw back_is

  pub sheet_bad : good_trailer t (6 * length es) ≡ false → good (sheet_bytes es t) ≡ false
  sheet_bad g = by_values ∙ rw g

  pub sheet_good : DaysFit es → t.entries ≡ length es → good_trailer t (6 * length es) ≡ true → good (sheet_bytes es t) ≡ good_entries t.cells es
  sheet_good days count g =
      let held : entries_of t.entries (sheet_bytes es t) ≡ es = ap (λ (k : ℕ). entries_of k (sheet_bytes es t)) count ∙ entries_back days (trailer_bytes t) in
      by_values ∙ rw (g, held)

-- ---- contents in entries

pub open_or_day : (e : Entry) → kind_and_day e ≡ true → OpenOrDay e
open_or_day e g = by_kind (eqb e.kind 2) refl
  where
    by_kind : (t : Bool) → eqb e.kind 2 ≡ t → OpenOrDay e
    by_kind true p = let k : e.kind ≡ 2 = eqb-true e.kind 2 p in is_day k (ap (λ (x : ℕ). content_of x (to_z w32 e.day)) k)
    by_kind false p =
        let one : eqb e.kind 1 && eqb e.day 0 ≡ true = sym (or-false _) ∙ (rw p at g) in
        let k : e.kind ≡ 1 = search tested in
        is_open k (ap (λ (x : ℕ). content_of x (to_z w32 e.day)) k)
