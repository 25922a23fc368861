-- Laws of `written_of`, `buffer_of` and `Writes` (specs/Writing.antt).
--   FirstOf, first_of              the entries that it takes
--   write_too_few, write_bad_trailer, write_bad_entries, write_too_short, write_whole      what it leaves and answers at each of its returns
--   refused_writes_nothing : RefusedWritesNothing, said_written_tells_apart : WritingsApart (specs/Promises.antt)
-- Assumes nothing.
use mathlib.Core.Path.{◌≡◌, refl, sym, ap, ◌∙◌}
use mathlib.Core.List.{List, [], ◌∷◌, ◌++◌, map}
use mathlib.Core.Bool.{Bool, true, false, not}
use Prim.Native.Nat.{ℕ, ◌+◌, ◌*◌, ◌-◌, ◌/◌, ◌%◌, ◌<◌, ◌≤◌}
use native.Mathlib.Omega.{arith}
use lib.ListN.{length, take, drop, length-take}
use lib.Dec.{ltb}
use borrow.Author.Tests.{ltb-true, ltb-false, lt-ltb, le-ltb, not-true, not-false}
use Rattle.answer.proofs.Laws.{refused_changes_nothing}
use Rattle.layout.specs.declared.Entry.{Entry}
use Rattle.layout.specs.declared.Numbers.{Numbers}
use Rattle.layout.specs.declared.Trailer.{Trailer}
use Rattle.layout.specs.Layout.{entries_bytes, sheet_bytes, trailer_bytes, trailer_for, sheet_for}
use Rattle.sheet.specs.Good.{good}
use Rattle.sheet.specs.Clauses.{good_trailer, good_entries, in_32_bits}
use Rattle.layout.specs.Values.{NumbersFit, DaysFit, no_days, a_day}
use Rattle.layout.proofs.Laws.{TrailerFits, entries_length, sheet_length}
use Rattle.sheet.proofs.Laws.Good.{fair_trailer, sheet_bad, sheet_good}
use Rattle.std.specs.Prelude.{Result, Ok, Err, slice_range}
use Rattle.std.proofs.lemmas.List.{map-id, length-map}
use Rattle.numbers.specs.Numbers.{bytes}
use Rattle.answer.specs.declared.Refusal.{Refusal}
use Rattle.answer.specs.Refusals.{refused_when}
use Rattle.answer.specs.declared.Refusal.TheVariants as refusal
use Rattle.answer.proofs.Refusals.{said_apart, when_went_on, when_refused}
use Rattle.laying.specs.Laying.{laid_over}
use Rattle.writer.specs.Promises.{RefusedWritesNothing, WritingsApart}
use Rattle.writer.specs.Writing.{written_of, buffer_of, writing_rules, Writes}
use Rattle.laying.proofs.Laws.{laid_next}

-- ---- by the sheet alone

module _ (n : Numbers) (es : List Entry) (b : List ℕ) where
  pub not_good : good (sheet_for n es) ≡ false → Writes n es b (Err refusal.SheetNotGood) b
  unfolding written_of buffer_of
  not_good g = record { answers = rw g; buffer = rw g }

  pub too_short : good (sheet_for n es) ≡ true → length b < length (sheet_for n es) → Writes n es b (Err refusal.BufferShort) b
  unfolding written_of buffer_of
  too_short g h = record { answers = rw (g, lt-ltb _ _ h); buffer = rw (g, lt-ltb _ _ h) }

  pub written_whole : good (sheet_for n es) ≡ true → length (sheet_for n es) ≤ length b → Writes n es b (Ok (length (sheet_for n es))) (sheet_for n es ++ drop (length (sheet_for n es)) b)
  unfolding written_of buffer_of
  written_whole g h = record { answers = rw (g, le-ltb _ _ h); buffer = rw (g, le-ltb _ _ h) }

pub refused_writes_nothing : RefusedWritesNothing
unfolding RefusedWritesNothing written_of buffer_of
refused_writes_nothing n es buf k e =
    refused_changes_nothing (List ℕ) ℕ (writing_rules (sheet_for n es) buf) (length (sheet_for n es)) k buf (sheet_for n es ++ drop (length (sheet_for n es)) buf) e

-- ---- as the code goes

pub trailer_fits : (n : Numbers) → NumbersFit n → TrailerFits (trailer_for n)
trailer_fits n f = record { distance = omega (arith, f.entries); turn = f.turn }

not_true_is_false : (t : Bool) → (t ≡ true → ⊥) → t ≡ false
not_true_is_false true h = absurd (h refl)
not_true_is_false false h = refl

-- as many of the entries as the numbers say
pub record FirstOf (n : Numbers) (es part : List Entry) : Type 0 where
  pub are : part ≡ take n.entries es
  pub count : length part ≡ n.entries

pub first_of : (n : Numbers) (es part : List Entry) (k : ℕ) → k ≡ n.entries → part ≡ slice_range es 0 k → length part + 0 ≡ k → FirstOf n es part
first_of n es part k is cut long =
    let none : k - 0 ≡ k = omega arith in
    record { are = cut ∙ rw (none, is); count = omega arith }

-- given entries, and as they are on the line: the same bytes
same_day : (d : ℕ) → bytes 4 (d % 4294967296) ≡ bytes 4 d
same_day d =
    let a : d % 4294967296 % 256 ≡ d % 256 = omega arith in
    let b : d % 4294967296 / 256 % 256 ≡ d / 256 % 256 = omega arith in
    let c : d % 4294967296 / 256 / 256 % 256 ≡ d / 256 / 256 % 256 = omega arith in
    let e : d % 4294967296 / 256 / 256 / 256 % 256 ≡ d / 256 / 256 / 256 % 256 = omega arith in
    rw (a, b, c, e)

same_bytes : (es : List Entry) → entries_bytes (map in_32_bits es) ≡ entries_bytes es
same_bytes [] = refl
same_bytes (e ∷ es) =
    ap (λ (l : List ℕ). (e.cell ∷ e.kind ∷ l) ++ entries_bytes (map in_32_bits es)) (same_day e.day)
    ∙ ap (λ (l : List ℕ). (e.cell ∷ e.kind ∷ bytes 4 e.day) ++ l) (same_bytes es)

days_fit : (es : List Entry) → DaysFit (map in_32_bits es)
days_fit [] = no_days
days_fit (e ∷ es) = a_day (omega arith) (days_fit es)

-- what `write` knows of a test of its own: that it does not apply, or that it does
abbrev went_on : Refusal → Bool → Type 0
went_on refusal applies = Ok (tt {0}) ≡ refused_when refusal applies

abbrev stopped : Refusal → Bool → Refusal → Type 0
stopped refusal applies x = Err x ≡ refused_when refusal applies

module _ (n : Numbers) (es : List Entry) (b : List ℕ) (fit : NumbersFit n) where
  refuses : (applies : Bool) → (applies ≡ true → good (sheet_for n es) ≡ false) → (x : Refusal) → stopped refusal.SheetNotGood applies x → (r : Result ℕ Refusal) → r ≡ Err x → Writes n es b r b
  refuses applies bad x test r is =
      let found = when_refused refusal.SheetNotGood applies x test in
      rw (is, found.1) (not_good n es b (bad found.0))

  -- the numbers say more entries than are given
  pub write_too_few : length es < n.entries → (x : Refusal) → x ≡ refusal.SheetNotGood → (r : Result ℕ Refusal) → r ≡ Err x → Writes n es b r b
  unfolding sheet_for
  write_too_few h x named r is =
      rw (is, named)
      (not_good n es b (sheet_bad (take n.entries es) (trailer_for n) (trailer_fits n fit) (not_true_is_false _ (λ g.
      let f = fair_trailer (trailer_for n) (6 * length (take n.entries es)) g in
      omega (arith, length-take n.entries es)))))

  module _ (part : List Entry) (first : FirstOf n es part) where
    size : length (sheet_for n es) ≡ 6 * length part + 12
    unfolding sheet_for
    size = ap (λ (l : List Entry). length (sheet_bytes l (trailer_for n))) (sym first.are) ∙ sheet_length part (trailer_for n)

    module _ (t : Trailer) (is : t ≡ trailer_for n) (g : Bool) (test : g ≡ good_trailer t (6 * length part)) where
      same_test : good_trailer (trailer_for n) (6 * length part) ≡ g
      same_test = ap (λ (x : Trailer). good_trailer x (6 * length part)) (sym is) ∙ sym test

      pub write_bad_trailer : (x : Refusal) → stopped refusal.SheetNotGood (not g) x → (r : Result ℕ Refusal) → r ≡ Err x → Writes n es b r b
      unfolding sheet_for
      write_bad_trailer x off r e =
          refuses (not g) (λ bad. ap (λ (l : List Entry). good (sheet_bytes l (trailer_for n))) (sym first.are) ∙ sheet_bad part (trailer_for n) (trailer_fits n fit) (same_test ∙ not-true g bad)) x off r e

      module _ (fair : went_on refusal.SheetNotGood (not g)) (ok : Bool) (on_the_line : ok ≡ good_entries n.cells (map in_32_bits (map (λ (e : Entry). e) part))) where
        line : List Entry
        line = map in_32_bits part

        good_is_ok : good (sheet_for n es) ≡ ok
        unfolding sheet_for line
        good_is_ok =
            let long : length line ≡ length part = length-map part in_32_bits in
            ap (λ (l : List Entry). good (sheet_bytes l (trailer_for n))) (sym first.are)
            ∙ ap (λ (l : List ℕ). good (l ++ trailer_bytes (trailer_for n))) (sym (same_bytes part))
            ∙ sheet_good line (trailer_for n) (trailer_fits n fit) (days_fit part) (sym (long ∙ first.count))
            (ap (λ (k : ℕ). good_trailer (trailer_for n) (6 * k)) long ∙ same_test ∙ not-false g (when_went_on refusal.SheetNotGood (not g) fair))
            ∙ sym (on_the_line ∙ ap (λ (l : List Entry). good_entries n.cells (map in_32_bits l)) (map-id part))

        pub write_bad_entries : (x : Refusal) → stopped refusal.SheetNotGood (not ok) x → (r : Result ℕ Refusal) → r ≡ Err x → Writes n es b r b
        write_bad_entries x off r e = refuses (not ok) (λ bad. good_is_ok ∙ not-true ok bad) x off r e

        module _ (all : went_on refusal.SheetNotGood (not ok)) where
          is_good : good (sheet_for n es) ≡ true
          is_good = good_is_ok ∙ not-false ok (when_went_on refusal.SheetNotGood (not ok) all)

          pub write_too_short : (x : Refusal) → stopped refusal.BufferShort (ltb (length b) (6 * length part + 12)) x → (r : Result ℕ Refusal) → r ≡ Err x → Writes n es b r b
          write_too_short x short r e =
              let found = when_refused refusal.BufferShort (ltb (length b) (6 * length part + 12)) x short in
              rw (e, found.1) (too_short n es b is_good (omega (arith, size, ltb-true (length b) (6 * length part + 12) found.0)))

          pub write_whole : went_on refusal.BufferShort (ltb (length b) (6 * length part + 12))
              → (b₁ : List ℕ) → b₁ ≡ entries_bytes part ++ drop (6 * length part) b
              → (b₂ : List ℕ) → b₂ ≡ laid_over b₁ (6 * length part) (trailer_bytes t)
              → Writes n es b (Ok (6 * length part + 12)) b₂
          unfolding sheet_for
          write_whole room b₁ e₁ b₂ e₂ =
              let h : 6 * length part + 12 ≤ length b = ltb-false (length b) (6 * length part + 12) (when_went_on refusal.BufferShort (ltb (length b) (6 * length part + 12)) room) in
              let front : List ℕ = entries_bytes part in
              let at : length front ≡ 6 * length part = entries_length part in
              let all : b₂ ≡ sheet_for n es ++ drop (length (sheet_for n es)) b =
              e₂ ∙ ap (λ (l : List ℕ). laid_over l (6 * length part) (trailer_bytes t)) e₁
              ∙ ap (λ (k : ℕ). laid_over (front ++ drop k b) k (trailer_bytes t)) (sym at)
              ∙ ap (λ (x : Trailer). laid_over (front ++ drop (length front) b) (length front) (trailer_bytes x)) is
              ∙ laid_next front (trailer_bytes (trailer_for n)) b (omega arith)
              ∙ ap (λ (l : List Entry). sheet_bytes l (trailer_for n) ++ drop (length (sheet_bytes l (trailer_for n))) b) first.are
              in
              rw (← size, all) (written_whole n es b is_good (omega (arith, size)))

-- ---- the answer

pub said_written_tells_apart : WritingsApart
said_written_tells_apart a b = said_apart (λ (n : ℕ). n) (λ (n : ℕ). n) (λ n. refl) a b
