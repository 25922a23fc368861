-- Demand 2's two statements on sheets (specs/Promises.antt), proved.
--   written_reads_back : WrittenReadsBack
--   read_writes_back : ReadWritesBack
-- Assumes nothing.
use mathlib.Core.Path.{◌≡◌, sym, ap, ◌∙◌}
use mathlib.Core.List.{List, [], ◌∷◌, ◌++◌}
use mathlib.Core.Bool.{true, not}
use Prim.Native.Nat.{ℕ, ◌-◌}
use native.Mathlib.Omega.{arith}
use lib.ListN.{length, take, drop}
use lib.Seq.{take_at}
use borrow.Author.Tests.{le-ltb, not-false}
use Rattle.answer.specs.Answer.{answered, ◌if◌}
use Rattle.answer.specs.Promises.{Silent}
use Rattle.answer.proofs.Laws.{answered_only_if, answered_if, changed_if}
use Rattle.layout.specs.declared.Entry.{Entry}
use Rattle.layout.specs.declared.Numbers.{Numbers}
use Rattle.layout.specs.declared.Trailer.{Trailer}
use Rattle.layout.specs.Layout.{entries_of, trailer_in, trailer_bytes, sheet_bytes, numbers_of, trailer_for, sheet_for}
use Rattle.sheet.specs.Good.{good}
use Rattle.sheet.specs.Reading.{Sheet, sheet_in, reading_of}
use Rattle.layout.specs.Values.{AreBytes, DaysFit, NumbersFit}
use Rattle.layout.proofs.Laws.{entries_back, entries_count, trailer_back, sheet_again, sheet_length}
use Rattle.sheet.proofs.Laws.Good.{FairTrailer, good_trailer_is_fair, good_length}
use Rattle.sheet.proofs.Laws.Reading.{good_read}
use Rattle.writer.specs.Writing.{writing_rules, written_of, buffer_of}
use Rattle.writer.specs.Promises.{WrittenReadsBack, ReadWritesBack}
use Rattle.writer.proofs.Laws.Writing.{trailer_fits}

-- ---- a written sheet reads back

reads_as_given : (n : Numbers) (es : List Entry) → NumbersFit n → DaysFit (take n.entries es) → good (sheet_for n es) ≡ true
    → reading_of (sheet_for n es) ≡ answered (record { numbers = n; entries = take n.entries es })
unfolding sheet_for
reads_as_given n es fit days g =
    let part : List Entry = take n.entries es in
    let s : List ℕ = sheet_bytes part (trailer_for n) in
    let t : trailer_in s ≡ trailer_for n = trailer_back part (trailer_for n) (trailer_fits n fit) in
    let count : length part ≡ n.entries = omega (arith, good_length s g, ap (λ (x : Trailer). x.entries) t, sheet_length part (trailer_for n)) in
    let held : entries_of n.entries s ≡ part = ap (λ (k : ℕ). entries_of k s) (sym count) ∙ entries_back days (trailer_bytes (trailer_for n)) in
    good_read s g
    ∙ ap (λ (x : Trailer). answered (sheet_in s (numbers_of x))) t
    ∙ ap (λ (l : List Entry). answered (record { numbers = n; entries = l })) held

pub written_reads_back : WrittenReadsBack
unfolding WrittenReadsBack written_of buffer_of
written_reads_back n es buf len fit days e =
    let s : List ℕ = sheet_for n es in
    let carried_out = answered_only_if (writing_rules s buf) (length s) len e in
    ap (λ (l : List ℕ). reading_of (take len l)) (changed_if (writing_rules s buf) buf (s ++ drop (length s) buf) carried_out.0)
    ∙ ap reading_of (take_at s (drop (length s) buf) len carried_out.1)
    ∙ reads_as_given n es fit days (not-false (good s) carried_out.0.0)

-- ---- a good sheet writes back

numbers_again : (t : Trailer) (back : ℕ) → FairTrailer t back → trailer_for (numbers_of t) ≡ t
numbers_again t back f =
    λ i.
    record {
      distance = sym f.distance_is_entries i;
      entries = t.entries;
      sender = t.sender;
      desks = t.desks;
      cells = t.cells;
      zero6 = sym f.zero6_is i;
      zero7 = sym f.zero7_is i;
      turn = t.turn;
    }

same_bytes : (s : List ℕ) (more : List Entry) → AreBytes s → good s ≡ true → sheet_for (numbers_of (trailer_in s)) (entries_of (trailer_in s).entries s ++ more) ≡ s
unfolding sheet_for
same_bytes s more b g =
    let t = trailer_in s in
    let es = entries_of t.entries s in
    ap (λ (l : List Entry). sheet_bytes l (trailer_for (numbers_of t))) (take_at es more t.entries (entries_count t.entries s))
    ∙ ap (sheet_bytes es) (numbers_again t (length s - 12) (good_trailer_is_fair s g))
    ∙ sheet_again s t.entries b (good_length s g)

pub read_writes_back : ReadWritesBack
unfolding ReadWritesBack reading_of written_of buffer_of
read_writes_back s sheet more buf b e room =
    let carried_out = answered_only_if (13 if not (good s) ∷ []) (sheet_in s (numbers_of (trailer_in s))) sheet e in
    let g : good s ≡ true = not-false (good s) carried_out.0.0 in
    let same : sheet_for sheet.numbers (sheet.entries ++ more) ≡ s =
    ap (λ (x : Sheet). sheet_for x.numbers (x.entries ++ more)) (sym carried_out.1) ∙ same_bytes s more b g
    in
    let silent : Silent (writing_rules s buf) = (rw g, (le-ltb (length buf) (length s) room, tt)) in
    rw same (answered_if (writing_rules s buf) (length s) silent, changed_if (writing_rules s buf) buf (s ++ drop (length s) buf) silent)
