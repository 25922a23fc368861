-- What specs/Laid.antt states of the content that a lookup finds.
--   laid_is_taken : LaidIsTaken
--   found_is_laid : FoundIsLaid lookup_of
--   no_entry_is_blank : NoEntryIsBlank lookup_of
-- Assumes nothing.
use mathlib.Core.Path.{◌≡◌, refl, sym, ap, ◌∙◌}
use mathlib.Core.Bool.{true}
use mathlib.Core.List.{List, [], ◌∷◌}
use Prim.Native.Nat.{ℕ}
use native.Mathlib.Omega.{arith}
use lib.IntN.{pos}
use lib.ListN.{replicate}
use Rattle.answer.specs.Answer.{answered}
use Rattle.numbers.proofs.Tests.{tested}
use Rattle.content.specs.declared.Content.{Content}
use Rattle.content.specs.declared.Content.TheVariants.{Blank}
use Rattle.content.proofs.Laws.Content.{never_meet}
use Rattle.layout.specs.declared.Entry.{Entry}
use Rattle.layout.specs.Layout.{content_in}
use Rattle.sheet.specs.Good.{kind_and_day, good}
use Rattle.sheet.specs.Promises.{OpenOrDay, is_open, is_day}
use Rattle.sheet.proofs.Laws.Good.{good_entries_are, open_or_day}
use Rattle.applying.specs.Applying.{kind_on, day_on}
use Rattle.sound.specs.Head.{causal}
use Rattle.desk.specs.declared.Desk.{Desk}
use Rattle.book.specs.Sheets.{sheets_of}
use Rattle.book.specs.Lookup.{LastSet, blank, entry, entries_in, lookup_of}
use Rattle.booked.specs.Lookups.{In}
use Rattle.booked.specs.Laid.{laid_all, taken_all, LaidIsTaken, content_found, FoundIsLaid, NoEntryIsBlank}
use Rattle.booked.proofs.Laws.Sheets.{are_good}
use Rattle.booked.proofs.Laws.Entries.{every_in, sheet_in}
use Rattle.booked.proofs.Laws.Newest.{cells_within, newest_entry, in_book, looked}
use Rattle.booked.proofs.Laws.Laying.{laid_all_lem}

-- a desk that has taken sheets, by its record
record TakenAs (d : Desk) (ss : List (List ℕ)) : Type 0 where
  mode : causal (taken_all d ss).head ≡ true
  pkinds : (taken_all d ss).pkind ≡ d.pkind
  kinds : (taken_all d ss).kind ≡ laid_all d.pkind kind_on 0 ss
  days : (taken_all d ss).day ≡ laid_all d.pkind day_on (pos 0) ss

taken_as : (d : Desk) → causal d.head ≡ true → d.kind ≡ replicate 64 0 → d.day ≡ replicate 64 (pos 0) → (ss : List (List ℕ)) → TakenAs d ss
unfolding taken_all laid_all
taken_as d c k y [] = record { mode = c; pkinds = refl; kinds = k; days = y }
taken_as d c k y (s ∷ older) =
    let t = taken_as d c k y older in
    record {
      mode = t.mode;
      pkinds = t.pkinds;
      kinds = rw (t.mode, t.pkinds, t.kinds);
      days = rw (t.mode, t.pkinds, t.days);
    }

pub laid_is_taken : LaidIsTaken
laid_is_taken d c k y ss cell = let t = taken_as d c k y ss in sym (rw (t.kinds, t.days))

pub found_is_laid : FoundIsLaid lookup_of
found_is_laid pkind b cell found e =
    let l = looked b cell found e in
    let all = are_good (sheets_of b) l.is_good in
    ap content_found (sym l.found_is) ∙ laid_all_lem pkind cell (omega (arith, l.below, cells_within (sheets_of b) all)) (sheets_of b) all

-- no entry of a good sheet is blank
not_blank : (s : List ℕ) → good s ≡ true → (e : Entry) → In e (entries_in s) → content_in e ≡ Blank → ⊥
not_blank s g e i p = by_kind (open_or_day e (every_in kind_and_day i (search (good_entries_are s g, tested))))
  where
    by_kind : OpenOrDay e → ⊥
    by_kind (is_open k c) = never_meet.blank_is_not_open (sym p ∙ c)
    by_kind (is_day k c) = never_meet.blank_is_no_day _ (sym p ∙ c)

no_blank : (b : List ℕ) (cell : ℕ) (c : Content) (turn : ℕ) → lookup_of b cell ≡ answered (entry c turn) → c ≡ Blank → ⊥
no_blank b cell c turn e p =
    let l = looked b cell (entry c turn) e in
    let n = newest_entry cell (sheets_of b) c turn l.found_is in
    not_blank n.sheet (sheet_in good (in_book cell n) (are_good (sheets_of b) l.is_good)) n.e n.has_it.in_sheet (n.content_is ∙ p)

pub no_entry_is_blank : NoEntryIsBlank lookup_of
no_entry_is_blank =
    record {
      no_blank = no_blank;
      blank_exactly =
          λ pkind b cell found e. (
            λ p. sym (found_is_laid pkind b cell found e) ∙ ap content_found p,
            λ p. blank_only b cell found e (found_is_laid pkind b cell found e ∙ p),
          );
    }
  where
    blank_only : (b : List ℕ) (cell : ℕ) (found : LastSet) → lookup_of b cell ≡ answered found → content_found found ≡ Blank → found ≡ blank
    blank_only b cell blank e p = refl
    blank_only b cell (entry c turn) e p = absurd (no_blank b cell c turn e p)
