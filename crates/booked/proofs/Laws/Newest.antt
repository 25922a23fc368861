-- Laws of `newest` and `lookup_of` (crates/book/specs/Lookup.antt).
--   newest_here, newest_older  what is found, by whether the newest sheet has an entry for the cell
--   newest_entry, newest_is    what is found is the newest entry, and that is found
--   newest_blank, blank_newest blank exactly if no sheet has one
--   in_book                    the sheet of the newest entry is one of the book's
--   Looked, looked, looked_up  what is so where a lookup is answered; and that it is
--   cells_within               a good book has 64 cells at most
-- Assumes nothing.
use mathlib.Core.Path.{◌≡◌, refl, sym, ap, ◌∙◌, subst}
use mathlib.Core.Bool.{true}
use mathlib.Core.List.{List, [], ◌∷◌, ◌++◌}
use Rattle.std.specs.Prelude.{Option, Some, None}
use Prim.Native.Nat.{ℕ, ◌<◌, ◌≤◌}
use native.Mathlib.Omega.{arith}
use lib.ListN.{length}
use borrow.Author.Tests.{not-false, ltb-true, lt-ltb}
use Rattle.answer.specs.Answer.{answered}
use Rattle.answer.proofs.Laws.{answered_only_if, answered_if}
use Rattle.numbers.proofs.Tests.{tested}
use Rattle.content.specs.declared.Content.{Content}
use Rattle.layout.specs.declared.Entry.{Entry}
use Rattle.layout.specs.Layout.{content_in}
use Rattle.sheet.specs.Good.{good}
use Rattle.sheet.proofs.Laws.Good.{good_trailer_is_fair}
use Rattle.book.specs.Sheets.{sheets_of}
use Rattle.book.specs.Good.{numbers_in, every_sheet, good_book}
use Rattle.book.specs.Lookup.{LastSet, blank, entry, entries_in, entry_on, or_older, newest, cells_of, lookup_rules, lookup_of}
use Rattle.booked.specs.Lookups.{In, here, further, HasNone, NoneHas, NewestEntry}
use Rattle.booked.proofs.Laws.Entries.{sheet_in, has_entry, has_none, found_entry, found_none}

pub entry_is_not_blank : (c : Content) (turn : ℕ) → entry c turn ≡ blank → ⊥
entry_is_not_blank c turn p = let z : ◌≡◌ {A = ℕ} 0 1 = cc in omega arith

some_in : {A : Type 0} {x : A} {l : List A} → In x l → length l ≡ 0 → ⊥
some_in here e = omega arith
some_in (further i) e = omega arith

in_middle : (newer : List (List ℕ)) (s : List ℕ) (older : List (List ℕ)) → In s (newer ++ s ∷ older)
in_middle [] s older = here
in_middle (x ∷ newer) s older = further (in_middle newer s older)

module _ (cell : ℕ) where
  -- ---- by the newest sheet

  pub newest_here : (s : List ℕ) (older : List (List ℕ)) (e : Entry) → entry_on cell (entries_in s) ≡ Some e
      → newest cell (s ∷ older) ≡ entry (content_in e) (numbers_in s).turn
  unfolding newest
  newest_here s older e p = ap (λ (o : Option Entry). or_older o (numbers_in s).turn (newest cell older)) p

  pub newest_older : (s : List ℕ) (older : List (List ℕ)) → entry_on cell (entries_in s) ≡ None → newest cell (s ∷ older) ≡ newest cell older
  unfolding newest
  newest_older s older p = ap (λ (o : Option Entry). or_older o (numbers_in s).turn (newest cell older)) p

  -- ---- the newest entry

  one_more : {s : List ℕ} {ss : List (List ℕ)} → HasNone cell s → NoneHas cell ss → NoneHas cell (s ∷ ss)
  one_more no_entry none_has x here = no_entry
  one_more no_entry none_has x (further i) = none_has x i

  behind : {s : List ℕ} {older : List (List ℕ)} {c : Content} {turn : ℕ} → HasNone cell s → NewestEntry cell older c turn → NewestEntry cell (s ∷ older) c turn
  behind {s} no_entry n =
      record {
        newer = s ∷ n.newer;
        sheet = n.sheet;
        older = n.older;
        stands = ap (λ (l : List (List ℕ)). s ∷ l) n.stands;
        none_newer = one_more no_entry n.none_newer;
        e = n.e;
        has_it = n.has_it;
        content_is = n.content_is;
        turn_is = n.turn_is;
      }

  pub newest_entry : (ss : List (List ℕ)) (c : Content) (turn : ℕ) → newest cell ss ≡ entry c turn → NewestEntry cell ss c turn
  unfolding newest
  newest_entry [] c turn p = absurd (entry_is_not_blank c turn (sym p))
  newest_entry (s ∷ older) c turn p = by_case (newest_entry older c turn) (entry_on cell (entries_in s)) refl
    where
      by_case : (newest cell older ≡ entry c turn → NewestEntry cell older c turn) → (o : Option Entry) → entry_on cell (entries_in s) ≡ o → NewestEntry cell (s ∷ older) c turn
      by_case rest None q = behind (has_none cell s q) (rest (sym (newest_older s older q) ∙ p))
      by_case rest (Some e) q =
          let same : entry (content_in e) (numbers_in s).turn ≡ entry c turn = sym (newest_here s older e q) ∙ p in
          record {
            newer = [];
            sheet = s;
            older = older;
            stands = refl;
            none_newer = λ x i. absurd (some_in i refl);
            e = e;
            has_it = has_entry cell s e q;
            content_is = cc;
            turn_is = cc;
          }

  pub in_book : {ss : List (List ℕ)} {c : Content} {turn : ℕ} (n : NewestEntry cell ss c turn) → In n.sheet ss
  in_book n = subst (In n.sheet) (sym n.stands) (in_middle n.newer n.sheet n.older)

  past_newer : (newer : List (List ℕ)) (ss : List (List ℕ)) → NoneHas cell newer → newest cell (newer ++ ss) ≡ newest cell ss
  past_newer [] ss none_has = refl
  past_newer (s ∷ newer) ss none_has =
      newest_older s (newer ++ ss) (found_none cell s (none_has s here)) ∙ past_newer newer ss (λ x i. none_has x (further i))

  pub newest_is : (ss : List (List ℕ)) → every_sheet good ss ≡ true → (c : Content) (turn : ℕ) → NewestEntry cell ss c turn → newest cell ss ≡ entry c turn
  newest_is ss g c turn n =
      let found = found_entry cell n.sheet (sheet_in good (in_book n) g) n.e n.has_it in
      ap (newest cell) n.stands
      ∙ past_newer n.newer (n.sheet ∷ n.older) n.none_newer
      ∙ newest_here n.sheet n.older n.e found
      ∙ ap (λ (x : Content). entry x (numbers_in n.sheet).turn) n.content_is
      ∙ ap (entry c) n.turn_is

  -- ---- blank

  pub newest_blank : (ss : List (List ℕ)) → newest cell ss ≡ blank → NoneHas cell ss
  newest_blank [] p = λ x i. absurd (some_in i refl)
  newest_blank (s ∷ older) p = by_case (newest_blank older) (entry_on cell (entries_in s)) refl
    where
      by_case : (newest cell older ≡ blank → NoneHas cell older) → (o : Option Entry) → entry_on cell (entries_in s) ≡ o → NoneHas cell (s ∷ older)
      by_case rest None q = one_more (has_none cell s q) (rest (sym (newest_older s older q) ∙ p))
      by_case rest (Some e) q = absurd (entry_is_not_blank (content_in e) (numbers_in s).turn (sym (newest_here s older e q) ∙ p))

  pub blank_newest : (ss : List (List ℕ)) → NoneHas cell ss → newest cell ss ≡ blank
  unfolding newest
  blank_newest [] none_has = refl
  blank_newest (s ∷ older) none_has = newest_older s older (found_none cell s (none_has s here)) ∙ blank_newest older (λ x i. none_has x (further i))

-- ---- where a lookup is answered

pub cells_within : (ss : List (List ℕ)) → every_sheet good ss ≡ true → cells_of ss ≤ 64
cells_within [] g = omega arith
cells_within (s ∷ older) g = (good_trailer_is_fair s (search tested)).cells_most

pub record Looked (b : List ℕ) (cell : ℕ) (found : LastSet) : Type 0 where
  pub is_good : good_book b ≡ true
  pub below : cell < cells_of (sheets_of b)
  pub found_is : newest cell (sheets_of b) ≡ found

module _ (b : List ℕ) (cell : ℕ) where
  pub looked : (found : LastSet) → lookup_of b cell ≡ answered found → Looked b cell found
  unfolding lookup_of
  looked found e =
      let carried_out = answered_only_if (lookup_rules b cell) (newest cell (sheets_of b)) found e in
      record {
        is_good = not-false (good_book b) carried_out.0.0;
        below = ltb-true cell (cells_of (sheets_of b)) (not-false _ carried_out.0.1.0);
        found_is = carried_out.1;
      }

  pub looked_up : good_book b ≡ true → cell < cells_of (sheets_of b) → lookup_of b cell ≡ answered (newest cell (sheets_of b))
  unfolding lookup_of
  looked_up g h = answered_if (lookup_rules b cell) (newest cell (sheets_of b)) (rw g, (rw (lt-ltb cell (cells_of (sheets_of b)) h), tt))
