-- Laws of `book_of` and `newest_first` (specs/OfARun.antt), of any line whose sheets are in order.
--   book_suc                   the book of one sheet more
--   line_good, line_sheets     the first k sheets are good together, and are those of their book
--   line_cells                 and have the shelf's cells
--   SetBy, set_by              the entry that is found among them
--   none_set, if_none_set      that none is found, exactly if none has one
-- Assumes nothing.
use mathlib.Core.Path.{◌≡◌, refl, sym, ap, ◌∙◌, subst}
use mathlib.Core.Bool.{Bool, true, false}
use mathlib.Core.List.{List, [], ◌∷◌, ◌++◌, append_assoc, append-nil}
use Rattle.std.specs.Prelude.{Option, Some, None}
use Prim.Native.Nat.{ℕ, zero, suc, ◌<◌, ◌≤◌}
use native.Mathlib.Omega.{arith}
use lib.Dec.{eqb}
use lib.ListN.{length, take}
use lib.Seq.{take-suc}
use borrow.Author.Tests.{eqb-true, eqb-false}
use Rattle.content.specs.declared.Content.{Content}
use Rattle.layout.specs.declared.Entry.{Entry}
use Rattle.layout.specs.Layout.{content_in}
use Rattle.runs.specs.Run.{Shelf, SentSheet, sheet_on}
use Rattle.runs.specs.EveryRun.{SheetInOrder}
use Rattle.book.specs.Sheets.{sheets_of, end_to_end}
use Rattle.book.specs.Good.{numbers_in, good_sheets}
use Rattle.book.specs.Lookup.{blank, entry, entries_in, entry_on, newest, cells_of}
use Rattle.booked.specs.Lookups.{In, here, further, HasEntry, HasNone}
use Rattle.booked.specs.Adding.{Follows}
use Rattle.booked.specs.OfARun.{book_of, newest_first}
use Rattle.booked.proofs.Laws.Sheets.{sheets_of_lem, are_good}
use Rattle.booked.proofs.Laws.Entries.{has_entry, has_none, found_none}
use Rattle.booked.proofs.Laws.Newest.{entry_is_not_blank, newest_here, newest_older, newest_blank}
use Rattle.booked.proofs.Laws.Adding.{follows}

-- ---- any line

end_behind : (ss : List (List ℕ)) (x : List ℕ) → end_to_end (ss ++ x ∷ []) ≡ x ++ end_to_end ss
unfolding end_to_end
end_behind [] x = sym (append-nil x)
end_behind (s ∷ ss) x = ap (λ (l : List ℕ). l ++ s) (end_behind ss x) ∙ append_assoc x (end_to_end ss) s

line_end_to_end : (line : List SentSheet) → end_to_end (newest_first line) ≡ book_of line
unfolding book_of newest_first end_to_end
line_end_to_end [] = refl
line_end_to_end (x ∷ line) = end_behind (newest_first line) x.bytes ∙ ap (λ (l : List ℕ). x.bytes ++ l) (line_end_to_end line)

newest_behind : (line : List SentSheet) (x : SentSheet) → newest_first (line ++ x ∷ []) ≡ x.bytes ∷ newest_first line
unfolding newest_first
newest_behind [] x = refl
newest_behind (y ∷ line) x = ap (λ (ss : List (List ℕ)). ss ++ y.bytes ∷ []) (newest_behind line x)

module _ (line : List SentSheet) where
  abbrev sheet : ℕ → List ℕ
  sheet k = (sheet_on line k).bytes

  -- the first k of them, the newest first
  abbrev firsts : ℕ → List (List ℕ)
  firsts k = newest_first (take k line)

  firsts_suc : (k : ℕ) → k < length line → firsts (suc k) ≡ sheet k ∷ firsts k
  firsts_suc k h = ap newest_first (take-suc line k _ h) ∙ newest_behind (take k line) (sheet_on line k)

  pub book_suc : (k : ℕ) → k < length line → book_of (take (suc k) line) ≡ book_of (take k line) ++ sheet k
  unfolding end_to_end
  book_suc k h =
      sym (line_end_to_end (take (suc k) line)) ∙ ap end_to_end (firsts_suc k h) ∙ ap (λ (l : List ℕ). l ++ sheet k) (line_end_to_end (take k line))

  -- below k, and at k
  up_to : (k : ℕ) (P : ℕ → Type 0) → P k → (j : ℕ) → (j < k → P j) → j < suc k → P j
  up_to k P at_k j below h = by_test (eqb j k) refl
    where
      by_test : (t : Bool) → eqb j k ≡ t → P j
      by_test true q = subst P (sym (eqb-true j k q)) at_k
      by_test false q = let other = eqb-false j k q in below (omega arith)

  in_firsts : (k : ℕ) → k ≤ length line → (j : ℕ) → j < k → In (sheet j) (firsts k)
  in_firsts zero h j below = absurd (omega arith)
  in_firsts (suc k) h j below =
      subst (In (sheet j)) (sym (firsts_suc k h)) (up_to k (λ i. In (sheet i) (sheet k ∷ firsts k)) here j (λ less. further (in_firsts k (omega arith) j less)) below)

  -- ---- whose sheets are in order

  module _ (shelf : Shelf) (ordered : (k : ℕ) → k < length line → SheetInOrder shelf k (sheet_on line k)) where
    may_follow : (k : ℕ) → k < length line → Follows (sheet k) (firsts k)
    unfolding newest_first
    may_follow zero h = tt
    may_follow (suc k) h =
        let this_one = ordered (suc k) h in
        let before = ordered k (omega arith) in
        subst (Follows (sheet (suc k))) (sym (firsts_suc k (omega arith)))
        (this_one.desks ∙ sym before.desks, this_one.cells ∙ sym before.cells, omega (arith, this_one.turn, before.turn))

    pub line_good : (k : ℕ) → k ≤ length line → good_sheets (firsts k) ≡ true
    unfolding newest_first good_sheets
    line_good zero h = refl
    line_good (suc k) h =
        ap good_sheets (firsts_suc k h) ∙ (follows (sheet k) (ordered k h).is_good (firsts k)).1 (line_good k (omega arith), may_follow k h)

    pub line_sheets : (k : ℕ) → k ≤ length line → sheets_of (book_of (take k line)) ≡ firsts k
    line_sheets k h =
        ap sheets_of (sym (line_end_to_end (take k line))) ∙ sheets_of_lem (firsts k) (are_good (firsts k) (line_good k h))

    pub line_cells : shelf.m ≤ 64 → (k : ℕ) → k ≤ length line → shelf.m ≤ cells_of (firsts k)
    unfolding newest_first
    line_cells most zero h = most
    line_cells most (suc k) h = let cells = ap cells_of (firsts_suc k h) in omega (arith, cells, (ordered k h).cells)

  -- ---- what is found

  module _ (cell : ℕ) where
    -- of the first k sheets: none after this one has the cell
    pub record SetBy (k : ℕ) (c : Content) (turn : ℕ) : Type 0 where
      pub below : turn < k
      pub e : Entry
      pub has_it : HasEntry cell (sheet turn) e
      pub content_is : content_in e ≡ c
      pub none_later : (j : ℕ) → turn < j → j < k → HasNone cell (sheet j)

    module _ (turns : (k : ℕ) → k < length line → (numbers_in (sheet k)).turn ≡ k) where
      pub set_by : (k : ℕ) → k ≤ length line → (c : Content) (turn : ℕ) → newest cell (firsts k) ≡ entry c turn → SetBy k c turn
      unfolding newest_first newest
      set_by zero h c turn p = absurd (entry_is_not_blank c turn (sym p))
      set_by (suc k) h c turn p = by_case (set_by k (omega arith) c turn) (entry_on cell (entries_in (sheet k))) refl
        where
          is : newest cell (sheet k ∷ firsts k) ≡ entry c turn
          is = ap (newest cell) (sym (firsts_suc k h)) ∙ p

          by_case : (newest cell (firsts k) ≡ entry c turn → SetBy k c turn) → (o : Option Entry) → entry_on cell (entries_in (sheet k)) ≡ o → SetBy (suc k) c turn
          by_case rest None q =
              let s = rest (sym (newest_older cell (sheet k) (firsts k) q) ∙ is) in
              record {
                below = omega (arith, s.below);
                e = s.e;
                has_it = s.has_it;
                content_is = s.content_is;
                none_later = λ j later. up_to k (λ i. HasNone cell (sheet i)) (has_none cell (sheet k) q) j (s.none_later j later);
              }
          by_case rest (Some x) q =
              let same : entry (content_in x) (numbers_in (sheet k)).turn ≡ entry c turn = sym (newest_here cell (sheet k) (firsts k) x q) ∙ is in
              let number : (numbers_in (sheet k)).turn ≡ turn = cc in
              let this_one : k ≡ turn = sym (turns k h) ∙ number in
              record {
                below = omega arith;
                e = x;
                has_it = subst (λ (i : ℕ). HasEntry cell (sheet i) x) this_one (has_entry cell (sheet k) x q);
                content_is = cc;
                none_later = λ j later below. absurd (omega arith);
              }

    pub none_set : (k : ℕ) → k ≤ length line → newest cell (firsts k) ≡ blank → (j : ℕ) → j < k → HasNone cell (sheet j)
    none_set k h p j below = newest_blank cell (firsts k) p (sheet j) (in_firsts k h j below)

    pub if_none_set : (k : ℕ) → k ≤ length line → ((j : ℕ) → j < k → HasNone cell (sheet j)) → newest cell (firsts k) ≡ blank
    unfolding newest_first newest
    if_none_set zero h none_has = refl
    if_none_set (suc k) h none_has =
        ap (newest cell) (firsts_suc k h)
        ∙ newest_older cell (sheet k) (firsts k) (found_none cell (sheet k) (none_has k (omega arith)))
        ∙ if_none_set k (omega arith) (λ j below. none_has j (omega arith))
