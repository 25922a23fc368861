-- Laws of `pending_below` (specs/Pending.antt) and of `pending_at`, `pending_from` (specs/Parts.antt).
--   below_is_from, from_more, none_of_eight       the entries of the cells as they are laid, some at a time; where none of eight is filled there are none
--   some_is                                       some of eight places, as `any` looks through the part of the array
--   grows                                         the entries of fewer cells take no more bytes
--   pending_length, pending_most                  as many entries as filled places, 64 at most
-- Assumes nothing.
use mathlib.Core.Path.{◌≡◌, refl, sym, ap, ◌∙◌}
use mathlib.Core.Bool.{Bool, true, false, cond, not, ◌||◌}
use mathlib.Core.List.{List, [], ◌∷◌, ◌++◌, append_assoc, append-nil}
use Prim.Native.Nat.{ℕ, zero, suc, ◌+◌, ◌-◌, ◌≤◌, ◌<◌}
use native.Mathlib.Omega.{arith}
use native.Mathlib.Nat.{zero-add, add-zero, add-suc}
use lib.IntN.{ℤ}
use lib.ListN.{length, get_or, take, drop, length-append, length-take, length-drop}
use lib.Seq.{get_or-take, get_or-drop}
use borrow.Author.Tests.{eq-eqb, ne_eqb}
use Rattle.std.specs.Bool.{MatchBool}
use Rattle.std.specs.List.{HoldsAt, AllWithin}
use Rattle.numbers.proofs.Tests.{tested}
use Rattle.cells.specs.Cells.{kind_at, filled, anywhere, count}
use Rattle.cells.proofs.Laws.{in_place, some_if, none_if, count_within}
use Rattle.layout.specs.declared.Entry.{Entry}
use Rattle.layout.specs.Layout.{entries_bytes}
use Rattle.layout.proofs.Laws.{entries_append}
use Rattle.pending.specs.Pending.{entry_in, pending_below, pending_entries}
use Rattle.pending.specs.Parts.{some_of_eight, pending_at, pending_from}

-- ---- some of eight

eights : (a b c d e f g h : Bool) → ((a || b) || (c || d)) || ((e || f) || (g || h)) ≡ ((((((a || b) || c) || d) || e) || f) || g) || h
eights true b c d e f g h = refl
eights false true c d e f g h = refl
eights false false true d e f g h = refl
eights false false false true e f g h = refl
eights false false false false true f g h = refl
eights false false false false false true g h = refl
eights false false false false false false g h = refl

module _ (pkind : List ℕ) (from : ℕ) where
  eight_places : some_of_eight pkind from ≡ anywhere 8 (λ k. filled pkind (from + k))
  unfolding anywhere
  eight_places =
      rw (add-zero from)
      (eights (filled pkind from) (filled pkind (from + 1)) (filled pkind (from + 2)) (filled pkind (from + 3)) (filled pkind (from + 4)) (filled pkind (from + 5)) (filled pkind (from + 6)) (filled pkind (from + 7)))

  module _ (long : length pkind ≡ 64) (within : from + 8 ≤ 64) where
    -- the part of the array that the code looks through
    part : List ℕ
    part = take 8 (drop from pkind)

    in_part : (k : ℕ) → k < 8 → get_or part k 0 ≡ kind_at pkind (from + k)
    unfolding part
    in_part k h = get_or-take 8 (drop from pkind) k 0 h ∙ get_or-drop from pkind k 0 ∙ in_place 0 pkind (from + k) (omega arith)

    pub some_is : (r : Bool)
        → MatchBool r ((k : ℕ) × (k < length (take 8 (drop from pkind))) × HoldsAt (λ x. x ≡ 0 → ⊥) (take 8 (drop from pkind)) k) (AllWithin (λ x. x ≡ 0) (take 8 (drop from pkind)) 0 (length (take 8 (drop from pkind))))
        → r ≡ some_of_eight pkind from
    unfolding part
    some_is true s =
        let below : s.0 < 8 = omega (arith, s.1, length-take 8 (drop from pkind)) in
        sym (eight_places ∙ some_if 8 (λ k. filled pkind (from + k)) s.0 below (ap not (ne_eqb (kind_at pkind (from + s.0)) 0 (λ e. s.2 0 (in_part s.0 below ∙ e)))))
    some_is false all =
        sym (eight_places ∙ none_if 8 (λ k. filled pkind (from + k)) (λ k h.
        let inside : k < length (take 8 (drop from pkind)) = omega (arith, long, length-take 8 (drop from pkind), length-drop from pkind) in
        ap not (eq-eqb (kind_at pkind (from + k)) 0 (sym (in_part k h) ∙ all k 0 (omega arith) inside))))

module _ (pkind : List ℕ) (pday : List ℤ) where
  -- ---- some cells at a time

  pub below_is_from : (n : ℕ) → pending_below pkind pday n ≡ pending_from pkind pday 0 n
  unfolding pending_below pending_at pending_from
  below_is_from zero = refl
  below_is_from (suc n) = rw (below_is_from n, zero-add n)

  pub from_more : (from m n : ℕ) → pending_from pkind pday from (m + n) ≡ pending_from pkind pday from m ++ pending_from pkind pday (from + m) n
  unfolding pending_from
  from_more from m zero = rw add-zero (sym (append-nil (pending_from pkind pday from m)))
  from_more from m (suc n) =
      let on : from + (m + n) ≡ from + m + n = omega arith in
      ap (pending_from pkind pday from) (add-suc m n)
      ∙ ap (λ (es : List Entry). es ++ pending_at pkind pday (from + (m + n))) (from_more from m n)
      ∙ ap (λ (k : ℕ). (pending_from pkind pday from m ++ pending_from pkind pday (from + m) n) ++ pending_at pkind pday k) on
      ∙ append_assoc (pending_from pkind pday from m) (pending_from pkind pday (from + m) n) (pending_at pkind pday (from + m + n))

  pub grows : (from m n : ℕ) → m ≤ n → length (entries_bytes (pending_from pkind pday from m)) ≤ length (entries_bytes (pending_from pkind pday from n))
  grows from m n h =
      let one : n ≡ m + (n - m) = omega arith in
      let a : List Entry = pending_from pkind pday from m in
      let b : List Entry = pending_from pkind pday (from + m) (n - m) in
      let whole : entries_bytes (pending_from pkind pday from n) ≡ entries_bytes a ++ entries_bytes b =
      ap (λ (k : ℕ). entries_bytes (pending_from pkind pday from k)) one ∙ ap entries_bytes (from_more from m (n - m)) ∙ entries_append a b
      in
      omega (arith, ap (λ (l : List ℕ). length l) whole, length-append (entries_bytes a) (entries_bytes b))

  -- ---- none of eight

  none_at : (i : ℕ) → filled pkind i ≡ false → pending_at pkind pday i ≡ []
  unfolding pending_at
  none_at i e = rw e

  pub none_of_eight : (from : ℕ) → some_of_eight pkind from ≡ false → pending_from pkind pday from 8 ≡ []
  unfolding pending_from
  none_of_eight from e =
      rw (add-zero from, none_at from (search tested), none_at (from + 1) (search tested), none_at (from + 2) (search tested), none_at (from + 3) (search tested), none_at (from + 4) (search tested), none_at (from + 5) (search tested), none_at (from + 6) (search tested), none_at (from + 7) (search tested))

  -- ---- how many

  below_length : (n : ℕ) → length (pending_below pkind pday n) ≡ count n (filled pkind)
  unfolding pending_below count
  below_length zero = refl
  below_length (suc n) =
      length-append (pending_below pkind pday n) (cond (filled pkind n) (entry_in pkind pday n ∷ []) [])
      ∙ rw (below_length n) (ap (λ (k : ℕ). count n (filled pkind) + k) (one (filled pkind n)))
    where
      one : (t : Bool) → length (cond t (entry_in pkind pday n ∷ []) []) ≡ cond t 1 0
      one true = refl
      one false = refl

  pub pending_length : length (pending_entries pkind pday) ≡ count 64 (filled pkind)
  pending_length = below_length 64

  pub pending_most : length (pending_entries pkind pday) ≤ 64
  pending_most = omega (arith, pending_length, count_within 64 (filled pkind))
