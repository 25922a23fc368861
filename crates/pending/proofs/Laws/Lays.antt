-- Laws of `Lays` (specs/Parts.antt), and of the loops that lay pending entries.
--   lays_nothing, lays_more               no bytes laid; bytes laid right behind others are laid with them
--   LaidSoFar                             the entries of some cells are laid, and where they end
--   ones, eights, alls                    sets for `search`: one place, filled or not; eight places; all of them, eight at a time
-- Assumes nothing.
use mathlib.Core.Path.{◌≡◌, refl, sym, ap, ◌∙◌}
use mathlib.Core.Bool.{Bool, true, false, not}
use mathlib.Core.List.{List, [], ◌∷◌, ◌++◌, append-nil}
use Prim.Native.Nat.{ℕ, ◌+◌, ◌*◌, ◌<◌, ◌≤◌}
use native.Mathlib.Omega.{arith}
use native.Mathlib.Nat.{zero-add, add-zero}
use lib.Dec.{ltb}
use lib.IntN.{ℤ}
use lib.ListN.{length, length-append, take-append-drop}
use mir.Syntax.{w8, w32}
use mir.Val.{Fits, SFits, to_z, of_z}
use mir.Facts.{to_z-of_z}
use borrow.Author.Tests.{eq-eqb, ne_eqb, ltb-true, ltb-false, not-true}
use Rattle.laying.specs.Laying.{laid_over}
use Rattle.laying.proofs.Laws.{laid, laid_behind}
use Rattle.layout.specs.Layout.{entry_bytes, entries_bytes}
use Rattle.layout.proofs.Laws.{entries_append}
use Rattle.cells.specs.Cells.{kind_at, day_at}
use Rattle.cells.proofs.Laws.{no_place}
use Rattle.pending.specs.Pending.{entry_in, pending_entries}
use Rattle.pending.specs.Parts.{some_of_eight, pending_at, pending_from, Lays}
use Rattle.pending.proofs.Laws.Entries.{below_is_from, from_more, grows, none_of_eight}

-- ---- any bytes

pub lays_nothing : (b : List ℕ) (at : ℕ) → at ≤ length b → Lays b at [] at b
lays_nothing b at h =
    record {
      ends = sym (add-zero at);
      buffer = sym (laid b at [] (omega arith) ∙ rw (append-nil, add-zero) (take-append-drop at b));
    }

pub lays_more : (b : List ℕ) (at : ℕ) (x y : List ℕ) (end : ℕ) (b₁ : List ℕ) (end₂ : ℕ) (b₂ : List ℕ)
    → at + length x + length y ≤ length b → Lays b at x end b₁ → Lays b₁ end y end₂ b₂ → Lays b at (x ++ y) end₂ b₂
lays_more b at x y end b₁ end₂ b₂ room one two =
    record {
      ends = omega (arith, one.ends, two.ends, length-append x y);
      buffer =
          two.buffer
          ∙ ap (λ (k : ℕ). laid_over b₁ k y) one.ends
          ∙ ap (λ (l : List ℕ). laid_over l (at + length x) y) one.buffer
          ∙ laid_behind b at x y room;
    }

-- ---- one place

module _ (pkind : List ℕ) (pday : List ℤ) (i : ℕ) {kind : ℕ} (k : kind ≡ kind_at pkind i) (b : List ℕ) (at : ℕ) where
  pub lay_none : kind ≡ 0 → at + length (entries_bytes (pending_at pkind pday i)) ≤ length b → Lays b at (entries_bytes (pending_at pkind pday i)) at b
  unfolding pending_at
  lay_none z room =
      let none : pending_at pkind pday i ≡ [] = rw (eq-eqb (kind_at pkind i) 0 (sym k ∙ z)) in
      rw none (lays_nothing b at (omega (arith, room)))

  pub lay_cell : (kind ≡ 0 → ⊥) → Fits w8 i
  lay_cell some = by_test (ltb i 64) refl
    where
      by_test : (t : Bool) → ltb i 64 ≡ t → Fits w8 i
      by_test true e = record { fits = omega (arith, ltb-true i 64 e) }
      by_test false e = absurd (some (k ∙ sym (no_place 0 pkind i (ltb-false i 64 e))))

  pub lay_some : (kind ≡ 0 → ⊥) → (day : ℤ) → day ≡ day_at pday i → SFits w32 day → (p : ℕ) → p ≡ of_z w32 (to_z w32 (of_z w32 day))
      → (b' : List ℕ) → b' ≡ laid_over b at (entry_bytes (record { cell = i; kind = kind; day = p }))
      → Lays b at (entries_bytes (pending_at pkind pday i)) (at + 6) b'
  unfolding pending_at
  lay_some some day d fits p is b' laid =
      let one : pending_at pkind pday i ≡ entry_in pkind pday i ∷ [] = rw (ne_eqb (kind_at pkind i) 0 (λ z. some (k ∙ z))) in
      let same : p ≡ of_z w32 (day_at pday i) = is ∙ ap (of_z w32) (to_z-of_z fits ∙ d) in
      rw one
      (record {
        ends = refl;
        buffer = laid ∙ ap (λ (n : ℕ). laid_over b at (entry_bytes (record { cell = i; kind = n; day = p }))) k ∙ ap (λ (n : ℕ). laid_over b at (entry_bytes (record { cell = i; kind = kind_at pkind i; day = n }))) same;
      })

pub ruleset ones = (lay_none, lay_cell, lay_some)

-- ---- the entries of some cells, and of more

-- the entries of the n cells from `from` on are laid from `at` on, and end at `end`
pub record LaidSoFar (pkind : List ℕ) (pday : List ℤ) (from : ℕ) (b : List ℕ) (at : ℕ) (now : List ℕ) (end n : ℕ) : Type 0 where
  pub lays : Lays b at (entries_bytes (pending_from pkind pday from n)) end now
  pub long : length now ≡ length b

module _ (pkind : List ℕ) (pday : List ℤ) (from : ℕ) (b : List ℕ) (at : ℕ) where
  laid_none : at ≤ length b → LaidSoFar pkind pday from b at b at 0
  unfolding pending_from
  laid_none h = record { lays = lays_nothing b at h; long = refl }

  module _ (most : ℕ) (room : at + length (entries_bytes (pending_from pkind pday from most)) ≤ length b)
      (now : List ℕ) (end n : ℕ) (so : LaidSoFar pkind pday from b at now end n) (m : ℕ) (h : n + m ≤ most) where
    done : List ℕ
    done = entries_bytes (pending_from pkind pday from n)

    next : List ℕ
    next = entries_bytes (pending_from pkind pday (from + n) m)

    both : entries_bytes (pending_from pkind pday from (n + m)) ≡ done ++ next
    unfolding done next
    both = ap entries_bytes (from_more pkind pday from n m) ∙ entries_append (pending_from pkind pday from n) (pending_from pkind pday (from + n) m)

    fits : at + length done + length next ≤ length b
    fits = omega (arith, grows pkind pday from (n + m) most h, ap (λ (l : List ℕ). length l) both, length-append done next)

    laid_room : end + length (entries_bytes (pending_from pkind pday (from + n) m)) ≤ length now
    unfolding done next
    laid_room = omega (arith, fits, so.lays.ends, so.long)

    laid_more : (end₂ : ℕ) (after : List ℕ) → Lays now end (entries_bytes (pending_from pkind pday (from + n) m)) end₂ after → length after ≡ length now
        → LaidSoFar pkind pday from b at after end₂ (n + m)
    unfolding done next
    laid_more end₂ after more kept =
        record { lays = rw both (lays_more b at done next end now end₂ after fits so.lays more); long = kept ∙ so.long }

-- ---- eight places

one_place : (pkind : List ℕ) (pday : List ℤ) (i : ℕ) → pending_from pkind pday i 1 ≡ pending_at pkind pday i
unfolding pending_from
one_place pkind pday i = rw add-zero

module _ (pkind : List ℕ) (pday : List ℤ) (from : ℕ) (b : List ℕ) (at : ℕ)
    (room : at + length (entries_bytes (pending_from pkind pday from 8)) ≤ length b) where
  pub eight_none : (some : Bool) → some ≡ some_of_eight pkind from → not some ≡ true → Lays b at (entries_bytes (pending_from pkind pday from 8)) at b
  eight_none some is off = rw (none_of_eight pkind pday from (sym is ∙ not-true some off)) (lays_nothing b at (omega (arith, room)))

  pub eight_begun : LaidSoFar pkind pday from b at b at 0
  eight_begun = laid_none pkind pday from b at (omega (arith, room))

  module _ (now : List ℕ) (end i : ℕ) (so : LaidSoFar pkind pday from b at now end i) where
    pub eight_room : i < 8 → end + length (entries_bytes (pending_at pkind pday (from + i))) ≤ length now
    eight_room h = rw (← (one_place pkind pday (from + i))) (laid_room pkind pday from b at 8 room now end i so 1 (omega arith))

    pub eight_turned : i < 8 → (end₂ : ℕ) (after : List ℕ) → Lays now end (entries_bytes (pending_at pkind pday (from + i))) end₂ after → length after ≡ length now
        → LaidSoFar pkind pday from b at after end₂ (i + 1)
    eight_turned h end₂ after more kept = laid_more pkind pday from b at 8 room now end i so 1 (omega arith) end₂ after (rw one_place more) kept

    pub eight_ended : i ≤ 8 → 8 ≤ i → Lays b at (entries_bytes (pending_from pkind pday from 8)) end now
    eight_ended h l = let all : i ≡ 8 = omega arith in rw all at so.lays

pub ruleset eights = (eight_none, eight_begun, eight_room, eight_turned, eight_ended)

-- ---- all places, eight at a time

module _ (pkind : List ℕ) (pday : List ℤ) (b : List ℕ) (room : length (entries_bytes (pending_entries pkind pday)) ≤ length b) where
  whole : entries_bytes (pending_entries pkind pday) ≡ entries_bytes (pending_from pkind pday 0 64)
  whole = ap entries_bytes (below_is_from pkind pday 64)

  room_from : 0 + length (entries_bytes (pending_from pkind pday 0 64)) ≤ length b
  room_from = omega (arith, room, ap (λ (l : List ℕ). length l) whole)

  pub all_begun : LaidSoFar pkind pday 0 b 0 b 0 0
  all_begun = laid_none pkind pday 0 b 0 (omega arith)

  module _ (now : List ℕ) (end i : ℕ) (so : LaidSoFar pkind pday 0 b 0 now end (8 * i)) where
    pub all_room : i < 8 → end + length (entries_bytes (pending_from pkind pday (8 * i) 8)) ≤ length now
    all_room h = rw zero-add at (laid_room pkind pday 0 b 0 64 room_from now end (8 * i) so 8 (omega arith))

    pub all_turned : i < 8 → (end₂ : ℕ) (after : List ℕ) → Lays now end (entries_bytes (pending_from pkind pday (8 * i) 8)) end₂ after → length after ≡ length now
        → LaidSoFar pkind pday 0 b 0 after end₂ (8 * (i + 1))
    all_turned h end₂ after more kept =
        let on : 8 * (i + 1) ≡ 8 * i + 8 = omega arith in
        rw on (laid_more pkind pday 0 b 0 64 room_from now end (8 * i) so 8 (omega arith) end₂ after (rw (zero-add (8 * i)) more) kept)

    pub all_ended : i ≤ 8 → 8 ≤ i → now ≡ laid_over b 0 (entries_bytes (pending_entries pkind pday))
    all_ended h l =
        let all : 8 * i ≡ 64 = omega arith in
        so.lays.buffer ∙ ap (λ (k : ℕ). laid_over b 0 (entries_bytes (pending_from pkind pday 0 k))) all ∙ ap (laid_over b 0) (sym whole)

pub ruleset alls = (all_begun, all_room, all_turned, all_ended)
