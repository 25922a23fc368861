-- Laws of `sheet_of`, `entries_sent`, `buffer_with` and `Sends` (specs/Pending.antt).
--   sheet_long, sheet_most                how long a desk's sheet is: 396 bytes at most
--   too_short, sent_whole                 what a call answers and leaves, by the room alone
--   sendings                              a set for `search`: what `write_sheet` knows at each of its returns, and what it then leaves and answers
--   said_sent_tells_apart : SendingsApart (specs/Promises.antt)
-- Assumes nothing.
use mathlib.Core.Path.{◌≡◌, refl, sym, ap, ◌∙◌}
use mathlib.Core.List.{List, ◌++◌}
use Prim.Native.Nat.{ℕ, ◌+◌, ◌*◌, ◌<◌, ◌≤◌}
use native.Mathlib.Omega.{arith}
use native.Mathlib.Nat.{zero-add}
use lib.IntN.{ℤ}
use lib.ListN.{length, drop}
use lib.Dec.{ltb}
use borrow.Author.Tests.{lt-ltb, le-ltb, ltb-true, ltb-false}
use Rattle.std.specs.Prelude.{Result, Ok, Err}
use Rattle.answer.specs.declared.Refusal.{Refusal}
use Rattle.answer.specs.declared.Refusal.TheVariants as refusal
use Rattle.answer.specs.Refusals.{refused_when}
use Rattle.answer.proofs.Refusals.{said_apart, when_went_on, when_refused}
use Rattle.cells.specs.Cells.{filled, count}
use Rattle.laying.specs.Laying.{laid_over}
use Rattle.laying.proofs.Laws.{laid, laid_behind}
use Rattle.sound.specs.declared.Head.{Head}
use Rattle.layout.specs.declared.Entry.{Entry}
use Rattle.layout.specs.declared.Trailer.{Trailer}
use Rattle.layout.specs.Layout.{entries_bytes, trailer_bytes, trailer_for}
use Rattle.layout.proofs.Laws.{entries_length, sheet_length}
use Rattle.pending.specs.Pending.{pending_entries, numbers_for, sheet_of, entries_sent, buffer_with, Sends}
use Rattle.pending.specs.Promises.{SendingsApart}
use Rattle.pending.proofs.Laws.Entries.{pending_length, pending_most}

module _ (h : Head) (pkind : List ℕ) (pday : List ℤ) where
  -- ---- how long

  pub sheet_long : length (sheet_of h pkind pday) ≡ 6 * length (pending_entries pkind pday) + 12
  unfolding sheet_of
  sheet_long = sheet_length (pending_entries pkind pday) (trailer_for (numbers_for h (length (pending_entries pkind pday))))

  pub sheet_most : length (sheet_of h pkind pday) ≤ 396
  sheet_most = omega (arith, sheet_long, pending_most pkind pday)

  -- ---- by the room alone

  module _ (b : List ℕ) where
    pub too_short : length b < length (sheet_of h pkind pday) → Sends h pkind pday b (Err refusal.BufferShort) b
    unfolding entries_sent buffer_with
    too_short less = record { answers = rw (lt-ltb _ _ less); buffer = rw (lt-ltb _ _ less) }

    pub sent_whole : length (sheet_of h pkind pday) ≤ length b
        → Sends h pkind pday b (Ok (length (pending_entries pkind pday))) (sheet_of h pkind pday ++ drop (length (sheet_of h pkind pday)) b)
    unfolding entries_sent buffer_with
    sent_whole room = record { answers = rw (le-ltb _ _ room); buffer = rw (le-ltb _ _ room) }

    -- ---- as the code goes

    module _ (n : ℕ) (counted : n ≡ count 64 (filled pkind)) where
      many : length (pending_entries pkind pday) ≡ n
      many = pending_length pkind pday ∙ sym counted

      pub send_short : {r : Result ℕ Refusal} {x : Refusal} → Err x ≡ refused_when refusal.BufferShort (ltb (length b) (6 * n + 12)) → r ≡ Err x → Sends h pkind pday b r b
      send_short test e =
          let w = when_refused refusal.BufferShort (ltb (length b) (6 * n + 12)) _ test in
          rw (e, w.1) (too_short (omega (arith, sheet_long, many, ltb-true (length b) (6 * n + 12) w.0)))

      pub send_fits : {u : Unit {0}} → Ok u ≡ refused_when refusal.BufferShort (ltb (length b) (6 * n + 12)) → 6 * n + 12 ≤ length b
      send_fits test = ltb-false (length b) (6 * n + 12) (when_went_on refusal.BufferShort (ltb (length b) (6 * n + 12)) test)

      module _ (room : 6 * n + 12 ≤ length b) where
        pub send_room : length (entries_bytes (pending_entries pkind pday)) ≤ length b
        send_room = omega (arith, entries_length (pending_entries pkind pday), many)

        pub send_whole : (b₁ : List ℕ) → b₁ ≡ laid_over b 0 (entries_bytes (pending_entries pkind pday))
            → (t : Trailer) → t ≡ trailer_for (numbers_for h n)
            → (b₂ : List ℕ) → b₂ ≡ laid_over b₁ (6 * n) (trailer_bytes t)
            → Sends h pkind pday b (Ok n) b₂
        unfolding sheet_of
        send_whole b₁ e₁ t is b₂ e₂ =
            let es : List Entry = pending_entries pkind pday in
            let back : 6 * n ≡ 0 + length (entries_bytes es) = omega (arith, entries_length es, many) in
            let fits : length (sheet_of h pkind pday) ≤ length b = omega (arith, sheet_long, many) in
            let all : b₂ ≡ sheet_of h pkind pday ++ drop (length (sheet_of h pkind pday)) b =
            e₂
            ∙ ap (λ (l : List ℕ). laid_over l (6 * n) (trailer_bytes t)) e₁
            ∙ ap (λ (x : Trailer). laid_over (laid_over b 0 (entries_bytes es)) (6 * n) (trailer_bytes x)) is
            ∙ ap (λ (k : ℕ). laid_over (laid_over b 0 (entries_bytes es)) (6 * n) (trailer_bytes (trailer_for (numbers_for h k)))) (sym many)
            ∙ ap (λ (k : ℕ). laid_over (laid_over b 0 (entries_bytes es)) k (trailer_bytes (trailer_for (numbers_for h (length es))))) back
            ∙ laid_behind b 0 (entries_bytes es) (trailer_bytes (trailer_for (numbers_for h (length es)))) (omega (arith, entries_length es, many))
            ∙ laid b 0 (sheet_of h pkind pday) (omega arith)
            ∙ ap (λ (k : ℕ). sheet_of h pkind pday ++ drop k b) (zero-add (length (sheet_of h pkind pday)))
            in
            rw (← many, all) (sent_whole fits)

pub ruleset sendings = (send_short, send_fits, send_room, send_whole)

-- ---- the answer

pub said_sent_tells_apart : SendingsApart
said_sent_tells_apart a b = said_apart (λ n. n) (λ n. n) (λ n. refl) a b
