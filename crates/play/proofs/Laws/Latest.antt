-- A sender's latest sheet on the line (`latest_of`, specs/Steps.antt), and its place in the bytes that the code keeps it in.
--   latest_more                       one sheet more: it is its sender's latest
--   LatestIs, Kept, nothing_kept      what lies in each desk's place is its latest sheet; at first there is none
--   kept_send                         so it is after a send
-- Assumes nothing.
use Prim.Native.Nat.{ℕ, suc, ◌+◌, ◌*◌, ◌<◌, ◌≤◌}
use mathlib.Core.Path.{◌≡◌, refl, sym, ap, ◌∙◌, subst}
use mathlib.Core.Bool.{true, false, cond}
use mathlib.Core.List.{List, [], ◌∷◌, ◌++◌, append-nil}
use mathlib.Core.Option.{Option, none, some}
use native.Mathlib.Omega.{arith}
use native.Mathlib.Decide.{ℕ_discrete}
use lib.Dec.{eqb}
use lib.ListN.{length, take, drop, length-append}
use lib.Seq.{length-take-le}
use borrow.Author.Tests.{eq-eqb, ne_eqb}
use Rattle.tray.specs.Tray.{length_at, free, sheet_at, held_in}
use Rattle.tray.proofs.Laws.Places.{held_long, Held, held_found, SamePlace, held_others, same_length_at, same_free, same_sheet}
use Rattle.pending.specs.Pending.{pending_entries, sheet_of}
use Rattle.pending.proofs.Laws.Sending.{sheet_long, sheet_most}
use Rattle.desk.specs.declared.Desk.{Desk}
use Rattle.desk.specs.Answers.{sent, Done}
use Rattle.desk.specs.Calls.{send_rules, sent_desk, send_of}
use Rattle.runs.specs.Run.{SentSheet, sheet_on, sheet_left}
use Rattle.runs.proofs.Laws.Steps.{by_call}
use Rattle.runs.proofs.Laws.Line.{more_long, more_same, more_last}
use Rattle.play.specs.Steps.{latest_from, latest_of}
use Rattle.play.specs.Parts.Making.{latest_with, LatestFit, LatestFits}

-- ---- on the line

from_more : (q k : ℕ) (found : Option ℕ) (line : List SentSheet) (y : SentSheet)
    → latest_from q k found (line ++ (y ∷ [])) ≡ cond (eqb y.from q) (some (k + length line)) (latest_from q k found line)
unfolding latest_from
from_more q k found [] y = let here : k ≡ k + 0 = omega arith in ap (λ (i : ℕ). cond (eqb y.from q) (some i) found) here
from_more q k found (x ∷ line) y =
    let there : suc k + length line ≡ k + suc (length line) = omega arith in
    from_more q (suc k) (cond (eqb x.from q) (some k) found) line y
    ∙ ap (λ (i : ℕ). cond (eqb y.from q) (some i) (latest_from q (suc k) (cond (eqb x.from q) (some k) found) line)) there

pub latest_more : (q : ℕ) (line : List SentSheet) (y : SentSheet) → latest_of q (line ++ (y ∷ [])) ≡ cond (eqb y.from q) (some (length line)) (latest_of q line)
unfolding latest_of
latest_more q line y = let all : 0 + length line ≡ length line = omega arith in from_more q 0 none line y ∙ ap (λ (i : ℕ). cond (eqb y.from q) (some i) (latest_from q 0 none line)) all

-- ---- in its place

-- what lies in the place of desk q: nothing, or the sheet before which k were sent
pub data LatestIs (latest : List ℕ) (q : ℕ) (line : List SentSheet) : Option ℕ → Type 0 where
  none_yet : free latest q ≡ true → LatestIs latest q line none
  sheet_there : (k : ℕ) → k < length line → free latest q ≡ false → sheet_at latest q ≡ (sheet_on line k).bytes → LatestIs latest q line (some k)

pub record Kept (n : ℕ) (line : List SentSheet) (latest : List ℕ) : Type 0 where
  pub long : length latest ≡ 6368
  pub fits : LatestFits latest
  pub each : (q : ℕ) → q < n → LatestIs latest q line (latest_of q line)

same_there : (line : List SentSheet) (y : SentSheet) (t u : List ℕ) (q : ℕ) → SamePlace t u q → LatestFit u q → {found : Option ℕ} → LatestIs u q line found → LatestIs t q (line ++ (y ∷ [])) found
same_there line y t u q same fit (none_yet f) = none_yet (same_free t u q same ∙ f)
same_there line y t u q same fit (sheet_there k l f e) =
    sheet_there k (omega (arith, more_long line y)) (same_free t u q same ∙ f)
    (same_sheet t u q same (omega (arith, same_length_at t u q same, fit.most)) ∙ e ∙ ap (λ (x : SentSheet). x.bytes) (sym (more_same line y k l)))

module _ (n : ℕ) (line : List SentSheet) (latest : List ℕ) (kept : Kept n line latest) (most : n ≤ 16) (p : ℕ) (l : p < n) where
  -- a sheet more, in its sender's place
  kept_more : (b : List ℕ) → 12 ≤ length b → length b ≤ 396 → Kept n (line ++ (record { from = p; bytes = b } ∷ [])) (held_in latest p b)
  kept_more b least few =
      record {
        long = held_long latest p b ∙ kept.long;
        fits = λ q m. by_fit q m (ℕ_discrete q p);
        each = λ q m. by_place q m (ℕ_discrete q p);
      }
    where
      y : SentSheet
      y = record { from = p; bytes = b }

      there : Held (held_in latest p b) p b
      there = held_found latest p b few (kept.fits p (omega arith)).there

      by_fit : (q : ℕ) → q < 16 → Dec (q ≡ p) → LatestFit (held_in latest p b) q
      by_fit q m (yes e) =
          record { there = omega (arith, held_long latest p b, (kept.fits q m).there); most = rw e (omega (arith, there.length_is)) }
      by_fit q m (no e) =
          record {
            there = omega (arith, held_long latest p b, (kept.fits q m).there);
            most = omega (arith, same_length_at (held_in latest p b) latest q (held_others latest q p b e), (kept.fits q m).most);
          }

      by_place : (q : ℕ) → q < n → Dec (q ≡ p) → LatestIs (held_in latest p b) q (line ++ (y ∷ [])) (latest_of q (line ++ (y ∷ [])))
      by_place q m (yes e) =
          rw (latest_more q line y, e, eq-eqb p p refl)
          (sheet_there (length line) (omega (arith, more_long line y)) (ne_eqb (length_at (held_in latest p b) p) 0 (λ z. absurd (omega (arith, there.length_is))))
          (there.sheet_is ∙ ap (λ (x : SentSheet). x.bytes) (sym (more_last line y))))
      by_place q m (no e) =
          rw (latest_more q line y, ne_eqb p q (λ z. e (sym z)))
          (same_there line y (held_in latest p b) latest q (held_others latest q p b e) (kept.fits q (omega arith)) (kept.each q m))

  -- a send: the line and the places have the sheet that was left, if one was
  pub kept_send : (d : Desk) (buf : List ℕ) → let done = send_of d buf in Kept n (line ++ sheet_left p done.answer done.lent) (latest_with latest p (sheet_left p done.answer done.lent))
  unfolding send_of
  kept_send d buf =
      let sheet : List ℕ = sheet_of d.head d.pkind d.pday in
      let many : ℕ = 6 * length (pending_entries d.pkind d.pday) + 12 in
      let lent : List ℕ = sheet ++ drop (length sheet) buf in
      let size : length (take many lent) ≡ many = length-take-le many lent (omega (arith, sheet_long d.head d.pkind d.pday, length-append sheet (drop (length sheet) buf))) in
      by_call (λ (x : Done). Kept n (line ++ sheet_left p x.answer x.lent) (latest_with latest p (sheet_left p x.answer x.lent))) (send_rules d buf) d buf
      (sent d.head.turn (length (pending_entries d.pkind d.pday)))
      (sent_desk d)
      lent
      (λ k first. subst (λ (x : List SentSheet). Kept n x latest) (sym (append-nil line)) kept)
      (λ silent. kept_more (take many lent) (omega arith) (omega (arith, sheet_most d.head d.pkind d.pday, sheet_long d.head d.pkind d.pday)))
