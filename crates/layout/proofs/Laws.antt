-- Laws of the layout (specs/Layout.antt).
--   entries_count, entry_of_entries    the entries that bytes begin with, one by one
--   entries_length, sheet_length       how long entries and a sheet are
--   entries_back, trailer_back         what was written as bytes is what the bytes hold
--   sheet_again                        bytes that hold as many entries as they say are the sheet of what they hold
--   contents_apart : ContentsApart, content_in_entry : ContentInEntry, open_meets_no_day : OpenMeetsNoDay (specs/Promises.antt)
-- Assumes nothing.
use mathlib.Core.Path.{◌≡◌, refl, sym, ap, ◌∙◌}
use mathlib.Core.List.{List, [], ◌∷◌, ◌++◌}
use Prim.Native.Nat.{ℕ, zero, suc, ◌+◌, ◌*◌, ◌-◌, ◌<◌, ◌≤◌}
use native.Mathlib.Omega.{arith}
use native.Mathlib.Nat.{not-suc-le-zero, le_of_suc-le-suc}
use lib.ListN.{length, get_or, take, drop, length-append, length-drop, take-append-drop}
use lib.Seq.{drop-drop, drop_at, take-add, take_all}
use mir.Facts.{to_z-of_z, Fits-of_z}
use Rattle.numbers.specs.Numbers.{bytes, at1}
use Rattle.numbers.proofs.Laws.{none, more, num_bytes, bytes_num}
use Rattle.content.proofs.Laws.Content.{content_again}
use Rattle.layout.specs.declared.Entry.{Entry}
use Rattle.layout.specs.declared.Trailer.{Trailer}
use Rattle.layout.specs.Promises.{ContentsApart, ContentInEntry, OpenMeetsNoDay}
use Rattle.layout.specs.Values.{AreBytes, DaysFit, no_days, a_day}
use Rattle.layout.specs.Layout.{entry_bytes, entries_bytes, trailer_bytes, sheet_bytes, entry_of, entries_of, trailer_of, trailer_in, entry_for, content_in}
use Rattle.layout.proofs.Bytes.{back_bytes}

-- ---- entries, one by one

pub entries_count : (n : ℕ) (s : List ℕ) → length (entries_of n s) ≡ n
entries_count zero s = refl
entries_count (suc n) s = ap suc (entries_count n (drop 6 s))

-- entry k of the entries that bytes begin with
pub entry_of_entries : (n k : ℕ) (s : List ℕ) (d : Entry) → k < n → get_or (entries_of n s) k d ≡ entry_of (drop (6 * k) s)
entry_of_entries zero k s d h = absurd (not-suc-le-zero h)
entry_of_entries (suc n) zero s d h = refl
entry_of_entries (suc n) (suc k) s d h =
    let on : 6 + 6 * k ≡ 6 * suc k = omega arith in
    entry_of_entries n k (drop 6 s) d (le_of_suc-le-suc h) ∙ ap entry_of (drop-drop (6 * k) 6 s ∙ ap (λ (i : ℕ). drop i s) on)

-- ---- lengths

pub entries_length : (es : List Entry) → length (entries_bytes es) ≡ 6 * length es
entries_length [] = refl
entries_length (e ∷ es) = omega (arith, entries_length es)

pub entries_append : (a b : List Entry) → entries_bytes (a ++ b) ≡ entries_bytes a ++ entries_bytes b
entries_append [] b = refl
entries_append (e ∷ a) b = ap (λ (l : List ℕ). entry_bytes e ++ l) (entries_append a b)

pub sheet_length : (es : List Entry) (t : Trailer) → length (sheet_bytes es t) ≡ 6 * length es + 12
sheet_length es t = rw (length-append, entries_length)

-- ---- from values to bytes and back

-- a trailer's numbers have room in their bytes
pub record TrailerFits (t : Trailer) : Type 0 where
  pub distance : t.distance < 65536
  pub turn : t.turn < 4294967296

pub entries_back : {es : List Entry} → DaysFit es → (rest : List ℕ) → entries_of (length es) (entries_bytes es ++ rest) ≡ es
entries_back no_days rest = refl
entries_back (a_day {e = e} h f) rest = rw (num_bytes 4 e.day h, entries_back f rest)

pub trailer_back : (es : List Entry) (t : Trailer) → TrailerFits t → trailer_in (sheet_bytes es t) ≡ t
trailer_back es t h =
    let at : length (entries_bytes es) ≡ length (sheet_bytes es t) - 12 = omega (arith, sheet_length es t, entries_length es) in
    ap trailer_of (drop_at (entries_bytes es) (trailer_bytes t) (length (sheet_bytes es t) - 12) at)
    ∙ rw (num_bytes 2 t.distance h.distance, num_bytes 4 t.turn h.turn)

-- ---- from bytes to values and back

-- k bytes of l from index i on
abbrev row : List ℕ → ℕ → ℕ → List ℕ
row l zero i = []
row l (suc k) i = at1 l i ∷ row l k (suc i)

row_shift : (x : ℕ) (l : List ℕ) (k i : ℕ) → row (x ∷ l) k (suc i) ≡ row l k i
row_shift x l zero i = refl
row_shift x l (suc k) i = ap (λ (r : List ℕ). at1 l i ∷ r) (row_shift x l k (suc i))

row_take : (k : ℕ) (l : List ℕ) → k ≤ length l → row l k 0 ≡ take k l
row_take zero l h = refl
row_take (suc k) [] h = absurd (not-suc-le-zero h)
row_take (suc k) (x ∷ l) h = ap (λ (r : List ℕ). x ∷ r) (row_shift x l k 0 ∙ row_take k l (le_of_suc-le-suc h))

entry_bytes_lem : (l : List ℕ) → AreBytes l → 6 ≤ length l → entry_bytes (entry_of l) ≡ take 6 l
entry_bytes_lem l b h =
    ap (λ (q : List ℕ). at1 l 0 ∷ at1 l 1 ∷ q) (bytes_num (more (b 2) (more (b 3) (more (b 4) (more (b 5) none)))))
    ∙ row_take 6 l h

trailer_bytes_lem : (l : List ℕ) → AreBytes l → length l ≡ 12 → trailer_bytes (trailer_of l) ≡ l
trailer_bytes_lem l b h =
    let mid : List ℕ = at1 l 2 ∷ at1 l 3 ∷ at1 l 4 ∷ at1 l 5 ∷ at1 l 6 ∷ at1 l 7 ∷ [] in
    ap (λ (q : List ℕ). q ++ mid ++ bytes 4 (trailer_of l).turn) (bytes_num (more (b 0) (more (b 1) none)))
    ∙ ap (λ (q : List ℕ). at1 l 0 ∷ at1 l 1 ∷ mid ++ q) (bytes_num (more (b 8) (more (b 9) (more (b 10) (more (b 11) none)))))
    ∙ row_take 12 l (omega arith)
    ∙ take_all 12 l (omega arith)

entries_bytes_lem : (n : ℕ) (l : List ℕ) → AreBytes l → 6 * n ≤ length l → entries_bytes (entries_of n l) ≡ take (6 * n) l
entries_bytes_lem zero l b h = refl
entries_bytes_lem (suc n) l b h =
    let one : 6 * suc n ≡ 6 + 6 * n = omega arith in
    rw one
    (ap (λ (q : List ℕ). q ++ entries_bytes (entries_of n (drop 6 l))) (entry_bytes_lem l b (omega arith))
    ∙ ap (λ (q : List ℕ). take 6 l ++ q) (entries_bytes_lem n (drop 6 l) (back_bytes 6 l b) (omega (arith, length-drop 6 l)))
    ∙ sym (take-add 6 (6 * n) l))

pub sheet_again : (s : List ℕ) (n : ℕ) → AreBytes s → length s ≡ 6 * n + 12 → sheet_bytes (entries_of n s) (trailer_in s) ≡ s
sheet_again s n b long =
    let at : length s - 12 ≡ 6 * n = omega arith in
    let es : entries_bytes (entries_of n s) ≡ take (6 * n) s = entries_bytes_lem n s b (omega arith) in
    let t : trailer_bytes (trailer_in s) ≡ drop (6 * n) s =
    trailer_bytes_lem (drop (length s - 12) s) (back_bytes (length s - 12) s b) (omega (arith, length-drop (length s - 12) s)) ∙ ap (λ (k : ℕ). drop k s) at
    in
    ap (λ (x : List ℕ). x ++ trailer_bytes (trailer_in s)) es ∙ ap (λ (x : List ℕ). take (6 * n) s ++ x) t ∙ take-append-drop (6 * n) s

-- ---- contents

pub content_in_entry : ContentInEntry
content_in_entry cell c h = rw (to_z-of_z h) (content_again c)

-- ---- "empty is not zero and not yesterday", on the line

entry_back : (e : Entry) → e.day < 4294967296 → entry_of (entry_bytes e) ≡ e
entry_back e h = rw (num_bytes 4 e.day h)

pub contents_apart : ContentsApart
contents_apart cell c d hc hd same =
    sym (content_in_entry cell c hc)
    ∙ ap content_in (sym (entry_back (entry_for cell c) (Fits-of_z hc).fits) ∙ ap entry_of same ∙ entry_back (entry_for cell d) (Fits-of_z hd).fits)
    ∙ content_in_entry cell d hd

-- 01, "Slips to rule out": "treating kind 1 as a day of zero"
pub open_meets_no_day : OpenMeetsNoDay
open_meets_no_day cell d same = let z : ◌≡◌ {A = ℕ} 1 2 = cc in omega arith
