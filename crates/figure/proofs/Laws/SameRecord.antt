-- A sound record is settled by its process and the rest (specs/Demand2.antt): a kind and a day are found again in their content, since a
-- sound record's kinds are 0, 1 and 2, and "day numbers are 0 unless the content is a day".
--   kind_again, day_again           a kind and a day, from their content
--   same_kinds, same_days           so two arrays of each with the same contents are the same
--   pending_content, wait_again     a pending place from updates_p, and the waiting read from the blocked one
--   same_record                     two records with the same rest that are the same process are the same
-- Assumes nothing.
use Prim.Native.Nat.{ℕ, ◌+◌, ◌-◌, ◌<◌, ◌≤◌}
use mathlib.Core.Path.{◌≡◌, refl, sym, ap, ◌∙◌}
use mathlib.Core.Bool.{Bool, true, false}
use mathlib.Core.List.{List}
use mathlib.Core.Option.{Option, none, some}
use native.Mathlib.Omega.{arith}
use lib.Dec.{eqb}
use lib.IntN.{ℤ, pos}
use lib.ListN.{length}
use lib.Seq.{ext_get_or}
use borrow.Author.Tests.{eqb-true, eqb-false}
use Rattle.content.specs.declared.Content.{Content}
use Rattle.content.specs.declared.Content.TheVariants.{Blank}
use Rattle.content.specs.Content.{kind_of, day_of, content_of}
use Rattle.cells.specs.Cells.{place_at, kind_at, day_at, content_at}
use Rattle.cells.proofs.Laws.{in_place}
use Rattle.sound.specs.Sound.{day_fits}
use Rattle.sound.proofs.Laws.Days.{same_day_lem}
use Rattle.desk.specs.declared.Desk.{Desk}
use Rattle.desk.proofs.Laws.Allowed.{desk_says}
use Rattle.figure.specs.Figure1.{Process}
use Rattle.figure.specs.Map.{updates_of, process_of}
use Rattle.figure.specs.Demand2.{Rest, SoundWith}

-- ---- a kind and a day, from their content

module _ (k : ℕ) (d : ℤ) (small : k ≤ 2) where
  kind_again : kind_of (content_of k d) ≡ k
  kind_again = by_tests (eqb k 1) (eqb k 2) refl refl
    where
      by_tests : (s t : Bool) → eqb k 1 ≡ s → eqb k 2 ≡ t → kind_of (content_of k d) ≡ k
      by_tests true t p q = rw p (sym (eqb-true k 1 p))
      by_tests false true p q = rw (p, q) (sym (eqb-true k 2 q))
      by_tests false false p q = let a = eqb-false k 1 p in let b = eqb-false k 2 q in let z : 0 ≡ k = omega arith in rw (p, q) z

  day_again : day_fits k d ≡ true → day_of (content_of k d) ≡ d
  day_again fits = by_tests (eqb k 1) (eqb k 2) refl refl
    where
      by_tests : (s t : Bool) → eqb k 1 ≡ s → eqb k 2 ≡ t → day_of (content_of k d) ≡ d
      by_tests s true p q = rw (eqb-true k 2 q)
      by_tests true false p q = rw p (sym (same_day_lem d (pos 0) (rw q at fits)))
      by_tests false false p q = rw (p, q) (sym (same_day_lem d (pos 0) (rw q at fits)))

-- ---- places

same_places : {A : Type 0} (a : A) (l m : List A) → length l ≡ 64 → length m ≡ 64 → ((i : ℕ) → i < 64 → place_at a l i ≡ place_at a m i) → l ≡ m
same_places a l m long long' same =
    ext_get_or a l m (long ∙ sym long') (λ i h. let b : i < 64 = omega arith in in_place a l i b ∙ same i b ∙ sym (in_place a m i b))

-- two arrays of kinds, and two of days, whose contents are the same
module _ (kind kind' : List ℕ) (day day' : List ℤ) (same : (i : ℕ) → content_at kind day i ≡ content_at kind' day' i)
    (small : (i : ℕ) → i < 64 → kind_at kind i ≤ 2) (small' : (i : ℕ) → i < 64 → kind_at kind' i ≤ 2) where
  same_kinds : length kind ≡ 64 → length kind' ≡ 64 → kind ≡ kind'
  same_kinds long long' =
      same_places 0 kind kind' long long'
      (λ i h.
      sym (kind_again (kind_at kind i) (day_at day i) (small i h))
      ∙ ap kind_of (same i)
      ∙ kind_again (kind_at kind' i) (day_at day' i) (small' i h))

  same_days : ((i : ℕ) → i < 64 → day_fits (kind_at kind i) (day_at day i) ≡ true) → ((i : ℕ) → i < 64 → day_fits (kind_at kind' i) (day_at day' i) ≡ true)
      → length day ≡ 64 → length day' ≡ 64 → day ≡ day'
  same_days fit fit' long long' =
      same_places (pos 0) day day' long long'
      (λ i h.
      sym (day_again (kind_at kind i) (day_at day i) (small i h) (fit i h))
      ∙ ap day_of (same i)
      ∙ day_again (kind_at kind' i) (day_at day' i) (small' i h) (fit' i h))

-- ---- pending places, and the waiting read

-- the content of a pair, and blank where there is none
or_blank : Option Content → Content
or_blank none = Blank
or_blank (some c) = c

pending_content : (pkind : List ℕ) (pday : List ℤ) (i : ℕ) → or_blank (updates_of pkind pday i) ≡ content_at pkind pday i
unfolding or_blank
pending_content pkind pday i = by_test (eqb (kind_at pkind i) 0) refl
  where
    by_test : (t : Bool) → eqb (kind_at pkind i) 0 ≡ t → or_blank (updates_of pkind pday i) ≡ content_at pkind pday i
    by_test true p = rw (p, eqb-true (kind_at pkind i) 0 p)
    by_test false p = rw p

-- a record's `wait`, from its blocked read
wait_of : Option ℕ → ℕ
wait_of none = 0
wait_of (some x) = x + 1

wait_again : (d : Desk) (tray : List ℕ) → wait_of (process_of d tray).blocked ≡ d.head.wait
unfolding wait_of
wait_again d tray = by_test (eqb d.head.wait 0) refl
  where
    by_test : (t : Bool) → eqb d.head.wait 0 ≡ t → wait_of (process_of d tray).blocked ≡ d.head.wait
    by_test true p = rw p (sym (eqb-true d.head.wait 0 p))
    by_test false p = let some_wait = eqb-false d.head.wait 0 p in let z : d.head.wait - 1 + 1 ≡ d.head.wait = omega arith in rw p z

-- ---- the record

pub same_record : {rest : Rest} (d e : Desk) (tray : List ℕ) → SoundWith rest d → SoundWith rest e → process_of d tray ≡ process_of e tray → d ≡ e
same_record d e tray one other same =
    let s = desk_says d one.is_sound in
    let s' = desk_says e other.is_sound in
    let fits = one.fits in
    let fits' = other.fits in
    let rest = one.rest_is ∙ sym other.rest_is in
    let shelf : (i : ℕ) → content_at d.kind d.day i ≡ content_at e.kind e.day i = λ i. ap (λ (x : Process Content). x.copy i) same in
    let pending : (i : ℕ) → content_at d.pkind d.pday i ≡ content_at e.pkind e.pday i =
    λ i. sym (pending_content d.pkind d.pday i) ∙ ap (λ (x : Process Content). or_blank (x.updates i)) same ∙ pending_content e.pkind e.pday i
    in
    let wait : d.head.wait ≡ e.head.wait = sym (wait_again d tray) ∙ ap (λ (x : Process Content). wait_of x.blocked) same ∙ wait_again e tray in
    let kinds = same_kinds d.kind e.kind d.day e.day shelf s.kind_is s'.kind_is fits.kinds fits'.kinds in
    let days = same_days d.kind e.kind d.day e.day shelf s.kind_is s'.kind_is s.day_fits_lem s'.day_fits_lem fits.days fits'.days in
    let pkinds = same_kinds d.pkind e.pkind d.pday e.pday pending s.pkind_is s'.pkind_is fits.pkinds fits'.pkinds in
    let pdays = same_days d.pkind e.pkind d.pday e.pday pending s.pkind_is s'.pkind_is s.pday_fits s'.pday_fits fits.pdays fits'.pdays in
    λ i.
    record {
      head = record {
        n = (rest i).desks;
        m = (rest i).cells;
        own = (rest i).own_number;
        mode = (rest i).mode_number;
        turn = (rest i).turn_number;
        wait = wait i;
      };
      kind = kinds i;
      day = days i;
      pkind = pkinds i;
      pday = pdays i;
    }
