-- Laws of `free`, `holds_good` and `place_of` (specs/Tray.antt), as the code goes.
--   no_byte                                   past the end there is no byte, and 0 says so
--   place_free, place_holds, place_spoilt     what a look finds, by `free` and `holds_good` alone
--   look_free, look_short, look_long, look_not_zeros     what `look` answers before it reads the sheet
--   BySheet, look_on                          that the sheet decides
--   look_holds, look_refused                  what it answers when the sheet was read
-- Assumes nothing.
use mathlib.Core.Path.{◌≡◌, sym, ap, ◌∙◌, subst}
use mathlib.Core.List.{List}
use mathlib.Core.Bool.{Bool, true, false, ◌&&◌, and-true, and-false}
use Prim.Native.Nat.{ℕ, ◌+◌, ◌*◌, ◌-◌, ◌<◌, ◌≤◌}
use native.Mathlib.Omega.{arith}
use lib.Dec.{leb}
use lib.ListN.{length, take, drop, get_or-eq_default}
use borrow.Author.Tests.{le-leb, lt-leb, eq-eqb, ne_eqb}
use Rattle.layout.specs.declared.Numbers.{Numbers}
use Rattle.numbers.specs.Numbers.{at1}
use Rattle.layout.specs.Layout.{trailer_in, numbers_of}
use Rattle.std.specs.Prelude.{Result, Ok, Err}
use Rattle.answer.specs.declared.Refusal.{Refusal}
use Rattle.sheet.specs.Good.{good}
use Rattle.sheet.specs.Reading.{reading_of, said_read}
use Rattle.sheet.proofs.Laws.Reading.{said_good, said_bad}
use Rattle.tray.specs.declared.Place.TheVariants as place
use Rattle.tray.specs.Tray.{place_start, length_at, free, sheet_at, rest_at, zeros, holds_good, place_of}

pub no_byte : (l : List ℕ) (i : ℕ) → length l ≤ i → 0 ≡ at1 l i
no_byte l i h = sym (get_or-eq_default l 0 h)

-- ---- by `free` and `holds_good` alone

module _ (tray : List ℕ) (q : ℕ) where
  pub place_free : free tray q ≡ true → place_of tray q ≡ place.Free
  unfolding place_of
  place_free f = rw f

  pub place_holds : free tray q ≡ false → holds_good tray q ≡ true → place_of tray q ≡ place.Holds (numbers_of (trailer_in (sheet_at tray q)))
  unfolding place_of
  place_holds f h = rw (f, h)

  pub place_spoilt : free tray q ≡ false → holds_good tray q ≡ false → place_of tray q ≡ place.Spoilt
  unfolding place_of
  place_spoilt f h = rw (f, h)

-- ---- as the code goes

-- what is left when all but the sheet was looked at: the sheet decides
pub record BySheet (tray : List ℕ) (q len : ℕ) : Type 0 where
  pub length_is : len ≡ length_at tray q
  pub not_free : free tray q ≡ false
  pub by_good : holds_good tray q ≡ good (sheet_at tray q)

module _ (tray : List ℕ) (q len : ℕ) (is : len ≡ length_at tray q) where
  pub look_free : len ≡ 0 → place.Free ≡ place_of tray q
  look_free none = sym (place_free tray q (eq-eqb (length_at tray q) 0 (sym is ∙ none)))

  module _ (some : len ≡ 0 → ⊥) where
    not_free : free tray q ≡ false
    not_free = ne_eqb (length_at tray q) 0 (λ e. some (is ∙ e))

    spoilt : holds_good tray q ≡ false → place.Spoilt ≡ place_of tray q
    spoilt g = sym (place_spoilt tray q not_free g)

    pub look_short : length tray < 398 * q + 2 + 396 → place.Spoilt ≡ place_of tray q
    unfolding holds_good
    look_short h = spoilt (rw (lt-leb (place_start q + 398) (length tray) (omega arith)))

    module _ (room : 398 * q + 2 + 396 ≤ length tray) where
      has : leb (place_start q + 398) (length tray) ≡ true
      has = le-leb (place_start q + 398) (length tray) (omega arith)

      pub look_long : 396 < len → place.Spoilt ≡ place_of tray q
      unfolding holds_good
      look_long h = spoilt (rw (has, lt-leb (length_at tray q) 396 (omega (arith, is))))

      module _ (few : len ≤ 396) (z : Bool) (test : z ≡ zeros (take (398 * q + 2 + 396 - (398 * q + 2 + len)) (drop (398 * q + 2 + len) tray))) where
        rest_is : z ≡ zeros (rest_at tray q)
        rest_is =
            let left : 398 * q + 2 + 396 - (398 * q + 2 + len) ≡ 396 - len = omega arith in
            test ∙ rw (left, is)

        by_sheet : holds_good tray q ≡ good (sheet_at tray q) && z
        unfolding holds_good
        by_sheet = rw (has, le-leb (length_at tray q) 396 (omega (arith, is)), rest_is)

        pub look_not_zeros : z ≡ false → place.Spoilt ≡ place_of tray q
        look_not_zeros off = spoilt (by_sheet ∙ rw off (and-false (good (sheet_at tray q))))

        pub look_on : z ≡ true → BySheet tray q len
        look_on on =
            record {
              length_is = is;
              not_free = not_free;
              by_good = by_sheet ∙ rw on (and-true (good (sheet_at tray q)));
            }

module _ (tray : List ℕ) (q len : ℕ) (so : BySheet tray q len) (r : Result Numbers Refusal) (said_answer : said_read (take (398 * q + 2 + len - (398 * q + 2)) (drop (398 * q + 2) tray)) r ≡ reading_of (take (398 * q + 2 + len - (398 * q + 2)) (drop (398 * q + 2) tray))) where
  sheet_is : take (398 * q + 2 + len - (398 * q + 2)) (drop (398 * q + 2) tray) ≡ sheet_at tray q
  sheet_is =
      let many : 398 * q + 2 + len - (398 * q + 2) ≡ len = omega arith in
      rw (many, so.length_is)

  is_said : said_read (sheet_at tray q) r ≡ reading_of (sheet_at tray q)
  is_said = subst (λ (s : List ℕ). said_read s r ≡ reading_of s) sheet_is said_answer

  pub look_holds : (n : Numbers) → r ≡ Ok n → place.Holds n ≡ place_of tray q
  look_holds n e =
      let found = said_good (sheet_at tray q) r n e is_said in
      ap place.Holds found.1 ∙ sym (place_holds tray q so.not_free (so.by_good ∙ found.0))

  pub look_refused : (x : Refusal) → r ≡ Err x → place.Spoilt ≡ place_of tray q
  look_refused x e = sym (place_spoilt tray q so.not_free (so.by_good ∙ said_bad (sheet_at tray q) r x e is_said))
