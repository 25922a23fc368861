-- Figure 1's loop (specs/Figure1.antt, `Loop`) ends alike whichever pair is extracted next: a pair of the set can be extracted first as well.
--   remove_both, assign_both              two extractions, and two assignments, in either order
--   assigned_first, passed_first          a loop that begins with a given pair of the set, and ends as this one does
--   loops_agree : LoopsAgree              so two loops can begin with the same pair, and agree by induction
-- Assumes nothing.
use Prim.Native.Nat.{ℕ, suc}
use mathlib.Core.Path.{◌≡◌, refl, sym, ap, ◌∙◌, fun_ext, subst, subst₂}
use mathlib.Core.Bool.{Bool, true, false}
use mathlib.Core.Option.{some, some-ne-none}
use lib.Dec.{eqb}
use borrow.Author.Tests.{eqb-true, eqb-false, ne_eqb}
use Rattle.figure.specs.Figure1.{Model, Updates, ∅, remove, assign, Assigned, Loop, ends, assigns, passes}
use Rattle.figure.specs.Settled.{SameEnd, LoopsAgree}

-- ---- two extractions, and two assignments, in either order

module _ {A : Type 0} where
  remove_both : (x y : ℕ) (u : Updates A) → remove x (remove y u) ≡ remove y (remove x u)
  remove_both x y u = fun_ext (λ z. by_tests z (eqb z x) (eqb z y) refl refl)
    where
      by_tests : (z : ℕ) (s t : Bool) → eqb z x ≡ s → eqb z y ≡ t → remove x (remove y u) z ≡ remove y (remove x u) z
      by_tests z true true p q = rw (p, q)
      by_tests z true false p q = rw (p, q)
      by_tests z false true p q = rw (p, q)
      by_tests z false false p q = rw (p, q)

  assign_both : (x y : ℕ) (v w : A) (c : ℕ → A) → (x ≡ y → ⊥) → assign x v (assign y w c) ≡ assign y w (assign x v c)
  assign_both x y v w c other = fun_ext (λ z. by_tests z (eqb z x) (eqb z y) refl refl)
    where
      by_tests : (z : ℕ) (s t : Bool) → eqb z x ≡ s → eqb z y ≡ t → assign x v (assign y w c) z ≡ assign y w (assign x v c) z
      by_tests z true true p q = absurd (other (sym (eqb-true z x p) ∙ eqb-true z y q))
      by_tests z true false p q = rw (p, q)
      by_tests z false true p q = rw (p, q)
      by_tests z false false p q = rw (p, q)

  still_there : (x y : ℕ) (v : A) (u : Updates A) → (x ≡ y → ⊥) → u x ≡ some v → remove y u x ≡ some v
  still_there x y v u other there = rw (ne_eqb x y other) there

  same_value : (u : Updates A) (x y : ℕ) (v w : A) → x ≡ y → u x ≡ some v → u y ≡ some w → v ≡ w
  same_value u x y v w same p q = let z : some v ≡ some w = sym p ∙ ap u same ∙ q in cc

-- ---- a pair first

module _ {A : Type 0} (model : Model) (own : Updates A) where
  abbrev Looping : Updates A → (ℕ → A) → ℕ → ℕ → (ℕ → A) → Type 0
  Looping = Loop model own

  abbrev Goes : ℕ → Type 0
  Goes = Assigned model own

  record AssignedFirst (x : ℕ) (v : A) (u : Updates A) (c : ℕ → A) (k j : ℕ) (after : ℕ → A) : Type 0 where
    k' : ℕ
    j' : ℕ
    one_extracted : k ≡ suc k'
    one_assigned : j ≡ suc j'
    rest : Looping (remove x u) (assign x v c) k' j' after

  record PassedFirst (x : ℕ) (u : Updates A) (c : ℕ → A) (k j : ℕ) (after : ℕ → A) : Type 0 where
    k' : ℕ
    one_extracted : k ≡ suc k'
    rest : Looping (remove x u) c k' j after

  nothing_there : (u : Updates A) (x : ℕ) (v : A) → u ≡ ∅ → u x ≡ some v → ⊥
  nothing_there u x v e there = some-ne-none v (sym there ∙ ap (λ (u : Updates A). u x) e)

  -- the pair x, v and then the others, where y, w came first
  module _ (x y : ℕ) (v w : A) (u : Updates A) (c : ℕ → A) (k j : ℕ) (after : ℕ → A) (there : u x ≡ some v) (also : u y ≡ some w) where
    before_assigned : Goes x → Goes y → Looping (remove y u) (assign y w c) k j after
        → ((x ≡ y → ⊥) → AssignedFirst x v (remove y u) (assign y w c) k j after) → AssignedFirst x v u c (suc k) (suc j) after
    before_assigned goes goes' rest first = by_test (eqb x y) refl
      where
        by_test : (t : Bool) → eqb x y ≡ t → AssignedFirst x v u c (suc k) (suc j) after
        by_test true e =
            let same = eqb-true x y e in
            record { k' = k; j' = j; one_extracted = refl; one_assigned = refl; rest = rw (same, same_value u x y v w same there also) rest }
        by_test false e =
            let other = eqb-false x y e in
            let f = first other in
            record {
              k' = k;
              j' = j;
              one_extracted = refl;
              one_assigned = refl;
              rest = rw (f.one_extracted, f.one_assigned)
                  (assigns y w (still_there y x w u (λ z. other (sym z)) also) goes'
                  (subst₂ (λ (u : Updates A) (c : ℕ → A). Looping u c f.k' f.j' after) (remove_both x y u) (assign_both x y v w c other) f.rest));
            }

    before_passed : Goes x → (Goes y → ⊥) → ((x ≡ y → ⊥) → AssignedFirst x v (remove y u) c k j after) → AssignedFirst x v u c (suc k) j after
    before_passed goes stays first = by_test (eqb x y) refl
      where
        by_test : (t : Bool) → eqb x y ≡ t → AssignedFirst x v u c (suc k) j after
        by_test true e = absurd (stays (subst Goes (eqb-true x y e) goes))
        by_test false e =
            let other = eqb-false x y e in
            let f = first other in
            record {
              k' = k;
              j' = f.j';
              one_extracted = refl;
              one_assigned = f.one_assigned;
              rest = rw f.one_extracted
                  (passes y w (still_there y x w u (λ z. other (sym z)) also) stays
                  (subst (λ (u : Updates A). Looping u (assign x v c) f.k' f.j' after) (remove_both x y u) f.rest));
            }

    passed_before_assigned : (Goes x → ⊥) → Goes y → ((x ≡ y → ⊥) → PassedFirst x (remove y u) (assign y w c) k j after) → PassedFirst x u c (suc k) (suc j) after
    passed_before_assigned stays goes first = by_test (eqb x y) refl
      where
        by_test : (t : Bool) → eqb x y ≡ t → PassedFirst x u c (suc k) (suc j) after
        by_test true e = absurd (stays (subst Goes (sym (eqb-true x y e)) goes))
        by_test false e =
            let other = eqb-false x y e in
            let f = first other in
            record {
              k' = k;
              one_extracted = refl;
              rest = rw f.one_extracted
                  (assigns y w (still_there y x w u (λ z. other (sym z)) also) goes
                  (subst (λ (u : Updates A). Looping u (assign y w c) f.k' j after) (remove_both x y u) f.rest));
            }

    passed_before_passed : (Goes y → ⊥) → Looping (remove y u) c k j after → ((x ≡ y → ⊥) → PassedFirst x (remove y u) c k j after) → PassedFirst x u c (suc k) j after
    passed_before_passed stays rest first = by_test (eqb x y) refl
      where
        by_test : (t : Bool) → eqb x y ≡ t → PassedFirst x u c (suc k) j after
        by_test true e = let same = eqb-true x y e in record { k' = k; one_extracted = refl; rest = rw same rest }
        by_test false e =
            let other = eqb-false x y e in
            let f = first other in
            record {
              k' = k;
              one_extracted = refl;
              rest = rw f.one_extracted
                  (passes y w (still_there y x w u (λ z. other (sym z)) also) stays
                  (subst (λ (u : Updates A). Looping u c f.k' j after) (remove_both x y u) f.rest));
            }

  assigned_first : (x : ℕ) (v : A) {u : Updates A} {c : ℕ → A} {k j : ℕ} {after : ℕ → A} → u x ≡ some v → Goes x
      → Looping u c k j after → AssignedFirst x v u c k j after
  assigned_first x v {u} there goes (ends e) = absurd (nothing_there u x v e there)
  assigned_first x v {u} there goes (assigns y w also goes' rest) =
      before_assigned x y v w u _ _ _ _ there also goes goes' rest (λ other. assigned_first x v (still_there x y v u other there) goes rest)
  assigned_first x v {u} there goes (passes y w also stays rest) =
      before_passed x y v w u _ _ _ _ there also goes stays (λ other. assigned_first x v (still_there x y v u other there) goes rest)

  passed_first : (x : ℕ) (v : A) {u : Updates A} {c : ℕ → A} {k j : ℕ} {after : ℕ → A} → u x ≡ some v → (Goes x → ⊥)
      → Looping u c k j after → PassedFirst x u c k j after
  passed_first x v {u} there stays (ends e) = absurd (nothing_there u x v e there)
  passed_first x v {u} there stays (assigns y w also goes rest) =
      passed_before_assigned x y v w u _ _ _ _ there also stays goes (λ other. passed_first x v (still_there x y v u other there) stays rest)
  passed_first x v {u} there stays (passes y w also stays' rest) =
      passed_before_passed x y v w u _ _ _ _ there also stays' rest (λ other. passed_first x v (still_there x y v u other there) stays rest)

  -- ---- two loops

  ended : {u : Updates A} {c : ℕ → A} {k j : ℕ} {after : ℕ → A} → u ≡ ∅ → Looping u c k j after → SameEnd 0 0 c k j after
  ended e (ends f) = record { same_extracted = refl; same_assigned = refl; same_copies = refl }
  ended {u} e (assigns x v there goes rest) = absurd (nothing_there u x v e there)
  ended {u} e (passes x v there stays rest) = absurd (nothing_there u x v e there)

  agree : {u : Updates A} {c : ℕ → A} {k j k' j' : ℕ} {after after' : ℕ → A} → Looping u c k j after → Looping u c k' j' after' → SameEnd k j after k' j' after'
  agree (ends e) other = ended e other
  agree (assigns x v there goes rest) other =
      let first = assigned_first x v there goes other in
      let end = agree rest first.rest in
      record {
        same_extracted = ap suc end.same_extracted ∙ sym first.one_extracted;
        same_assigned = ap suc end.same_assigned ∙ sym first.one_assigned;
        same_copies = end.same_copies;
      }
  agree (passes x v there stays rest) other =
      let first = passed_first x v there stays other in
      let end = agree rest first.rest in
      record {
        same_extracted = ap suc end.same_extracted ∙ sym first.one_extracted;
        same_assigned = end.same_assigned;
        same_copies = end.same_copies;
      }

pub loops_agree : LoopsAgree
loops_agree A model own u c k j k' j' after after' one other = agree model own one other
