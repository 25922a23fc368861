-- Open, write and read as the code makes them: one law for each return, and for what is asked on the way.
-- Assumes nothing.
use Prim.Native.Nat.{ℕ, ◌<◌}
use mathlib.Core.Path.{◌≡◌, refl, sym, ◌∙◌}
use mathlib.Core.Bool.{Bool, true, false, cond}
use mathlib.Core.List.{List, []}
use native.Mathlib.Omega.{arith}
use lib.IntN.{ℤ}
use Rattle.std.specs.Prelude.{Result, Ok, Err}
use Rattle.answer.specs.Answer.{Rule, refused, answered}
use Rattle.answer.specs.Promises.{Silent}
use Rattle.answer.specs.declared.Refusal.{Refusal}
use Rattle.answer.specs.Refusals.{number_of, first_of}
use Rattle.answer.proofs.Laws.{answered_only_if, refused_only_if}
use Rattle.content.specs.declared.Content.{Content}
use Rattle.content.specs.Content.{kind_of, day_of}
use Rattle.cells.specs.Cells.{content_at, put_if}
use Rattle.sound.specs.declared.Head.{Head}
use Rattle.refusals.specs.Rules.{write_tests, read_tests}
use Rattle.desk.specs.declared.Desk.{Desk}
use Rattle.desk.specs.declared.Answer as declared
use Rattle.desk.specs.declared.Answer.TheVariants as answers
use Rattle.desk.specs.Answers.{opened, stored, holds, waits, settled}
use Rattle.desk.specs.Calls.{sound, open_rules, blank_desk, zero_desk, fresh_head, mode_for, open_of, write_rules, written_desk, write_of, read_rules, must_wait, waiting_desk, read_of}
use Rattle.desk.specs.Parts.{opened_head}
use Rattle.desk.proofs.Laws.Allowed.{desk_says, read_allows}
use Rattle.desk.proofs.Laws.Calls.{silent_if_said, first_if_said, refused_so, done_so}

-- ---- open

module _ (n m own mode : ℕ) where
  rules : List Rule
  rules = open_rules n m own mode

  head : Head
  head = fresh_head n m own (mode_for mode)

  pub opened_so : {h : Head} → answered h ≡ opened_head n m own mode → settled (Ok answers.Opened) (blank_desk h) [] ≡ open_of n m own mode
  unfolding open_of rules head
  opened_so {h} e =
      let made = answered_only_if rules head h (sym e) in
      rw (← made.1) (done_so rules zero_desk [] opened (blank_desk head) [] answers.Opened refl made.0)

  pub open_refused : (x : Refusal) → refused (number_of x) ≡ opened_head n m own mode → settled (Err x) zero_desk [] ≡ open_of n m own mode
  unfolding open_of rules head
  open_refused x e =
      refused_so rules zero_desk [] opened (blank_desk head) [] refl (refused_only_if rules head (number_of x) (sym e))

-- ---- write

module _ (d : Desk) (cell : ℕ) (c : Content) {ok : Bool} {kind : ℕ} (s : ok ≡ sound d) (k : kind ≡ kind_of c) where
  pub write_refused : {x : Refusal} → refused (number_of x) ≡ first_of (write_tests ok d.head cell kind) → {r : Result declared.Answer Refusal} → r ≡ Err x
      → settled r d [] ≡ write_of d cell c
  unfolding write_of
  write_refused e is =
      refused_so (write_rules d cell c) d [] stored (written_desk d cell c) [] is (first_if_said (write_rules d cell c) (e ∙ rw (s, k)))

  pub stored_so :
      {u : Unit {0}} → answered u ≡ first_of (write_tests ok d.head cell kind)
      → {day : ℤ} {i : ℕ} {ks pks : List ℕ} {ds pds : List ℤ}
      → day ≡ day_of c
      → ks ≡ put_if true d.kind i kind → ds ≡ put_if true d.day i day
      → pks ≡ put_if true d.pkind i kind → pds ≡ put_if true d.pday i day
      → i ≡ cell
      → settled (Ok answers.Stored) (record { head = d.head; kind = ks; day = ds; pkind = pks; pday = pds }) [] ≡ write_of d cell c
  unfolding write_of
  stored_so e z ks ds pks pds at =
      rw (ks, ds, pks, pds, at, z, k) (done_so (write_rules d cell c) d [] stored (written_desk d cell c) [] answers.Stored refl (silent_if_said (write_rules d cell c) (e ∙ rw (s, k))))

-- ---- read

module _ (d : Desk) (cell : ℕ) {ok : Bool} (s : ok ≡ sound d) where
  pub read_refused : {x : Refusal} → refused (number_of x) ≡ first_of (read_tests ok d.head cell) → {r : Result declared.Answer Refusal} → r ≡ Err x
      → settled r d [] ≡ read_of d cell
  unfolding read_of
  read_refused e is =
      refused_so (read_rules d cell) d [] (cond (must_wait d cell) waits (holds (content_at d.kind d.day cell))) (cond (must_wait d cell) (waiting_desk d cell) d) [] is
      (first_if_said (read_rules d cell) (e ∙ rw s))

  module _ {u : Unit {0}} (e : answered u ≡ first_of (read_tests ok d.head cell)) where
    silent : Silent (read_rules d cell)
    silent = silent_if_said (read_rules d cell) (e ∙ rw s)

    pub cell_below : cell < 64
    cell_below = let allowed = read_allows d cell silent in omega (arith, allowed.cell_below, (desk_says d allowed.is_sound).cells_most)

    module _ {must : Bool} (is : must ≡ must_wait d cell) where
      pub waits_so : must ≡ true → settled (Ok answers.Waits) (waiting_desk d cell) [] ≡ read_of d cell
      unfolding read_of
      waits_so t = rw (sym is ∙ t) (done_so (read_rules d cell) d [] waits (waiting_desk d cell) [] answers.Waits refl silent)

      pub holds_so : must ≡ false → {c : Content} → c ≡ content_at d.kind d.day cell → settled (Ok (answers.Holds c)) d [] ≡ read_of d cell
      unfolding read_of
      holds_so t {c} shown =
          rw (sym is ∙ t, shown) (done_so (read_rules d cell) d [] (holds (content_at d.kind d.day cell)) d [] (answers.Holds (content_at d.kind d.day cell)) refl silent)
