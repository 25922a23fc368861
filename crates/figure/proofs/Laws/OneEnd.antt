-- A piece of Figure 1 (specs/Figure1.antt, `Step`) has one end: two steps from the same process that show the same event, or two reads of one
-- variable, end in the same process.
--   same_write, same_read, same_block, same_send, same_apply
--   no_read_blocks         a read that returns does not block
--   returns_at_turn        and one that was blocked has the turn
-- Assumes nothing.
use Prim.Native.Nat.{ℕ}
use mathlib.Core.Path.{◌≡◌, refl, sym, ◌∙◌}
use mathlib.Core.Option.{none, some, some-ne-none}
use Rattle.figure.specs.Figure1.{Model, Updates, Process, Event, writes, reads, blocks, broadcasts, applies_updates, Step, write, read, block, finish, send, apply}
use Rattle.figure.proofs.Laws.Maps.{same_process}
use Rattle.figure.proofs.Laws.Agree.{loops_agree}

module _ {A : Type 0} (n p : ℕ) (model : Model) (s : Process A) where
  abbrev From : Event A → Process A → Type 0
  From = Step n p model s

  pub same_write : {x : ℕ} {v : A} {t t' : Process A} → From (writes x v) t → From (writes x v) t' → t ≡ t'
  same_write (write _ _ _ q) (write _ _ _ q') = refl

  pub same_block : {x : ℕ} {t t' : Process A} → From (blocks x) t → From (blocks x) t' → t ≡ t'
  same_block (block _ _ q w) (block _ _ q' w') = refl

  pub same_send : {u u' : Updates A} {t t' : Process A} → From (broadcasts u) t → From (broadcasts u') t' → t ≡ t'
  same_send (send _ own q) (send _ own' q') = refl

  not_both : (x : ℕ) → s.blocked ≡ none → s.blocked ≡ some x → ⊥
  not_both x free busy = some-ne-none x (sym busy ∙ free)

  pub record SameRead (v v' : A) (t t' : Process A) : Type 0 where
    pub same_value : v ≡ v'
    pub same_end : t ≡ t'

  pub same_read : {x : ℕ} {v v' : A} {t t' : Process A} → From (reads x v) t → From (reads x v') t' → SameRead v v' t t'
  same_read (read _ x q w) (read _ _ q' w') = record { same_value = refl; same_end = refl }
  same_read (read _ x q w) (finish _ _ q' own) = absurd (not_both x q q')
  same_read (finish _ x q own) (read _ _ q' w) = absurd (not_both x q' q)
  same_read (finish _ x q own) (finish _ _ q' own') = record { same_value = refl; same_end = refl }

  pub no_read_blocks : {x : ℕ} {v : A} {t t' : Process A} → From (reads x v) t → From (blocks x) t' → ⊥
  no_read_blocks (read _ x q w) (block _ _ q' waits) = w waits
  no_read_blocks (finish _ x q own) (block _ _ q' waits) = not_both x q' q

  -- a blocked read that returns has the turn
  pub returns_at_turn : {x y : ℕ} {v : A} {t : Process A} → s.blocked ≡ some y → From (reads x v) t → s.turn ≡ p
  returns_at_turn {y} busy (read _ x q w) = absurd (not_both y q busy)
  returns_at_turn busy (finish _ x q own) = own

  pub record SameApply (k k' j j' : ℕ) (t t' : Process A) : Type 0 where
    pub same_extracted : k ≡ k'
    pub same_assigned : j ≡ j'
    pub same_end : t ≡ t'

  pub same_apply : {q : ℕ} {u : Updates A} {k k' j j' : ℕ} {t t' : Process A}
      → From (applies_updates q u k j) t → From (applies_updates q u k' j') t' → SameApply k k' j j' t t'
  same_apply (apply _ q u here other there loop) (apply _ _ _ here' other' there' loop') =
      let end = loops_agree A model s.updates u s.copy _ _ _ _ _ _ loop loop' in
      record { same_extracted = end.same_extracted; same_assigned = end.same_assigned; same_end = same_process end.same_copies refl refl refl refl }
