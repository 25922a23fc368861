-- Laws of `start_in` and `step_in` (specs/Start.antt, specs/Step.antt) as the code goes: what the functions of src/lib.rt and src/steps.rt answer.
-- Each set is for `search`: reads_read, delivers_read, writes_read, desks_read, starts_read, steps_read.
-- Assumes nothing.
use Rattle.std.proofs.Common as std
use Rattle.std.proofs.Common.{None, Some}
use mathlib.Core.Path.{◌≡◌, refl, sym, ap, ◌∙◌}
use mathlib.Core.List.{List, [], ◌∷◌}
use mathlib.Core.Bool.{Bool, true, false, cond, ◌&&◌, and-false}
use mathlib.Core.Option.{Option, none, some}
use Prim.Native.Nat.{ℕ, ◌<◌, ◌≤◌}
use native.Mathlib.Omega.{arith}
use lib.Dec.{eqb}
use lib.ListN.{length, get_or}
use borrow.Author.Tests.{ne_eqb}
use Rattle.content.specs.declared.Content.{Content}
use Rattle.text.specs.Decimal.{value}
use Rattle.schedule.specs.declared.Step as declared
use Rattle.schedule.specs.Lines.{ended}
use Rattle.schedule.specs.Words.{words, is, is_number, is_desk, is_content_word, content_of_word}
use Rattle.schedule.specs.Step.{Act, writes, reads, sends, delivers, takes, Step, write_in, read_in, deliver_in, desk_in, step_of, step_in, said_step}
use Rattle.schedule.specs.Start.{Start, mode_in, start_with, start_of, start_in}
use Rattle.schedule.specs.Parts.{number, desk_of, mode, content}
use Rattle.schedule.proofs.Laws.Words.{Spaced, by_last, told, not_told, one_byte}

-- ---- what a word says

module _ (word : List ℕ) where
  is_no_number : None ≡ number word → is_number word ≡ false
  unfolding number
  is_no_number e = not_told _ _ e

  the_number : (v : ℕ) → Some v ≡ number word → (is_number word ≡ true) × (value word ≡ v)
  unfolding number
  the_number v e = told _ _ v e

  is_no_desk : (n : ℕ) → None ≡ desk_of n word → is_desk n word ≡ false
  unfolding desk_of
  is_no_desk n e = not_told _ _ e

  the_desk : (n v : ℕ) → Some v ≡ desk_of n word → (is_desk n word ≡ true) × (value word ≡ v)
  unfolding desk_of
  the_desk n v e = told _ _ v e

  is_no_content : None ≡ content word → is_content_word word ≡ false
  unfolding content
  is_no_content e = not_told _ _ e

  the_content : (c : Content) → Some c ≡ content word → (is_content_word word ≡ true) × (content_of_word word ≡ c)
  unfolding content
  the_content c e = told _ _ c e

-- a desk is a number
no_desk_spaced : (n : ℕ) (l : List ℕ) → Spaced l → is_desk n l ≡ false
unfolding is_desk
no_desk_spaced n l s = rw s.no_number

neither : {A : Type 0} (t : Bool) (x : A) → cond (t && false) (some x) none ≡ none
neither true x = refl
neither false x = refl

-- ---- "`r` desk cell"

module _ (n : ℕ) (rest p l : List ℕ) (cut : words rest ≡ p ∷ words l) where
  reads_is : read_in n (words rest) ≡ cond (is_desk n p && is_number l) (some (record { desk = value p; act = reads (value l) })) none
  reads_is =
      ap (read_in n) cut
      ∙ by_last (λ (ws : List (List ℕ)). read_in n (p ∷ ws)) l (λ a b ps. refl) (λ s. rw s.no_number (neither (is_desk n p) _))

  pub read_no_desk : None ≡ desk_of n p → none ≡ read_in n (words rest)
  read_no_desk e = sym (reads_is ∙ rw (is_no_desk p n e))

  pub read_no_cell : None ≡ number l → none ≡ read_in n (words rest)
  read_no_cell e = sym (reads_is ∙ rw (is_no_number l e) (neither (is_desk n p) _))

  pub read_found : (desk cell : ℕ) → Some desk ≡ desk_of n p → Some cell ≡ number l → some (record { desk = desk; act = reads cell }) ≡ read_in n (words rest)
  read_found desk cell d c =
      let is_d = the_desk p n desk d in
      let is_c = the_number l cell c in
      sym (reads_is ∙ rw (is_d.0, is_c.0, is_d.1, is_c.1))

pub ruleset reads_read = (read_no_desk, read_no_cell, read_found)

-- ---- "`d` sender receiver"

module _ (n : ℕ) (rest q l : List ℕ) (cut : words rest ≡ q ∷ words l) where
  delivers_is : deliver_in n (words rest) ≡ cond (is_desk n q && is_desk n l) (some (record { desk = value l; act = delivers (value q) })) none
  delivers_is =
      ap (deliver_in n) cut
      ∙ by_last (λ (ws : List (List ℕ)). deliver_in n (q ∷ ws)) l (λ a b ps. refl) (λ s. rw (no_desk_spaced n l s) (neither (is_desk n q) _))

  pub deliver_no_sender : None ≡ desk_of n q → none ≡ deliver_in n (words rest)
  deliver_no_sender e = sym (delivers_is ∙ rw (is_no_desk q n e))

  pub deliver_no_receiver : None ≡ desk_of n l → none ≡ deliver_in n (words rest)
  deliver_no_receiver e = sym (delivers_is ∙ rw (is_no_desk l n e) (neither (is_desk n q) _))

  pub deliver_found : (sender receiver : ℕ) → Some receiver ≡ desk_of n l → Some sender ≡ desk_of n q
      → some (record { desk = receiver; act = delivers sender }) ≡ deliver_in n (words rest)
  deliver_found sender receiver r s =
      let is_r = the_desk l n receiver r in
      let is_s = the_desk q n sender s in
      sym (delivers_is ∙ rw (is_r.0, is_s.0, is_r.1, is_s.1))

pub ruleset delivers_read = (deliver_no_sender, deliver_no_receiver, deliver_found)

-- ---- "`w` desk cell day-or-`open`"

none_of_both : {A : Type 0} (t u : Bool) (x : A) → cond (t && (u && false)) (some x) none ≡ none
none_of_both true u x = neither u x
none_of_both false u x = refl

module _ (n : ℕ) (rest p rest' cell l : List ℕ) (cut : words rest ≡ p ∷ words rest') (cut' : words rest' ≡ cell ∷ words l) where
  writes_is : write_in n (words rest) ≡ cond (is_desk n p && (is_number cell && is_content_word l)) (some (record { desk = value p; act = writes (value cell) (content_of_word l) })) none
  writes_is =
      ap (write_in n) (cut ∙ ap (λ (ws : List (List ℕ)). p ∷ ws) cut')
      ∙ by_last (λ (ws : List (List ℕ)). write_in n (p ∷ cell ∷ ws)) l (λ a b ps. refl) (λ s. rw s.no_content (none_of_both (is_desk n p) (is_number cell) _))

  pub write_no_desk : None ≡ desk_of n p → none ≡ write_in n (words rest)
  write_no_desk e = sym (writes_is ∙ rw (is_no_desk p n e))

  pub write_no_cell : None ≡ number cell → none ≡ write_in n (words rest)
  write_no_cell e = sym (writes_is ∙ rw (is_no_number cell e) (neither (is_desk n p) _))

  pub write_no_content : None ≡ content l → none ≡ write_in n (words rest)
  write_no_content e = sym (writes_is ∙ rw (is_no_content l e) (none_of_both (is_desk n p) (is_number cell) _))

  pub write_found : (desk k : ℕ) (c : Content) → Some desk ≡ desk_of n p → Some k ≡ number cell → Some c ≡ content l
      → some (record { desk = desk; act = writes k c }) ≡ write_in n (words rest)
  write_found desk k c d e f =
      let is_d = the_desk p n desk d in
      let is_k = the_number cell k e in
      let is_c = the_content l c f in
      sym (writes_is ∙ rw (is_d.0, is_k.0, is_c.0, is_d.1, is_k.1, is_c.1))

pub ruleset writes_read = (write_no_desk, write_no_cell, write_no_content, write_found)

-- ---- "`s` desk", "`t` desk"

module _ (n : ℕ) (a : Act) (rest : List ℕ) where
  desk_is : desk_in n a (words rest) ≡ cond (is_desk n rest) (some (record { desk = value rest; act = a })) none
  desk_is = by_last (desk_in n a) rest (λ a b ps. refl) (λ s. rw (no_desk_spaced n rest s))

  pub no_desk : None ≡ desk_of n rest → none ≡ desk_in n a (words rest)
  no_desk e = sym (desk_is ∙ rw (is_no_desk rest n e))

  pub desk_found : (desk : ℕ) → Some desk ≡ desk_of n rest → some (record { desk = desk; act = a }) ≡ desk_in n a (words rest)
  desk_found desk e =
      let is = the_desk rest n desk e in
      sym (desk_is ∙ rw (is.0, is.1))

pub ruleset desks_read = (no_desk, desk_found)

-- ---- line 1

module _ (word : List ℕ) where
  is_no_mode : None ≡ mode word → mode_in word ≡ none
  unfolding mode mode_in
  is_no_mode = by_tests (is "s" word) (is "c" word) (is "k" word) (is "-" word)
    where
      by_tests : (s c k d : Bool) → ◌≡◌ {A = std.Option ℕ} None (cond s (Some 1) (cond c (Some 2) (cond k (Some 3) (cond d (Some 0) None))))
          → ◌≡◌ {A = Option ℕ} (cond s (some 1) (cond c (some 2) (cond k (some 3) (cond d (some 0) none)))) none
      by_tests true c k d e = absurd (cc)
      by_tests false true k d e = absurd (cc)
      by_tests false false true d e = absurd (cc)
      by_tests false false false true e = absurd (cc)
      by_tests false false false false e = refl

  the_mode : (v : ℕ) → Some v ≡ mode word → mode_in word ≡ some v
  unfolding mode mode_in
  the_mode v = by_tests (is "s" word) (is "c" word) (is "k" word) (is "-" word)
    where
      by_tests : (s c k d : Bool) → ◌≡◌ {A = std.Option ℕ} (Some v) (cond s (Some 1) (cond c (Some 2) (cond k (Some 3) (cond d (Some 0) None))))
          → ◌≡◌ {A = Option ℕ} (cond s (some 1) (cond c (some 2) (cond k (some 3) (cond d (some 0) none)))) (some v)
      by_tests true c k d e = cc
      by_tests false true k d e = cc
      by_tests false false true d e = cc
      by_tests false false false true e = cc
      by_tests false false false false e = absurd (cc)

no_start : (t : Bool) → ◌≡◌ {A = Option Start} (cond t none none) none
no_start true = refl
no_start false = refl

module _ (line n rest m l : List ℕ) (cut : words line ≡ n ∷ words rest) (cut' : words rest ≡ m ∷ words l) where
  start_is : start_in (ended line) ≡ cond (is_number n && is_number m) (start_with (value n) (value m) (mode_in l)) none
  unfolding start_in
  start_is =
      ap start_of (cut ∙ ap (λ (ws : List (List ℕ)). n ∷ ws) cut')
      ∙ by_last (λ (ws : List (List ℕ)). start_of (n ∷ m ∷ ws)) l (λ a b ps. refl) (λ s. rw s.no_mode (no_start (is_number n && is_number m)))

  pub start_no_n : None ≡ number n → none ≡ start_in (ended line)
  start_no_n e = sym (start_is ∙ rw (is_no_number n e))

  pub start_no_m : None ≡ number m → none ≡ start_in (ended line)
  start_no_m e = sym (start_is ∙ rw (is_no_number m e, and-false (is_number n)))

  pub start_no_mode : None ≡ mode l → none ≡ start_in (ended line)
  start_no_mode e = sym (start_is ∙ rw (is_no_mode l e) (no_start (is_number n && is_number m)))

  pub start_found : (a b k : ℕ) → Some a ≡ number n → Some b ≡ number m → Some k ≡ mode l → some (record { n = a; m = b; mode = k }) ≡ start_in (ended line)
  start_found a b k e f g =
      let is_a = the_number n a e in
      let is_b = the_number m b f in
      sym (start_is ∙ rw (is_a.0, is_b.0, the_mode l k g, is_a.1, is_b.1))

pub one_word : (line : List ℕ) → words line ≡ line ∷ [] → none ≡ start_in (ended line)
unfolding start_in
one_word line e = rw e

pub two_words : (line n rest : List ℕ) → words line ≡ n ∷ words rest → words rest ≡ rest ∷ [] → none ≡ start_in (ended line)
unfolding start_in
two_words line n rest e f = rw (e, f)

pub ruleset starts_read = (one_word, two_words, start_no_n, start_no_m, start_no_mode, start_found)

-- ---- the letter

module _ (line : List ℕ) (n : ℕ) where
  five : (a b c d e : Bool) → ◌≡◌ {A = Option Step} (cond a none (cond b none (cond c none (cond d none (cond e none none))))) none
  five true b c d e = refl
  five false true c d e = refl
  five false false true d e = refl
  five false false false true e = refl
  five false false false false true = refl
  five false false false false false = refl

  pub step_alone : words line ≡ line ∷ [] → none ≡ step_in n (ended line)
  unfolding step_in
  step_alone e = rw e (sym (five (is "w" line) (is "r" line) (is "s" line) (is "d" line) (is "t" line)))

  module _ (letter rest : List ℕ) (cut : words line ≡ letter ∷ words rest) where
    whole : step_in n (ended line) ≡ step_of n (letter ∷ words rest)
    unfolding step_in
    whole = ap (step_of n) cut

    pub step_short : length letter < 1 → none ≡ step_in n (ended line)
    unfolding is
    step_short h = sym (whole ∙ empty letter h)
      where
        empty : (w : List ℕ) → length w < 1 → step_of n (w ∷ words rest) ≡ none
        empty [] h = refl
        empty (b ∷ bs) h = absurd (omega arith)

    pub step_long : 2 ≤ length letter → none ≡ step_in n (ended line)
    unfolding is
    step_long h = sym (whole ∙ long letter h)
      where
        long : (w : List ℕ) → 2 ≤ length w → step_of n (w ∷ words rest) ≡ none
        long [] h = absurd (omega arith)
        long (b ∷ []) h = absurd (omega arith)
        long (b ∷ c ∷ bs) h = rw (and-false (eqb b 119), and-false (eqb b 114), and-false (eqb b 115), and-false (eqb b 100), and-false (eqb b 116))

    module _ (low : 1 ≤ length letter) (high : length letter < 2) where
      pub step_other : (get_or letter 0 0 ≡ 119 → ⊥) → (get_or letter 0 0 ≡ 114 → ⊥) → (get_or letter 0 0 ≡ 115 → ⊥) → (get_or letter 0 0 ≡ 100 → ⊥) → (get_or letter 0 0 ≡ 116 → ⊥)
          → none ≡ step_in n (ended line)
      unfolding is
      step_other w r s d t =
          let b = get_or letter 0 0 in
          sym (whole ∙ rw (one_byte letter b low high refl, ne_eqb b 119 w, ne_eqb b 114 r, ne_eqb b 115 s, ne_eqb b 100 d, ne_eqb b 116 t))

      -- b is what the rest of the line says
      module _ (b : std.Option declared.Step) where
        pub step_w : get_or letter 0 0 ≡ 119 → said_step b ≡ write_in n (words rest) → said_step b ≡ step_in n (ended line)
        unfolding is
        step_w e is = is ∙ sym (whole ∙ rw (one_byte letter 119 low high e))

        pub step_r : get_or letter 0 0 ≡ 114 → said_step b ≡ read_in n (words rest) → said_step b ≡ step_in n (ended line)
        unfolding is
        step_r e is = is ∙ sym (whole ∙ rw (one_byte letter 114 low high e))

        pub step_s : get_or letter 0 0 ≡ 115 → said_step b ≡ desk_in n sends (words rest) → said_step b ≡ step_in n (ended line)
        unfolding is
        step_s e is = is ∙ sym (whole ∙ rw (one_byte letter 115 low high e))

        pub step_d : get_or letter 0 0 ≡ 100 → said_step b ≡ deliver_in n (words rest) → said_step b ≡ step_in n (ended line)
        unfolding is
        step_d e is = is ∙ sym (whole ∙ rw (one_byte letter 100 low high e))

        pub step_t : get_or letter 0 0 ≡ 116 → said_step b ≡ desk_in n takes (words rest) → said_step b ≡ step_in n (ended line)
        unfolding is
        step_t e is = is ∙ sym (whole ∙ rw (one_byte letter 116 low high e))

pub ruleset steps_read = (step_alone, step_short, step_long, step_other, step_w, step_r, step_s, step_d, step_t)
