-- Each step keeps a state in order (Laws/InOrder.antt).
--   held_there                     a sheet that was delivered is in its place
--   sender_is, number_is           who sends has the turn, and its turn number is how many were sent before
--   step_in_order                  each step
-- Assumes nothing.
use Prim.Native.Nat.{ℕ, ◌+◌, ◌%◌, ◌≤◌, ◌<◌}
use mathlib.Core.Path.{◌≡◌, sym, ap, ◌∙◌, subst}
use mathlib.Core.Logic.{◌≢◌}
use mathlib.Core.Bool.{Bool, true, cond}
use mathlib.Core.List.{List, [], ◌∷◌, ◌++◌}
use native.Mathlib.Omega.{arith}
use native.Mathlib.Nat.{mod-lt}
use native.Mathlib.Decide.{ℕ_discrete, dec_lt}
use lib.ListN.{length}
use mir.Syntax.{w32}
use mir.Val.{SFits}
use borrow.Author.Tests.{eqb-true}
use Rattle.answer.specs.Answer.{Answer}
use Rattle.answer.specs.Promises.{Silent}
use Rattle.answer.proofs.Laws.{changed_if}
use Rattle.content.specs.declared.Content.{Content}
use Rattle.content.specs.Content.{day_of}
use Rattle.layout.specs.Layout.{trailer_in}
use Rattle.layout.specs.declared.Numbers.{Numbers}
use Rattle.layout.specs.Values.{AreBytes}
use Rattle.sheet.proofs.Laws.Good.{good_within}
use Rattle.sound.specs.Head.{turn_desk}
use Rattle.tray.specs.Tray.{place_start, holds_good, held_in, cleared_in}
use Rattle.tray.proofs.Laws.Places.{place_there, held_long, cleared_long, held_found, held_holds, cleared_free, SamePlace, held_others, cleared_others, same_free, same_holds, same_sheet_held}
use Rattle.tray.proofs.Laws.Bytes.{held_bytes, cleared_bytes}
use Rattle.pending.proofs.Laws.Bytes.{sheet_bytes}
use Rattle.desk.specs.declared.Desk.{Desk}
use Rattle.desk.specs.Answers.{Value}
use Rattle.desk.specs.Calls.{sound, write_rules, written_desk, write_of, read_rules, must_wait, waiting_desk, read_of, send_rules, sent_desk, send_of, deliver_rules, take_rules, entries_taken, taken_desk, take_of}
use Rattle.desk.specs.Values.{DeskFits}
use Rattle.desk.proofs.Laws.Allowed.{SendAllowed, send_allows, deliver_allows, take_allows}
use Rattle.keeping.proofs.Laws.Kept.{SameNumbers, SameTurn}
use Rattle.keeping.proofs.Keeping.{keeps_sound, keeps_fits, numbers_stay}
use Rattle.keeping.proofs.Laws.Sheets.{sheet_good, sheet_numbers}
use Rattle.runs.specs.Call.{Call}
use Rattle.runs.specs.Run.{Shelf, SentSheet, sheet_on, State, put, Possible}
use Rattle.runs.specs.EveryRun.{SheetInOrder, AsOpened}
use Rattle.runs.proofs.Laws.InOrder.{PlaceInOrder, is_free, holds_sheet, DeskInOrder, InOrder}
use Rattle.runs.proofs.Laws.Line.{more_long, more_same, more_last}
use Rattle.runs.proofs.Laws.Order.{desk_sound, some_desks, own_last, turn_desk_lem, turn_below, next_held, none_left}
use Rattle.runs.proofs.Laws.Steps.{put_same, put_other, put_own, with_desk, sheet_by, Step, is_refused, is_stored, is_read, is_waiting, is_sent, is_held, is_taken}

-- ---- replaced records

module _ {shelf : Shelf} {s : State} (o : InOrder shelf s) (p : ℕ) where
  replaced : (d : Desk) (tray : List ℕ) → DeskInOrder shelf s.line p d tray
      → InOrder shelf (record { desk = put s.desk p d; tray = put s.tray p tray; line = s.line })
  replaced d tray k = record { sheets = o.sheets; desks = λ q l. by_desk q l (ℕ_discrete q p) }
    where
      by_desk : (q : ℕ) → q < shelf.n → Dec (q ≡ p) → DeskInOrder shelf s.line q (put s.desk p d q) (put s.tray p tray q)
      by_desk q l (yes e) = rw e (rw (put_same s.desk p d, put_same s.tray p tray) k)
      by_desk q l (no e) = rw (put_other s.desk p d q e, put_other s.tray p tray q e) (o.desks q l)

  replaced_desk : (d : Desk) → DeskInOrder shelf s.line p d (s.tray p) → InOrder shelf (with_desk s p d)
  replaced_desk d k =
      subst (λ (f : ℕ → List ℕ). InOrder shelf (record { desk = put s.desk p d; tray = f; line = s.line })) (put_own s.tray p)
      (replaced d (s.tray p) k)

  replaced_tray : (tray : List ℕ) → DeskInOrder shelf s.line p (s.desk p) tray
      → InOrder shelf (record { desk = s.desk; tray = put s.tray p tray; line = s.line })
  replaced_tray tray k =
      subst (λ (f : ℕ → Desk). InOrder shelf (record { desk = f; tray = put s.tray p tray; line = s.line })) (put_own s.desk p)
      (replaced (s.desk p) tray k)

-- ---- a desk's next record is sound and has the same numbers, whatever the call answers

module _ {shelf : Shelf} {p : ℕ} {d : Desk} (a : AsOpened shelf p d) where
  still_opened : (x : Desk) → sound x ≡ true → DeskFits x → SameNumbers d x → AsOpened shelf p x
  still_opened x is_sound fits same =
      record {
        is_sound = is_sound;
        fits = fits;
        n = same.n ∙ a.n;
        m = same.m ∙ a.m;
        own = same.own ∙ a.own;
        mode = same.mode ∙ a.mode;
      }

  after_write : (cell : ℕ) (c : Content) → SFits w32 (day_of c) → AsOpened shelf p (write_of d cell c).desk
  after_write cell c day = still_opened _ (keeps_sound.write d cell c a.fits a.is_sound) (keeps_fits.write d cell c day a.fits) (numbers_stay.write d cell c)

  after_read : (cell : ℕ) → AsOpened shelf p (read_of d cell).desk
  after_read cell = still_opened _ (keeps_sound.read d cell a.fits a.is_sound) (keeps_fits.read d cell a.fits) (numbers_stay.read d cell)

  after_send : (buffer : List ℕ) → AsOpened shelf p (send_of d buffer).desk
  after_send buffer = still_opened _ (keeps_sound.send d buffer a.fits a.is_sound) (keeps_fits.send d buffer a.fits) (numbers_stay.send d buffer)

  after_take : (tray : List ℕ) → AreBytes tray → AsOpened shelf p (take_of d tray).desk
  after_take tray bytes = still_opened _ (keeps_sound.take d tray a.fits a.is_sound) (keeps_fits.take d tray bytes a.fits) (numbers_stay.take d tray)

-- ---- write and read: the turn and the tray stay

module _ {shelf : Shelf} {line : List SentSheet} {p : ℕ} {d : Desk} {tray : List ℕ} (o : DeskInOrder shelf line p d tray) where
  as_before : (x : Desk) → AsOpened shelf p x → SameTurn d x → DeskInOrder shelf line p x tray
  as_before x opened turn =
      record {
        as_opened = opened;
        no_further = rw turn o.no_further;
        past_own = rw turn o.past_own;
        tray_long = o.tray_long;
        tray_bytes = o.tray_bytes;
        places = rw turn o.places;
      }

  stored_in_order : (cell : ℕ) (c : Content) → SFits w32 (day_of c) → Silent (write_rules d cell c) → DeskInOrder shelf line p (written_desk d cell c) tray
  unfolding write_of
  stored_in_order cell c day silent =
      subst (λ (x : Desk). DeskInOrder shelf line p x tray) (changed_if (write_rules d cell c) d (written_desk d cell c) silent)
      (as_before (write_of d cell c).desk (after_write o.as_opened cell c day) (numbers_stay.write_turn d cell c))

  waiting_in_order : (cell : ℕ) → Silent (read_rules d cell) → must_wait d cell ≡ true → DeskInOrder shelf line p (waiting_desk d cell) tray
  unfolding read_of
  waiting_in_order cell silent w =
      subst (λ (x : Desk). DeskInOrder shelf line p x tray)
      (changed_if (read_rules d cell) d (cond (must_wait d cell) (waiting_desk d cell) d) silent ∙ ap (λ (t : Bool). cond t (waiting_desk d cell) d) w)
      (as_before (read_of d cell).desk (after_read o.as_opened cell) (numbers_stay.read_turn d cell))

-- ---- deliver: one place of the tray

same_place : (n : ℕ) (line : List SentSheet) (turn : ℕ) (t u : List ℕ) (q : ℕ) → SamePlace t u q → PlaceInOrder n line turn u q → PlaceInOrder n line turn t q
same_place n line turn t u q same (is_free f) = is_free (same_free t u q same ∙ f)
same_place n line turn t u q same (holds_sheet k sent due from g e) =
    let h : holds_good t q ≡ true = same_holds t u q same ∙ g in
    holds_sheet k sent due from h (same_sheet_held t u q same h ∙ e)

module _ {shelf : Shelf} {line : List SentSheet} {p : ℕ} {d : Desk} {tray : List ℕ} (o : DeskInOrder shelf line p d tray)
    (k : ℕ) (sent : k < length line) (x : SheetInOrder shelf k (sheet_on line k)) where
  abbrev sheet : List ℕ
  sheet = (sheet_on line k).bytes

  abbrev q : ℕ
  q = (trailer_in sheet).sender

  room : place_start q + 398 ≤ length tray
  room = place_there tray shelf.n q o.tray_long (rw x.sender (mod-lt k (some_desks o)))

  few : length sheet ≤ 396
  few = (good_within sheet x.is_good).1

  pub held_there : holds_good (held_in tray q sheet) q ≡ true
  held_there = held_holds tray q sheet few room ∙ x.is_good

  held_in_order : Silent (deliver_rules d tray sheet) → DeskInOrder shelf line p d (held_in tray q sheet)
  held_in_order silent =
      record {
        as_opened = o.as_opened;
        no_further = o.no_further;
        past_own = o.past_own;
        tray_long = held_long tray q sheet ∙ o.tray_long;
        tray_bytes = held_bytes tray q sheet o.tray_bytes x.are_bytes;
        places = λ r l. by_place r l (ℕ_discrete r q);
      }
    where
      due : d.head.turn ≤ k
      due = rw x.turn at (deliver_allows d tray sheet silent).due

      by_place : (r : ℕ) → r < shelf.n → Dec (r ≡ q) → PlaceInOrder shelf.n line d.head.turn (held_in tray q sheet) r
      by_place r l (yes e) =
          rw e (holds_sheet k sent due (sym x.sender) held_there (held_found tray q sheet few room).sheet_is)
      by_place r l (no e) = same_place shelf.n line d.head.turn (held_in tray q sheet) tray r (held_others tray r q sheet e) (o.places r l)

-- ---- take: the next sheet

module _ {shelf : Shelf} {line : List SentSheet} {p : ℕ} {d : Desk} {tray : List ℕ} (o : DeskInOrder shelf line p d tray) where
  taken_in_order : Silent (take_rules d tray) → DeskInOrder shelf line p (taken_desk d (entries_taken d tray)) (cleared_in tray (turn_desk d.head))
  unfolding take_of
  taken_in_order silent =
      record {
        as_opened = subst (AsOpened shelf p) is (after_take o.as_opened tray o.tray_bytes);
        no_further = omega (arith, (next_held o (take_allows d tray silent).not_free).sent);
        past_own = λ k l e. omega (arith, o.past_own k l e);
        tray_long = cleared_long tray (turn_desk d.head) ∙ o.tray_long;
        tray_bytes = cleared_bytes tray (turn_desk d.head) o.tray_bytes;
        places = λ r l. by_place r l (ℕ_discrete r (turn_desk d.head));
      }
    where
      is : (take_of d tray).desk ≡ taken_desk d (entries_taken d tray)
      is = changed_if (take_rules d tray) d (taken_desk d (entries_taken d tray)) silent

      -- a sheet in another place has another number
      later_due : (r : ℕ) → (r ≡ turn_desk d.head → ⊥) → PlaceInOrder shelf.n line d.head.turn (cleared_in tray (turn_desk d.head)) r
          → PlaceInOrder shelf.n line (d.head.turn + 1) (cleared_in tray (turn_desk d.head)) r
      later_due r apart (is_free f) = is_free f
      later_due r apart (holds_sheet k sent due from g e) =
          let other : d.head.turn ≢ k = λ z. apart (sym from ∙ ap (λ (j : ℕ). j % shelf.n) (sym z) ∙ sym (turn_desk_lem o)) in
          holds_sheet k sent (omega arith) from g e

      by_place : (r : ℕ) → r < shelf.n → Dec (r ≡ turn_desk d.head) → PlaceInOrder shelf.n line (d.head.turn + 1) (cleared_in tray (turn_desk d.head)) r
      by_place r l (yes e) = rw e (is_free (cleared_free tray (turn_desk d.head) (place_there tray shelf.n (turn_desk d.head) o.tray_long (turn_below o))))
      by_place r l (no e) =
          later_due r e (same_place shelf.n line d.head.turn (cleared_in tray (turn_desk d.head)) tray r (cleared_others tray r (turn_desk d.head) e) (o.places r l))

-- ---- send: one more sheet on the line

module _ (line : List SentSheet) (y : SentSheet) where
  abbrev more : List SentSheet
  more = line ++ (y ∷ [])

  more_place : (shelf : Shelf) (turn : ℕ) (tray : List ℕ) (q : ℕ) → PlaceInOrder shelf.n line turn tray q → PlaceInOrder shelf.n more turn tray q
  more_place shelf turn tray q (is_free f) = is_free f
  more_place shelf turn tray q (holds_sheet k sent due from g e) =
      holds_sheet k (omega (arith, more_long line y)) due from g (e ∙ ap (λ (x : SentSheet). x.bytes) (sym (more_same line y k sent)))

  more_sheets : (shelf : Shelf) → ((k : ℕ) → k < length line → SheetInOrder shelf k (sheet_on line k)) → SheetInOrder shelf (length line) y
      → (k : ℕ) → k < length more → SheetInOrder shelf k (sheet_on more k)
  more_sheets shelf old new k l = by_test (dec_lt k (length line))
    where
      by_test : Dec (k < length line) → SheetInOrder shelf k (sheet_on more k)
      by_test (yes h) = subst (SheetInOrder shelf k) (sym (more_same line y k h)) (old k h)
      by_test (no h) = let e : k ≡ length line = omega (arith, more_long line y) in rw e (rw (more_last line y) new)

  -- a desk whose own sheet this is not
  more_desk : (shelf : Shelf) (p : ℕ) (d : Desk) (tray : List ℕ) → length line % shelf.n ≢ p → DeskInOrder shelf line p d tray → DeskInOrder shelf more p d tray
  more_desk shelf p d tray other o =
      record {
        as_opened = o.as_opened;
        no_further = omega (arith, o.no_further, more_long line y);
        past_own = λ k l e. by_test k l e (dec_lt k (length line));
        tray_long = o.tray_long;
        tray_bytes = o.tray_bytes;
        places = λ q l. more_place shelf d.head.turn tray q (o.places q l);
      }
    where
      by_test : (k : ℕ) → k < length more → k % shelf.n ≡ p → Dec (k < length line) → k < d.head.turn
      by_test k l e (yes h) = o.past_own k h e
      by_test k l e (no h) = let z : k ≡ length line = omega (arith, more_long line y) in absurd (other (rw (← z) e))

module _ {shelf : Shelf} {line : List SentSheet} {p : ℕ} {d : Desk} {tray : List ℕ} (o : DeskInOrder shelf line p d tray)
    (buffer : List ℕ) (silent : Silent (send_rules d buffer)) where
  allowed : SendAllowed d buffer
  allowed = send_allows d buffer silent

  -- the sender is the desk whose turn it is, and its turn number is how many were sent before
  pub sender_is : d.head.turn % shelf.n ≡ p
  sender_is = sym (turn_desk_lem o) ∙ eqb-true _ _ allowed.own_turn_lem ∙ o.as_opened.own

  pub number_is : d.head.turn ≡ length line
  number_is = own_last o sender_is

  abbrev y : SentSheet
  y = record { from = p; bytes = sheet_by d }

  sent_sheet : SheetInOrder shelf (length line) y
  sent_sheet =
      let numbers = sheet_numbers d o.as_opened.fits (desk_sound o) allowed.own_turn_lem allowed.not_last in
      let at : p ≡ length line % shelf.n = sym sender_is ∙ ap (λ (j : ℕ). j % shelf.n) number_is in
      record {
        from = at;
        is_good = sheet_good d o.as_opened.fits (desk_sound o) allowed.own_turn_lem allowed.not_last;
        are_bytes = let z = desk_sound o in sheet_bytes d.head d.pkind d.pday z.own_below z.desks_most z.cells_most z.pkind_is;
        sender = ap (λ (x : Numbers). x.sender) numbers ∙ o.as_opened.own ∙ at;
        desks = ap (λ (x : Numbers). x.desks) numbers ∙ o.as_opened.n;
        cells = ap (λ (x : Numbers). x.cells) numbers ∙ o.as_opened.m;
        turn = ap (λ (x : Numbers). x.turn) numbers ∙ number_is;
      }

  sent_in_order : DeskInOrder shelf (line ++ (y ∷ [])) p (sent_desk d) tray
  unfolding send_of
  sent_in_order =
      let is : (send_of d buffer).desk ≡ sent_desk d = changed_if (send_rules d buffer) d (sent_desk d) silent in
      let long = more_long line y in
      record {
        as_opened = subst (AsOpened shelf p) is (after_send o.as_opened buffer);
        no_further = omega (arith, number_is, long);
        past_own = λ k l e. omega (arith, number_is, long);
        tray_long = o.tray_long;
        tray_bytes = o.tray_bytes;
        places = λ q l. is_free (none_left o number_is q l);
      }

-- ---- every step

module _ {shelf : Shelf} {s : State} (o : InOrder shelf s) where
  sends_in_order : (p : ℕ) (buffer : List ℕ) → p < shelf.n → Silent (send_rules (s.desk p) buffer)
      → InOrder shelf (record { desk = put s.desk p (sent_desk (s.desk p)); tray = s.tray; line = s.line ++ (record { from = p; bytes = sheet_by (s.desk p) } ∷ []) })
  sends_in_order p buffer here silent =
      record {
        sheets = more_sheets s.line y' shelf o.sheets (sent_sheet k buffer silent);
        desks = λ q l. by_desk q l (ℕ_discrete q p);
      }
    where
      k : DeskInOrder shelf s.line p (s.desk p) (s.tray p)
      k = o.desks p here

      y' : SentSheet
      y' = record { from = p; bytes = sheet_by (s.desk p) }

      other : (q : ℕ) → q ≢ p → length s.line % shelf.n ≢ q
      other q apart e = apart (sym e ∙ ap (λ (j : ℕ). j % shelf.n) (sym (number_is k buffer silent)) ∙ sender_is k buffer silent)

      by_desk : (q : ℕ) → q < shelf.n → Dec (q ≡ p)
          → DeskInOrder shelf (s.line ++ (record { from = p; bytes = sheet_by (s.desk p) } ∷ [])) q (put s.desk p (sent_desk (s.desk p)) q) (s.tray q)
      by_desk q l (yes e) = rw e (rw (put_same s.desk p (sent_desk (s.desk p))) (sent_in_order k buffer silent))
      by_desk q l (no e) =
          rw (put_other s.desk p (sent_desk (s.desk p)) q e)
          (more_desk s.line (record { from = p; bytes = sheet_by (s.desk p) }) shelf q (s.desk q) (s.tray q) (other q e) (o.desks q l))

  pub step_in_order : {c : Call} {a : Answer Value} {t : State} → Possible shelf.n s c → Step s c a t → InOrder shelf t
  step_in_order here (is_refused c k first) = o
  step_in_order here (is_stored p cell c silent) = replaced_desk o p _ (stored_in_order (o.desks p here.0) cell c here.1 silent)
  step_in_order here (is_read p cell silent w) = o
  step_in_order here (is_waiting p cell silent w) = replaced_desk o p _ (waiting_in_order (o.desks p here) cell silent w)
  step_in_order here (is_sent p buffer silent) = sends_in_order p buffer here silent
  step_in_order here (is_held p k silent) = replaced_tray o p _ (held_in_order (o.desks p here.0) k here.1 (o.sheets k here.1) silent)
  step_in_order here (is_taken p silent) = replaced o p _ _ (taken_in_order (o.desks p here) silent)
