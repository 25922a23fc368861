-- Source document 000, Figure 1: "The algorithm A(model) for process p. It is invoked with the parameter model, which defines the consistency
-- model that it must implement." Variables and processes are numbered; a value of a variable is one of the type A.
-- Assumes nothing.
use Rattle.std.specs.Prelude.{ℕ, suc, ◌+◌, ◌%◌, ◌≡◌, cond, ◌⊎◌, ◌≢◌, eqb}
use Rattle.std.proofs.Math.Option.{Option, none, some}

-- "the parameter must take one of the values causal, sequential, or cache"
pub data Model : Type 0 where
  sequential : Model
  causal : Model
  cache : Model

-- "a local set of variable updates": pairs (x, v), one for a variable at most. For each variable, the v of its pair, if there is one
abbrev pub Updates : Type 0 → Type 0
Updates A = ℕ → Option A

abbrev pub ∅ : {A : Type 0} → Updates A
∅ x = none

-- "remove (x, ·)", "include (x, v)"
abbrev pub remove : {A : Type 0} → ℕ → Updates A → Updates A
remove x updates y = cond (eqb y x) none (updates y)

abbrev pub include : {A : Type 0} → ℕ → A → Updates A → Updates A
include x v updates y = cond (eqb y x) (some v) (updates y)

-- "x_p ← v"
abbrev pub assign : {A : Type 0} → ℕ → A → (ℕ → A) → ℕ → A
assign x v copy y = cond (eqb y x) v (copy y)

-- a process p: x_p for each variable x, updates_p, turn_p; the variable of a read that is blocked in "wait until turn_p = p", if one is; and "the
-- receiving buffer of process p": for each process q, the set updates_q that is in it, if one is
pub record Process (A : Type 0) : Type 0 where
  pub copy : ℕ → A
  pub updates : Updates A
  pub turn : ℕ
  pub blocked : Option ℕ
  pub buffer : ℕ → Option (Updates A)

-- what a piece of the algorithm does to be seen: w_p(x)v; r_p(x)v; a read of x that blocks; broadcast(updates_p); and an application of
-- updates_q, with the number of pairs extracted and the number of those assigned
pub data Event (A : Type 0) : Type 0 where
  writes : (x : ℕ) (v : A) → Event A
  reads : (x : ℕ) (v : A) → Event A
  blocks : (x : ℕ) → Event A
  broadcasts : (updates : Updates A) → Event A
  applies_updates : (q : ℕ) (updates : Updates A) (extracted assigned : ℕ) → Event A

-- "Initialization:: turn_p ← 0; updates_p ← ∅"; no read is blocked, and nothing was received
abbrev pub initial : {A : Type 0} → (ℕ → A) → Process A
initial copy = record { copy = copy; updates = ∅; turn = 0; blocked = none; buffer = λ q. none }

-- "take updates_q from the receiving buffer"
abbrev pub without : {A : Type 0} → ℕ → (ℕ → Option (Updates A)) → ℕ → Option (Updates A)
without q buffer r = cond (eqb r q) none (buffer r)

-- "turn_p ← (turn_p + 1) mod n"
abbrev pub next_turn : ℕ → ℕ → ℕ
next_turn n turn = (turn + 1) % n

-- the loop of apply_updates(), for a model
module _ {A : Type 0} (model : Model) where
  -- "if (model = causal) or ((x, ·) ∉ updates_p) then"
  abbrev pub Assigned : Updates A → ℕ → Type 0
  Assigned own x = (model ≡ causal) ⊎ (own x ≡ none)

  -- "while updates_q ≠ ∅ do extract (x, v) from updates_q; if .. then x_p ← v", for updates_p = `own`: from these updates_q and copies, after
  -- so many extractions and so many assignments, to the copies at the end. Which pair is extracted next is left open, as there
  pub data Loop (own : Updates A) : (updates : Updates A) (copy : ℕ → A) (extracted assigned : ℕ) (after : ℕ → A) → Type 0 where
    ends : {u : Updates A} {c : ℕ → A} → u ≡ ∅ → Loop own u c 0 0 c
    assigns : {u : Updates A} {c c' : ℕ → A} {k j : ℕ} (x : ℕ) (v : A) → u x ≡ some v → Assigned own x
        → Loop own (remove x u) (assign x v c) k j c' → Loop own u c (suc k) (suc j) c'
    passes : {u : Updates A} {c c' : ℕ → A} {k j : ℕ} (x : ℕ) (v : A) → u x ≡ some v → (Assigned own x → ⊥)
        → Loop own (remove x u) c k j c' → Loop own u c (suc k) j c'

-- the algorithm of process p of n, for a model
module _ {A : Type 0} (n p : ℕ) (model : Model) where
  -- "if (model = sequential) and (updates_p ≠ ∅) and ((x, ·) ∉ updates_p) then wait until turn_p = p"
  pub record Waits (s : Process A) (x : ℕ) : Type 0 where
    pub is_sequential : model ≡ sequential
    pub some_updates : s.updates ≢ ∅
    pub none_of_x : s.updates x ≡ none
    pub elsewhere : s.turn ≢ p

  -- the pieces, each atomic. A process that is blocked in a read issues no other operation meanwhile: it writes and reads only where no
  -- read of its own is blocked (01: 8, "a read waits at this desk")
  pub data Step : Process A → Event A → Process A → Type 0 where
    -- "w_p(x)v": "x_p ← v; if ((x, ·) ∈ updates_p) then remove (x, ·) from updates_p; include (x, v) in updates_p"
    write : (s : Process A) (x : ℕ) (v : A) → s.blocked ≡ none
        → Step s (writes x v)
        (record { copy = assign x v s.copy; updates = include x v (remove x s.updates); turn = s.turn; blocked = none; buffer = s.buffer })
    -- "r_p(x)": it need not wait, "return(x_p)"
    read : (s : Process A) (x : ℕ) → s.blocked ≡ none → (Waits s x → ⊥) → Step s (reads x (s.copy x)) s
    -- or it waits, and "other tasks are free to access the algorithm variables"
    block : (s : Process A) (x : ℕ) → s.blocked ≡ none → Waits s x
        → Step s (blocks x) (record { copy = s.copy; updates = s.updates; turn = s.turn; blocked = some x; buffer = s.buffer })
    -- "until turn_p = p": then "return(x_p)"
    finish : (s : Process A) (x : ℕ) → s.blocked ≡ some x → s.turn ≡ p
        → Step s (reads x (s.copy x)) (record { copy = s.copy; updates = s.updates; turn = s.turn; blocked = none; buffer = s.buffer })
    -- "send_updates() :: atomic task activated whenever turn_p = p"; "when turn_p = p, a blocked read operation finishes before
    -- send_updates() is executed". (To whom the set goes, "to all processes, except itself", is the line's part, and 01's 15)
    send : (s : Process A) → s.turn ≡ p → s.blocked ≡ none
        → Step s (broadcasts s.updates)
        (record { copy = s.copy; updates = ∅; turn = next_turn n s.turn; blocked = none; buffer = s.buffer })
    -- "apply_updates() :: atomic task activated whenever turn_p = q, p ≠ q, and the set updates_q from process q is in the receiving
    -- buffer of process p"
    apply : (s : Process A) (q : ℕ) (updates : Updates A) {k j : ℕ} {after : ℕ → A} → s.turn ≡ q → p ≢ q → s.buffer q ≡ some updates
        → Loop model s.updates updates s.copy k j after
        → Step s (applies_updates q updates k j)
        (record { copy = after; updates = s.updates; turn = next_turn n s.turn; blocked = s.blocked; buffer = without q s.buffer })
