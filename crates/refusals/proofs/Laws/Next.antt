-- What it says that a sheet is the next to be taken: `is_next` (specs/Rules.antt) as facts.
--   Next, next_says, next_if      a sheet that passes the test has them, and one that has them passes it
-- Assumes nothing.
use mathlib.Core.Path.{◌≡◌}
use mathlib.Core.Bool.{true}
use borrow.Author.Tests.{eq-eqb}
use Rattle.numbers.proofs.Tests.{tested}
use Rattle.layout.specs.declared.Numbers.{Numbers}
use Rattle.sound.specs.declared.Head.{Head}
use Rattle.sound.specs.Head.{turn_desk}
use Rattle.refusals.specs.Rules.{is_next}

pub record Next (h : Head) (x : Numbers) : Type 0 where
  pub desks : x.desks ≡ h.n
  pub cells : x.cells ≡ h.m
  pub sender : x.sender ≡ turn_desk h
  pub turn : x.turn ≡ h.turn

pub next_says : (h : Head) (x : Numbers) → is_next h x ≡ true → Next h x
next_says h x e = search tested

pub next_if : (h : Head) (x : Numbers) → Next h x → is_next h x ≡ true
next_if h x n =
    rw (eq-eqb x.desks h.n n.desks, eq-eqb x.cells h.m n.cells, eq-eqb x.sender (turn_desk h) n.sender, eq-eqb x.turn h.turn n.turn)
