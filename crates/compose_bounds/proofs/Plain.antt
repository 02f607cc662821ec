-- Compositions without sigma: the direction is known from the two lengths.
use mathlib.Core.Path.{◌≡◌, refl}
use Prim.Native.Nat.{ℕ}
use lib.ListN.{length}
use borrow.Author.Tests.{eq-eqb}
use Rattle.words.specs.Labels.{no_label, good}
use Rattle.words.specs.Sigmas.{Operand, sigma_trs}
use Rattle.words.specs.Sides.{Side, only, both, direction_at}
use Rattle.words.specs.Steps.{Composition, Triple}
use Rattle.compose_bounds.specs.Serving.{plain_direction}

direction : (side : Side) (A B : Operand) (s1 s2 : ℕ) → A.sigma.label ≡ no_label → B.sigma.label ≡ no_label
    → direction_at side A B s1 s2 ≡ good (plain_direction side (length (A.machine.list s1)) (length (B.machine.list s2)))
unfolding direction_at sigma_trs
direction (only on) A B s1 s2 e f = refl
direction both A B s1 s2 e f = rw (eq-eqb A.sigma.label no_label e, eq-eqb B.sigma.label no_label f)

-- the direction at a composed state
pub plain_direction_lem : (c : Composition) (s : Triple) → c.operand1.sigma.label ≡ no_label → c.operand2.sigma.label ≡ no_label
    → direction_at c.side c.operand1 c.operand2 s.s1 s.s2 ≡ good (plain_direction c.side (length (c.operand1.machine.list s.s1)) (length (c.operand2.machine.list s.s2)))
plain_direction_lem c s = direction c.side c.operand1 c.operand2 s.s1 s.s2
