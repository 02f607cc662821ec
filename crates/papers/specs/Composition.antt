-- The composition of two machines T1 and T2 with a filter, as a relation. ARS: Allauzen, Riley, Schalkwyk 2009, "A generalized composition algorithm for weighted finite-state
-- transducers"; MPR: Mohri, Pereira, Riley 2002, whose composition it is where no label is ε. T1's outputs and T2's inputs are the inner labels, by which the two meet; T1's
-- inputs and T2's outputs are the outer labels, which the composition has.
use Rattle.std.specs.Prelude.{◌≡◌, true, ◌≢◌, ℕ, Some}
use mathlib.Core.List.{Memᴰ}
use Rattle.papers.specs.Machine.{ε, Machine}
use Rattle.papers.specs.Weight.{Semiring}
use Rattle.papers.specs.Filter.{MoveKind, lone1, lone2, bothEpsilon, aLabel, facts_of, Filter}

-- ARS, the extended transitions: the self-loop that every state is given, on which the machine rests, or a transition, by its number
pub data Edge : Type 0 where
  rest : Edge
  along : ℕ → Edge

-- MPR, p[e] = q: e leaves q. The self-loop leaves every state.
abbrev pub Leaves : Machine → ℕ → Edge → Type 0
Leaves M q rest = Unit {0}
Leaves M q (along t) = Memᴰ t (M.list q)

-- MPR, n[e], for e that leaves q
abbrev pub next_state : Machine → ℕ → Edge → ℕ
next_state M q rest = q
next_state M q (along t) = M.target t

-- ARS: the outer label of e, where `label` gives that of a transition; the self-loop has ε
abbrev pub outer : (ℕ → ℕ) → Edge → ℕ
outer label rest = ε
outer label (along t) = label t

-- ARS: what may stand on the inner side, a label, ε included, or ε^L
pub data Inner : Type 0 where
  label : ℕ → Inner
  εᴸ : Inner

-- ARS: the inner label of e; the self-loop has ε^L
abbrev pub inner : (ℕ → ℕ) → Edge → Inner
inner label_of rest = εᴸ
inner label_of (along t) = label (label_of t)

-- Which labels x and y, neither ε, of a transition from q1 and a transition from q2 meet. Ours: the papers know only equality; the relation is left open for a special label.
abbrev pub Meets : Type 1
Meets = ℕ → ℕ → ℕ → ℕ → Type 0

-- MPR, ARS: a label meets itself alone
abbrev pub equal : Meets
equal q1 q2 x y = x ≡ y

-- ARS: the inner labels a and b of extended transitions from q1 and q2 meet, as a move of this kind: (ε, ε^L), (ε^L, ε), (ε, ε), (x, x) or, where other labels meet, (x, y)
abbrev pub Met : Meets → ℕ → ℕ → MoveKind → Inner → Inner → Type 0
Met meets q1 q2 lone1 a b = (a ≡ label ε) × (b ≡ εᴸ)
Met meets q1 q2 lone2 a b = (a ≡ εᴸ) × (b ≡ label ε)
Met meets q1 q2 bothEpsilon a b = (a ≡ label ε) × (b ≡ label ε)
Met meets q1 q2 aLabel a b = (x : ℕ) × (y : ℕ) × (a ≡ label x) × (b ≡ label y) × (x ≢ ε) × (y ≢ ε) × meets q1 q2 x y

-- what is composed: T1, T2, which of their inner labels meet, and the filter
pub record Composed : Type 1 where
  pub first : Machine
  pub second : Machine
  pub meets : Meets
  pub filter : Filter

-- ARS, a composed state (q1, q2, q3); Allauzen, Riley, Schalkwyk, Skut, Mohri 2007, "OpenFst", a tuple of the state table
pub record Triple : Type 0 where
  pub s1 : ℕ
  pub s2 : ℕ
  pub f : ℕ

-- ARS, (e1, e2)
pub record Edges : Type 0 where
  pub first : Edge
  pub second : Edge

-- ARS, the composed initial state (i1, i2, i3), with i3 = 0
abbrev pub Start : Composed → Triple → Type 0
Start C s = (C.first.start ≡ Some s.s1) × (C.second.start ≡ Some s.s2) × (s.f ≡ 0)

-- ARS: e1 leaves q1, e2 leaves q2, and their inner labels meet, as a move of this kind
abbrev pub Enabled : Composed → ℕ → ℕ → MoveKind → Edges → Type 0
Enabled C q1 q2 k m =
    Leaves C.first q1 m.first
    × Leaves C.second q2 m.second
    × Met C.meets q1 q2 k (inner C.first.output m.first) (inner C.second.input m.second)

-- ARS, the transitions of the composition: (e1, e2) at (q1, q2, q3) where φ(e1, e2, q3) = g, and not ⊥
abbrev pub KeptMove : Composed → Triple → Edges → ℕ → Type 0
KeptMove C s m g = (k : MoveKind) × Enabled C s.s1 s.s2 k m × (C.filter k (facts_of C.first C.second s.s1 s.s2) s.f ≡ Some g)

-- ARS: it leads to (n[e1], n[e2], g),
abbrev pub reached : Composed → Triple → Edges → ℕ → Triple
reached C s m g = record { s1 = next_state C.first s.s1 m.first; s2 = next_state C.second s.s2 m.second; f = g }

-- has the input i[e1]
abbrev pub composed_input : Composed → Edges → ℕ
composed_input C m = outer C.first.input m.first

-- and the output o[e2].
abbrev pub composed_output : Composed → Edges → ℕ
composed_output C m = outer C.second.output m.second

-- MPR, ARS: (q1, q2, q3) is final where q1 and q2 are
abbrev pub BothFinal : Composed → ℕ → ℕ → Type 0
BothFinal C q1 q2 = (C.first.is_final q1 ≡ true) × (C.second.is_final q2 ≡ true)

-- `value` says which element of the semiring a machine's number stands for
module _ (K : Semiring) (value : ℕ → K.Element) where
  -- ARS, w[e]: the self-loop weighs 1̄
  abbrev pub edge_weight : Machine → Edge → K.Element
  edge_weight M rest = K.one
  edge_weight M (along t) = value (M.weight t)

  -- MPR, ARS: (e1, e2) weighs w[e1] ⊗ w[e2]
  abbrev pub move_weight : Composed → Edges → K.Element
  move_weight C m = K.times (edge_weight C.first m.first) (edge_weight C.second m.second)

  -- MPR, ARS: the final weight of (q1, q2, q3), where it is final, is ρ1(q1) ⊗ ρ2(q2)
  abbrev pub final_product : Composed → ℕ → ℕ → K.Element
  final_product C q1 q2 = K.times (value (C.first.final_weight q1)) (value (C.second.final_weight q2))
