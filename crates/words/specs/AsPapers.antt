-- 01's composition read as the papers': exact weights, the papers' edges of a match, which inner labels meet, the machines. The theorems of proofs/Papers*.antt tie 01's lists to it.
use Rattle.std.specs.Prelude.{◌≡◌, true, cond, ℕ, ◌≤◌, ◌<◌, eqb}
use mathlib.Core.List.{Memᴰ}
use Rattle.papers.specs.Weight.{finite, infinite, semiring}
use Rattle.papers.specs.Composition.{Edge, rest, along, Meets, equal, Composed, Edges, composed_input, composed_output, move_weight, final_product}
use Rattle.papers.specs.Sigma.{Special, special_of1, special_of2}
use Rattle.words.specs.Labels.{MAX, Checked, good, refused}
use Rattle.words.specs.Weights.{Kind, cost, count}
use Rattle.words.specs.Matches.{MatchType, inputs, outputs, Match, loop, own, viaSigma}
use Rattle.words.specs.Sigmas.{Sigma, Operand, inner, is_allowed, replace}
use Rattle.words.specs.Sides.{direction_at}
use Rattle.words.specs.Steps.{Composition, Triple, Move, asks, move_of}

-- "its weight is exact, without a limit: a cost MAX makes it infinite, which is the zero there, while a finite sum of MAX or more stays a number"
abbrev pub exact : (k : Kind) → ℕ → (semiring k).Element
exact cost w = cond (eqb w MAX) infinite (finite w)
exact count w = w

-- "A cost of two finite parts reaching MAX, or a count above MAX, is too large."
abbrev pub TooLarge : (k : Kind) → (semiring k).Element → Type 0
TooLarge cost (finite n) = MAX ≤ n
TooLarge cost infinite = ⊥
TooLarge count n = MAX < n

-- a match as an extended transition: the loop is the resting self-loop, a transition is itself, rewritten or not
abbrev pub edge_of : Match → Edge
edge_of loop = rest
edge_of (own t) = along t
edge_of (viaSigma t) = along t

abbrev pub edges_of : Move → Edges
edges_of v = record { first = edge_of v.first; second = edge_of v.second }

-- "Sigma": the label, and the labels that are allowed
abbrev pub special_of : Operand → Special
special_of o = record { sigma = o.sigma.label; allowed = λ x. is_allowed o.sigma.allowed x ≡ true }

-- the sigma of the machine that is looked up: machine 2 in direction input, machine 1 in direction output
abbrev pub meets_in : MatchType → Operand → Operand → Meets
meets_in inputs A B = special_of2 (special_of B)
meets_in outputs A B = special_of1 (special_of A)

-- the machines and the filter of c, with labels that meet so
abbrev pub composed_by : Meets → Composition → Composed
composed_by meets c = record { first = c.operand1.machine; second = c.operand2.machine; meets = meets; filter = c.filter }

-- the papers' composition in direction d
abbrev pub composed_in : MatchType → Composition → Composed
composed_in d c = composed_by (meets_in d c.operand1 c.operand2) c

-- each pair of states has its direction; where 10 refuses one, no labels meet
abbrev pub meets_by : Checked MatchType → Operand → Operand → Meets
meets_by (good d) A B q1 q2 x y = meets_in d A B q1 q2 x y
meets_by (refused n) A B q1 q2 x y = ⊥

-- the papers' composition, one for all composed states
abbrev pub composed_of : Composition → Composed
composed_of c = composed_by (λ q1 q2 x y. meets_by (direction_at c.side c.operand1 c.operand2 q1 q2) c.operand1 c.operand2 q1 q2 x y) c

-- with no sigma label set: the papers' own, in which a label meets itself alone
abbrev pub plain : Composition → Composed
plain c = composed_by equal c

-- the direction at a composed state
abbrev pub direction_of : Composition → Triple → Checked MatchType
direction_of c s = direction_at c.side c.operand1 c.operand2 s.s1 s.s2

-- 11, "walked label is sigma": a transition of the walked machine, at these states, has the sigma label of the machine that is looked up
abbrev pub WalkedSigma : MatchType → Operand → Operand → ℕ → ℕ → Type 0
WalkedSigma inputs A B s1 s2 = (t : ℕ) × Memᴰ t (A.machine.list s1) × (inner A t ≡ B.sigma.label)
WalkedSigma outputs A B s1 s2 = (u : ℕ) × Memᴰ u (B.machine.list s2) × (inner B u ≡ A.sigma.label)

-- A move's matches are known from its edges. The walked machine rests or takes a transition as it stands. So does the machine that is looked up where the labels are equal;
-- where they are not, its transition serves as sigma.
abbrev pub walked_of : Edge → Match
walked_of rest = loop
walked_of (along t) = own t

abbrev pub match_of : Operand → Operand → Edge → Edge → Match
match_of W M e rest = loop
match_of W M rest (along u) = own u
match_of W M (along t) (along u) = cond (eqb (inner M u) (inner W t)) (own u) (viaSigma u)

abbrev pub matches_of : MatchType → Operand → Operand → Edges → Move
matches_of inputs A B m = move_of inputs (walked_of m.first) (match_of A B m.first m.second)
matches_of outputs A B m = move_of outputs (walked_of m.second) (match_of B A m.second m.first)

-- 01's addition, "both after any rewriting": what becomes of a match's outer label l, where the other machine's label is x. Only that of a sigma transition changes, where
-- sigma is rewritten on both sides and l is sigma: to x.
abbrev pub rewritten : Sigma → ℕ → Match → ℕ → ℕ
rewritten σ x loop l = l
rewritten σ x (own t) l = l
rewritten σ x (viaSigma t) l = cond σ.rewrite_both (replace σ.label x l) l

-- "machine 1's input, machine 2's output (both after any rewriting)" of the composed transition that the two matches make
abbrev pub input_by : Composition → Move → ℕ
input_by c v = rewritten c.operand1.sigma (asks c.operand2 v.second) v.first (composed_input (composed_of c) (edges_of v))

abbrev pub output_by : Composition → Move → ℕ
output_by c v = rewritten c.operand2.sigma (asks c.operand1 v.first) v.second (composed_output (composed_of c) (edges_of v))

-- the exact weight of the composed transition (e1, e2), and the exact final weight of a composed state
abbrev pub weight_by : (c : Composition) → Edges → (semiring c.kind).Element
weight_by c m = move_weight (semiring c.kind) (exact c.kind) (composed_of c) m

abbrev pub end_weight : (c : Composition) → Triple → (semiring c.kind).Element
end_weight c s = final_product (semiring c.kind) (exact c.kind) (composed_of c) s.s1 s.s2
