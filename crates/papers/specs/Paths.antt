-- Paths of a machine, as lists of transitions, and of a composition, as lists of moves. MPR: Mohri, Pereira, Riley 2002, the definitions of a path, its labels and its weight.
use Rattle.std.specs.Prelude.{◌≡◌, true, not, ◌≢◌, ℕ, eqb, Some}
use mathlib.Core.List.{List, [], ◌∷◌, map, flat_map, Memᴰ}
use Rattle.lists.specs.Lists.{keep_if}
use Rattle.papers.specs.Machine.{ε, Machine}
use Rattle.papers.specs.Weight.{Semiring}
use Rattle.papers.specs.Composition.{Edge, rest, along, next_state, Composed, Triple, Edges, Start, KeptMove, reached, composed_input, composed_output, move_weight, BothFinal, final_product}

-- MPR, the label of a path: its transitions' labels put together, ε left out
unfoldable pub word : List ℕ → List ℕ
word labels = keep_if (λ x. not (eqb x ε)) labels

-- the transition of an extended transition; the self-loop is none
abbrev pub taken : Edge → List ℕ
taken rest = []
taken (along t) = t ∷ []

-- the path of T1, and of T2, in a list of moves
abbrev pub path1 : List Edges → List ℕ
path1 ms = flat_map (λ m. taken m.first) ms

abbrev pub path2 : List Edges → List ℕ
path2 ms = flat_map (λ m. taken m.second) ms

-- two lists of labels agree place by place, by the relation R
abbrev pub Agree : (ℕ → ℕ → Type 0) → List ℕ → List ℕ → Type 0
Agree R [] [] = Unit {0}
Agree R [] (y ∷ ys) = ⊥
Agree R (x ∷ xs) [] = ⊥
Agree R (x ∷ xs) (y ∷ ys) = R x y × Agree R xs ys

-- MPR, the pairs of paths that composition pairs: the output label z of a path of T1 is the input label of a path of T2. Where R is equality they are one; for other R they agree.
abbrev pub Matching : (ℕ → ℕ → Type 0) → Machine → Machine → List ℕ → List ℕ → Type 0
Matching R A B p1 p2 = Agree R (word (map A.output p1)) (word (map B.input p2))

-- MPR: the input label, and the output label, of a path of the composition
abbrev pub input_word : Composed → List Edges → List ℕ
input_word C ms = word (map (composed_input C) ms)

abbrev pub output_word : Composed → List Edges → List ℕ
output_word C ms = word (map (composed_output C) ms)

module _ (K : Semiring) (value : ℕ → K.Element) where
  -- A path may end in q: q is final. Ours: and its final weight is not 0̄, since such a path adds nothing to a ⊕-sum.
  abbrev pub Ends : Machine → ℕ → Type 0
  Ends M q = (M.is_final q ≡ true) × (value (M.final_weight q) ≢ K.zero)

  -- MPR, a path from q that is accepting from there: consecutive transitions to such a state
  abbrev pub Accepting : Machine → ℕ → List ℕ → Type 0
  Accepting M q [] = Ends M q
  Accepting M q (t ∷ p) = Memᴰ t (M.list q) × Accepting M (M.target t) p

  -- MPR, an accepting path: from the initial state
  abbrev pub AcceptingPath : Machine → List ℕ → Type 0
  AcceptingPath M p = (q : ℕ) × (M.start ≡ Some q) × Accepting M q p

  -- MPR, the weight of an accepting path: the ⊗-product of its transitions' weights and the final weight of its end
  abbrev pub path_weight : Machine → ℕ → List ℕ → K.Element
  path_weight M q [] = value (M.final_weight q)
  path_weight M q (t ∷ p) = K.times (value (M.weight t)) (path_weight M (M.target t) p)

  -- the same four of a composition: a composed state may end a path,
  abbrev pub EndsBoth : Composed → ℕ → ℕ → Type 0
  EndsBoth C q1 q2 = BothFinal C q1 q2 × (final_product K value C q1 q2 ≢ K.zero)

  -- composed transitions from a composed state to such a one,
  abbrev pub AcceptingMoves : Composed → Triple → List Edges → Type 0
  AcceptingMoves C s [] = EndsBoth C s.s1 s.s2
  AcceptingMoves C s (m ∷ ms) = (g : ℕ) × KeptMove C s m g × AcceptingMoves C (reached C s m g) ms

  -- from the composed initial state,
  abbrev pub AcceptingRun : Composed → List Edges → Type 0
  AcceptingRun C ms = (s : Triple) × Start C s × AcceptingMoves C s ms

  -- and their weight
  abbrev pub moves_weight : Composed → ℕ → ℕ → List Edges → K.Element
  moves_weight C q1 q2 [] = final_product K value C q1 q2
  moves_weight C q1 q2 (m ∷ ms) = K.times (move_weight K value C m) (moves_weight C (next_state C.first q1 m.first) (next_state C.second q2 m.second) ms)
