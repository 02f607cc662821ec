-- Demand 3c, of the papers' composition: "accepting paths (final weight not zero) correspond one to one, paired as in document 01, with all pairs of accepting paths whose
-- inner labels (outputs of the first, inputs of the second) agree, epsilons left out, and weigh the product of both."
use Rattle.std.specs.Prelude.{◌≡◌, Bool, ◌↔◌, ◌≢◌, ℕ}
use mathlib.Core.List.{List, map, Memᴰ}
use Rattle.papers.specs.Machine.{ε, Machine}
use Rattle.papers.specs.Weight.{Semiring, Kind, semiring}
use Rattle.papers.specs.Filter.{MoveKind, Filter}
use Rattle.papers.specs.Composition.{equal, Composed, Triple, Edges}
use Rattle.papers.specs.Paths.{word, path1, path2, Matching, input_word, output_word, Accepting, AcceptingPath, path_weight, AcceptingMoves, AcceptingRun, moves_weight}
use Rattle.readings.specs.Correspondence.{OneToOne}
use Rattle.readings.specs.Merge.{merge}

-- the papers' composition of two machines with this filter: only a label and itself meet
abbrev pub plain_composed : Machine → Machine → Filter → Composed
plain_composed A B filter = record { first = A; second = B; meets = equal; filter = filter }

-- Which labels of transitions from q1 and q2 meet is told by one relation R of labels, whatever q1 and q2 are. Where `meets` is `equal`, R is equality.
abbrev pub MeetBy : (ℕ → ℕ → Type 0) → Composed → Type 0
MeetBy R C = (q1 q2 t u : ℕ) → Memᴰ t (C.first.list q1) → Memᴰ u (C.second.list q2) → C.first.output t ≢ ε → C.second.input u ≢ ε
    → C.meets q1 q2 (C.first.output t) (C.second.input u) ↔ R (C.first.output t) (C.second.input u)

-- two states in the first filter state
abbrev pub at : ℕ → ℕ → Triple
at q1 q2 = record { s1 = q1; s2 = q2; f = 0 }

-- "a composed path's pair is the machine 1 records and the machine 2 records of its moves, in order"
abbrev pub pair_of : List Edges → List ℕ × List ℕ
pair_of ms = (path1 ms, path2 ms)

module _ (K : Semiring) (value : ℕ → K.Element) (R : ℕ → ℕ → Type 0) (C : Composed) where
  -- a pair of accepting paths from q1 and q2 whose inner labels agree, ε left out
  abbrev pub PairFrom : ℕ → ℕ → List ℕ × List ℕ → Type 0
  PairFrom q1 q2 p = Accepting K value C.first q1 p.0 × Accepting K value C.second q2 p.1 × Matching R C.first C.second p.0 p.1

  -- the same from the initial states: none where a machine has no initial state
  abbrev pub Pair : List ℕ × List ℕ → Type 0
  Pair p = AcceptingPath K value C.first p.0 × AcceptingPath K value C.second p.1 × Matching R C.first C.second p.0 p.1

  -- `join` makes the composed path of a pair
  pub record Readings (join : List ℕ → List ℕ → List Edges) : Type 0 where
    -- 3c: the accepting paths of the composition and the pairs correspond one to one
    pub paths : OneToOne (AcceptingRun K value C) Pair pair_of (λ p. join p.0 p.1)
    -- so do those from any two states
    pub paths_from : (q1 q2 : ℕ) → OneToOne (AcceptingMoves K value C (at q1 q2)) (PairFrom q1 q2) pair_of (λ p. join p.0 p.1)
    -- 2b: the composed input labels are those of the first path, the output labels those of the second
    pub inputs : (ms : List Edges) → input_word C ms ≡ word (map C.first.input (path1 ms))
    pub outputs : (ms : List Edges) → output_word C ms ≡ word (map C.second.output (path2 ms))
    -- 3c: a composed path weighs the product of both, final weights included: from any two states, so from the starts
    pub weights : (q1 q2 : ℕ) (ms : List Edges)
        → moves_weight K value C q1 q2 ms ≡ K.times (path_weight K value C.first q1 (path1 ms)) (path_weight K value C.second q2 (path2 ms))

-- the statement where only a label and itself meet; `pick` says which move goes first
abbrev pub ReadingsOf : (k : Kind) → (ℕ → (semiring k).Element) → Machine → Machine → Filter → (Bool → Bool → MoveKind) → Type 0
ReadingsOf k value A B filter pick = Readings (semiring k) value ◌≡◌ (plain_composed A B filter) (merge pick A B)

-- the same machines, and labels that meet, with another filter
abbrev pub filtered_by : Filter → Composed → Composed
filtered_by F C = record { first = C.first; second = C.second; meets = C.meets; filter = F }

-- two compositions have the same accepting paths, as lists of moves: from the starts, and from any two states
abbrev pub SamePaths : (K : Semiring) → (ℕ → K.Element) → Composed → Composed → Type 0
SamePaths K value C D =
    ((ms : List Edges) → AcceptingRun K value C ms ↔ AcceptingRun K value D ms)
    × ((q1 q2 : ℕ) (ms : List Edges) → AcceptingMoves K value C (at q1 q2) ms ↔ AcceptingMoves K value D (at q1 q2) ms)
