-- Composed paths as document 01 has them: "An expanded state's k-th transition record is its k-th kept move". A path is then a list of places: in the list of the state where it
-- begins, in the list of the state reached, and so on. Places count from 0.
use Rattle.std.specs.Prelude.{Bool, true, false, ◌&&◌, ◌↔◌, ℕ, suc, eqb, Option, None, Some, slice_get}
use mathlib.Core.List.{List, [], ◌∷◌, Memᴰ}
use Rattle.lists.specs.Lists.{At, Distinct}
use Rattle.papers.specs.Weight.{Semiring}
use Rattle.papers.specs.Composition.{Edge, rest, along, Composed, Triple, Edges, KeptMove, reached}
use Rattle.papers.specs.Paths.{EndsBoth}

-- for each composed state a list of moves with their next filter states
abbrev pub MoveLists : Type 0
MoveLists = Triple → List (Edges × ℕ)

-- The lists hold the kept moves and nothing else, each once, at all states of a set that no kept move leaves.
pub record Lists (C : Composed) (Found : Triple → Type 0) (listed : MoveLists) : Type 0 where
  pub exactly : (s : Triple) → Found s → (m : Edges) (g : ℕ) → Memᴰ (m, g) (listed s) ↔ KeptMove C s m g
  pub once : (s : Triple) → Found s → Distinct (listed s)
  pub onward : (s : Triple) → Found s → (m : Edges) (g : ℕ) → KeptMove C s m g → Found (reached C s m g)

-- the move of an entry, and what comes after it; without an entry nothing
abbrev pub then_moves : Option (Edges × ℕ) → (Edges → ℕ → List Edges) → List Edges
then_moves None go = []
then_moves (Some e) go = e.0 ∷ go e.0 e.1

abbrev pub same_edge : Edge → Edge → Bool
same_edge rest rest = true
same_edge rest (along u) = false
same_edge (along t) rest = false
same_edge (along t) (along u) = eqb t u

abbrev pub same_move : Edges → Edges → Bool
same_move m n = same_edge m.first n.first && same_edge m.second n.second

-- the entry at hand is the one that is sought, with next filter state g, or another of those behind it is
abbrev pub place_or : Bool → ℕ → Option (ℕ × ℕ) → Option (ℕ × ℕ)
place_or true g found = Some (0, g)
place_or false g None = None
place_or false g (Some r) = Some (suc r.0, r.1)

-- the place of the first entry with this move, and its next filter state
unfoldable pub place_among : Edges → List (Edges × ℕ) → Option (ℕ × ℕ)
place_among m [] = None
place_among m (e ∷ es) = place_or (same_move m e.0) e.1 (place_among m es)

abbrev pub then_places : Option (ℕ × ℕ) → (ℕ → List ℕ) → List ℕ
then_places None go = []
then_places (Some r) go = r.0 ∷ go r.1

module _ (C : Composed) (listed : MoveLists) where
  -- the moves at these places, from the state s on
  unfoldable pub moves_at : Triple → List ℕ → List Edges
  moves_at s [] = []
  moves_at s (k ∷ ks) = then_moves (slice_get (listed s) k) (λ m g. moves_at (reached C s m g) ks)

  -- the places of these moves, from the state s on
  unfoldable pub places_of : Triple → List Edges → List ℕ
  places_of s [] = []
  places_of s (m ∷ ms) = then_places (place_among m (listed s)) (λ g. places_of (reached C s m g) ms)

  -- places that lead to a final pair of states, whose weight is not 0̄
  abbrev pub AcceptingPlaces : (K : Semiring) → (ℕ → K.Element) → Triple → List ℕ → Type 0
  AcceptingPlaces K value s [] = EndsBoth K value C s.s1 s.s2
  AcceptingPlaces K value s (k ∷ ks) = (m : Edges) × (g : ℕ) × At (listed s) k (m, g) × AcceptingPlaces K value (reached C s m g) ks
