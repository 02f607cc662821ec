-- The one composed path of two paths, computed from the two alone: it looks only at whether each begins with ε on its inner side, at no state and no filter state.
use Rattle.std.specs.Prelude.{Bool, false, List, [], ◌∷◌, ℕ, zero, suc, ◌+◌, eqb, length}
use Rattle.papers.specs.Machine.{ε, Machine}
use Rattle.papers.specs.Filter.{MoveKind, lone1, lone2, bothEpsilon, aLabel}
use Rattle.papers.specs.Composition.{Edge, rest, along, Edges}

-- the path's first transition has ε on the inner side
abbrev pub beginsε : (ℕ → ℕ) → List ℕ → Bool
beginsε label_of [] = false
beginsε label_of (t ∷ p) = eqb (label_of t) ε

abbrev pub move : Edge → Edge → Edges
move e1 e2 = record { first = e1; second = e2 }

-- A move of this kind made of the front of the two paths, before what the rests of both give; nothing where a path that is to move is at its end.
abbrev pub front : MoveKind → List ℕ → List ℕ → (List ℕ → List ℕ → List Edges) → List Edges
front lone1 [] p2 go = []
front lone1 (t ∷ p1) p2 go = move (along t) rest ∷ go p1 p2
front lone2 p1 [] go = []
front lone2 p1 (u ∷ p2) go = move rest (along u) ∷ go p1 p2
front bothEpsilon [] p2 go = []
front bothEpsilon (t ∷ p1) [] go = []
front bothEpsilon (t ∷ p1) (u ∷ p2) go = move (along t) (along u) ∷ go p1 p2
front aLabel [] p2 go = []
front aLabel (t ∷ p1) [] go = []
front aLabel (t ∷ p1) (u ∷ p2) go = move (along t) (along u) ∷ go p1 p2

-- `pick` says of which kind the next move is, where the paths of T1 and T2 begin with ε or not
module _ (pick : Bool → Bool → MoveKind) (A B : Machine) where
  -- at most n moves
  unfoldable pub merge_up_to : ℕ → List ℕ → List ℕ → List Edges
  merge_up_to zero p1 p2 = []
  merge_up_to (suc n) p1 p2 = front (pick (beginsε A.output p1) (beginsε B.input p2)) p1 p2 (λ r1 r2. merge_up_to n r1 r2)

  -- each move takes a transition of a path, so there are no more moves than transitions
  abbrev pub merge : List ℕ → List ℕ → List Edges
  merge p1 p2 = merge_up_to (length p1 + length p2) p1 p2
