-- 01's list of a composed state as a list of the papers' moves, place by place.
use Rattle.std.specs.Prelude.{Bool, List, [], ◌∷◌, map, ℕ, zero, suc}
use Rattle.papers.specs.Filter.{MoveKind}
use Rattle.papers.specs.Composition.{Triple, Edges}
use Rattle.words.specs.Labels.{Checked, good, refused}
use Rattle.words.specs.Steps.{Composition, Kept, kept_at}
use Rattle.words.specs.AsPapers.{edges_of}
use Rattle.papers.specs.Pick.{sequence_pick, alternate_pick, matching_pick}

-- the values of a list; refusals are left out
unfoldable pub goods : {A : Type 0} → List (Checked A) → List A
goods [] = []
goods (good a ∷ l) = a ∷ goods l
goods (refused n ∷ l) = goods l

-- a kept move's pair of extended transitions, with the next f
abbrev pub entry_of : Kept → Edges × ℕ
entry_of v = (edges_of v.move, v.next)

-- With sigma on machine 2 alone or none (`SigmaOn2AtMost`), and at an expanded state, no list holds a refusal, so that the places are those of 01's list.
unfoldable pub listed_at : Composition → Triple → List (Edges × ℕ)
listed_at c s = map entry_of (goods (kept_at c s))

-- the move that goes first under filter 0, 1 and 2; of a larger number nothing is said
abbrev pub pick_of : ℕ → Bool → Bool → MoveKind
pick_of zero = sequence_pick
pick_of (suc zero) = alternate_pick
pick_of (suc (suc n)) = matching_pick
