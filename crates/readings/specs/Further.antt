-- 02, 2.1: what holds of the filters null, trivial and no-match in place of demand 3c, with no sigma label set, once all found states are expanded and no found state's final
-- weight would be refused. Null leaves readings out; under trivial and no-match none is lost, but a total over the accepting paths may take one more than once.
use Rattle.std.specs.Prelude.{◌≡◌, ◌≢◌, ◌⊎◌, ◌↔◌, ℕ}
use mathlib.Core.List.{List, [], ◌∷◌, map, Memᴰ}
use Rattle.papers.specs.Machine.{ε}
use Rattle.papers.specs.Weight.{semiring}
use Rattle.papers.specs.Composition.{along, Edges}
use Rattle.papers.specs.Pick.{sequence_pick}
use Rattle.papers.specs.Sums.{LeastIs, PairOf, weight_of_pair}
use Rattle.words.specs.Steps.{Composition}
use Rattle.words.specs.Settings.{Settings, Lent}
use Rattle.words.specs.AsPapers.{exact}
use Rattle.calls.specs.Sequences.{World}
use Rattle.readings.specs.Correspondence.{OneToOne, Onto}
use Rattle.readings.specs.Merge.{move}
use Rattle.readings.specs.StorePaths.{Settled, AcceptingRecords, machine1, machine2, Accepting, AgreeingPair, records_of_moves, pair_of_records, records_of_pair, records_weight, WeighBoth, ReadFirst, WriteOwn, Paths}
use Rattle.readings.specs.Follows.{ReadsAs, ByWords}
use Rattle.readings.specs.Demands.{AfterCalls}

-- no transition of a path has ε for this label
abbrev pub EpsilonFree : (ℕ → ℕ) → List ℕ → Type 0
EpsilonFree label p = (t : ℕ) → Memᴰ t p → label t ≢ ε

-- no accepting path of machine 1, or none of machine 2, has an epsilon on its inner side
abbrev pub OneEpsilonFree : Composition → Type 0
OneEpsilonFree c =
    ((p : List ℕ) → Accepting c (machine1 c) p → EpsilonFree (machine1 c).output p) ⊎ ((p : List ℕ) → Accepting c (machine2 c) p → EpsilonFree (machine2 c).input p)

-- trivial and no-match: every pair of accepting paths whose inner labels agree, epsilons left out, has a composed path, at least the one that sequence lists
pub record NoneLost (l : Lent) (c : Composition) (w : World) : Type 0 where
  pub paths : Onto (AcceptingRecords l w) (AgreeingPair c) (pair_of_records c w) (records_of_pair c sequence_pick w)
  pub weights : WeighBoth l c w
  pub inputs : ReadFirst l c w
  pub outputs : WriteOwn l c w
  -- So a least cost is that of the pairs: of all readings, and of those of a pair of words.
  pub least : (e : (semiring c.kind).Element)
      → LeastIs (semiring c.kind) (AcceptingRecords l w) (records_weight c.kind l w 0) e
      ↔ LeastIs (semiring c.kind) (AgreeingPair c) (weight_of_pair (semiring c.kind) (exact c.kind) (machine1 c) (machine2 c)) e
  pub least_of_words : (x y : List ℕ) (e : (semiring c.kind).Element)
      → LeastIs (semiring c.kind) (ReadsAs l w x y) (records_weight c.kind l w 0) e
      ↔ LeastIs (semiring c.kind) (PairOf (semiring c.kind) (exact c.kind) (machine1 c) (machine2 c) x y)
      (weight_of_pair (semiring c.kind) (exact c.kind) (machine1 c) (machine2 c)) e
  -- Where a machine has no epsilons on its inner side, a pair has no other path: 3c holds, and so totals are right.
  pub once : OneEpsilonFree c → Paths l c sequence_pick w
  pub totals : OneEpsilonFree c → (x y : List ℕ) → ByWords l c sequence_pick w x y

-- a pair of accepting paths whose inner labels, epsilons included, are equal place by place, so that they are of equal length
pub record EqualPair (c : Composition) (p : List ℕ × List ℕ) : Type 0 where
  pub first : Accepting c (machine1 c) p.0
  pub second : Accepting c (machine2 c) p.1
  pub inner : map (machine1 c).output p.0 ≡ map (machine2 c).input p.1

-- both machines move at every step
unfoldable pub together : List ℕ → List ℕ → List Edges
together [] p2 = []
together (t ∷ p1) [] = []
together (t ∷ p1) (u ∷ p2) = move (along t) (along u) ∷ together p1 p2

-- null: the accepting paths and these pairs correspond one to one
pub record StepByStep (l : Lent) (c : Composition) (w : World) : Type 0 where
  pub paths : OneToOne (AcceptingRecords l w) (EqualPair c) (pair_of_records c w) (λ p. records_of_moves c w 0 (together p.0 p.1))
  pub weights : WeighBoth l c w
  pub inputs : ReadFirst l c w
  pub outputs : WriteOwn l c w

-- the claim about a world; c is the composition that the opening with the settings s fixed
pub record Further (s : Settings) (l : Lent) (c : Composition) (w : World) : Type 0 where
  pub null : s.filter ≡ 3 → Settled s l w → StepByStep l c w
  pub trivial : s.filter ≡ 4 → Settled s l w → NoneLost l c w
  pub no_match_lem : s.filter ≡ 5 → Settled s l w → NoneLost l c w

-- for every list of calls that demand 3 speaks of
abbrev pub FurtherClaim : Type 0
FurtherClaim = AfterCalls Further
