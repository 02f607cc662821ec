-- Demand 2b: "They are proved to follow a definition of composition written from Mohri, Pereira and Riley and the OpenFst papers": from the calls' answers to the
-- papers in one step. MPR: Mohri, Pereira, Riley 2002. ARS: Allauzen, Riley, Schalkwyk 2009. Sigma labels may be set: `composed_of c` is the papers' composition with
-- 01's filter, in which a label meets itself, or a sigma that serves for it.
use Rattle.std.specs.Prelude.{◌≡◌, Bool, List, map, ◌↔◌, ℕ, ◌+◌, length}
use Rattle.lists.specs.Lists.{At, Enumerates}
use Rattle.papers.specs.Weight.{semiring}
use Rattle.papers.specs.Filter.{MoveKind}
use Rattle.papers.specs.Composition.{Triple, Edges, KeptMove, reached}
use Rattle.papers.specs.Paths.{word, AcceptingRun, moves_weight}
use Rattle.papers.specs.Sums.{SumIs, PairOf, weight_of_pair, ComposedWeighs}
use Rattle.words.specs.Labels.{good, refused}
use Rattle.words.specs.Matches.{MatchType}
use Rattle.words.specs.Steps.{Composition}
use Rattle.words.specs.Settings.{Lent}
use Rattle.words.specs.AsPapers.{exact, TooLarge, composed_of, direction_of, WalkedSigma, matches_of, input_by, output_by, weight_by}
use Rattle.calls.specs.Store.{Part}
use Rattle.calls.specs.Sequences.{World}
use Rattle.readings.specs.Correspondence.{OneToOne}
use Rattle.readings.specs.Worlds.{UsedState, state_at, input_of, output_of, weight_of, target_of}
use Rattle.readings.specs.StorePaths.{AcceptingRecords, machine1, machine2, moves_in, moves_of_records, records_of_moves, pair_of_records, records_of_pair, records_weight}

-- Record r is the papers' composed transition (e1, e2) from s, with the next filter state g. d is the direction at s: it tells which transition may serve as sigma.
pub record IsTransition (c : Composition) (w : World) (d : MatchType) (s : Triple) (m : Edges) (g r : ℕ) : Type 0 where
  -- "machine 1's input, machine 2's output (both after any rewriting)"
  pub input : input_of w r ≡ input_by c (matches_of d c.operand1 c.operand2 m)
  pub output : output_of w r ≡ output_by c (matches_of d c.operand1 c.operand2 m)
  -- ARS, w[e1] ⊗ w[e2], exact
  pub weight : exact c.kind (weight_of w r) ≡ weight_by c m
  -- ARS, (n[e1], n[e2], g), which is found
  pub target : state_at w (target_of w r) ≡ reached (composed_of c) s m g
  pub found : UsedState w (target_of w r)

-- The list p of state n is the papers'.
pub record PapersList (c : Composition) (w : World) (n : ℕ) (p : Part) : Type 0 where
  -- the state has a direction
  pub direction : MatchType
  pub rule : direction_of c (state_at w n) ≡ good direction
  -- 01's list holds each kept move of the papers once, and nothing else
  pub moves : Enumerates (moves_in c w n) (λ e. KeptMove (composed_of c) (state_at w n) e.0 e.1)
  -- there is a record for each, in 01's order
  pub count : p.count ≡ length (moves_in c w n)
  pub record_of : (k : ℕ) (m : Edges) (g : ℕ) → At (moves_in c w n) k (m, g) → IsTransition c w direction (state_at w n) m g (p.first + k)

-- Why the expansion of state n is refused by k, 10 to 12; 13 is about memory (`Decides`).
pub data RefusedFor (c : Composition) (w : World) (n k : ℕ) : Type 0 where
  -- "both states need matching": it has no direction
  undirected : k ≡ 10 → direction_of c (state_at w n) ≡ refused 10 → RefusedFor c w n k
  -- "walked label is sigma"
  walked_sigma : k ≡ 11 → (d : MatchType) → direction_of c (state_at w n) ≡ good d
      → WalkedSigma d c.operand1 c.operand2 (state_at w n).s1 (state_at w n).s2 → RefusedFor c w n k
  -- "weight too large", of a kept move of the papers
  too_large : k ≡ 12 → (m : Edges) (g : ℕ) → KeptMove (composed_of c) (state_at w n) m g → TooLarge c.kind (weight_by c m) → RefusedFor c w n k

-- The accepting paths of the store are those of the papers' composition: they correspond one to one, record by move, and weigh the same.
pub record PapersPaths (l : Lent) (c : Composition) (w : World) : Type 0 where
  pub paths : OneToOne (AcceptingRecords l w) (AcceptingRun (semiring c.kind) (exact c.kind) (composed_of c)) (moves_of_records c w 0) (records_of_moves c w 0)
  pub weights : (rs : List ℕ) → AcceptingRecords l w rs
      → records_weight c.kind l w 0 rs
      ≡ moves_weight (semiring c.kind) (exact c.kind) (composed_of c) (state_at w 0).s1 (state_at w 0).s2 (moves_of_records c w 0 rs)

-- the accepting paths x:y of the store, ε left out
abbrev pub ReadsAs : Lent → World → List ℕ → List ℕ → List ℕ → Type 0
ReadsAs l w x y rs = AcceptingRecords l w rs × (word (map (input_of w) rs) ≡ x) × (word (map (output_of w) rs) ≡ y)

-- MPR's equation, of the store. The machines, after replacement (02, 2.7), are T1 and T2.
pub record ByWords (l : Lent) (c : Composition) (pick : Bool → Bool → MoveKind) (w : World) (x y : List ℕ) : Type 0 where
  -- path by path: the accepting paths x:y and the pairs of accepting paths x:z, z:y, for any z, correspond one to one, and the weights multiply
  pub paths : OneToOne (ReadsAs l w x y) (PairOf (semiring c.kind) (exact c.kind) (machine1 c) (machine2 c) x y) (pair_of_records c w) (records_of_pair c pick w)
  pub weights : (rs : List ℕ) → ReadsAs l w x y rs
      → records_weight c.kind l w 0 rs ≡ weight_of_pair (semiring c.kind) (exact c.kind) (machine1 c) (machine2 c) (pair_of_records c w rs)
  -- as a sum: the weights of the accepting paths x:y have the ⊕-sum e just where e = ⊕ over z of T1(x, z) ⊗ T2(z, y). Either says that its sum is finite: so the paths
  -- x:y can be listed just where the middle words z, and the paths x:z and z:y of each, can be. Where they cannot, no sum is spoken of.
  pub sum : (e : (semiring c.kind).Element)
      → SumIs (semiring c.kind) (ReadsAs l w x y) (records_weight c.kind l w 0) e
      ↔ ComposedWeighs (semiring c.kind) (exact c.kind) (machine1 c) (machine2 c) x y e
