-- What the links between 01's lists and the papers' composition (AsPapers) say: 01's paragraph on moves as written; that the kept moves, and the composed transitions,
-- of a state are exactly the papers'; that its final weight is. Proved in proofs/Papers*.antt and proofs/WalkLaws.antt.
use Rattle.std.specs.Prelude.{◌≡◌, false, cond, ◌≢◌, ◌↔◌, ◌⊎◌, ℕ, ◌≤◌, eqb, Option, None, Some}
use mathlib.Core.List.{List, ◌∷◌, map, Memᴰ}
use Rattle.lists.specs.Lists.{At, Distinct}
use Rattle.papers.specs.Machine.{Machine}
use Rattle.papers.specs.Weight.{semiring}
use Rattle.papers.specs.Composition.{Triple, Edges, KeptMove, reached, BothFinal}
use Rattle.papers.specs.Paths.{EndsBoth}
use Rattle.words.specs.Labels.{MAX, eps_label, no_label, Checked, good, refused}
use Rattle.words.specs.Weights.{Kind}
use Rattle.words.specs.Matches.{MatchType, inputs, outputs, loop, own, labelled}
use Rattle.words.specs.Sigmas.{Operand, inner, lookup}
use Rattle.words.specs.Steps.{Composition, Move, move_of, moves_of, Kept, kept_at, Step}
use Rattle.words.specs.AsPapers.{exact, TooLarge, edges_of, composed_in, composed_of, WalkedSigma, matches_of, input_by, output_by, weight_by, end_weight}

-- the epsilon transitions of a state on the inner side
abbrev pub epsilons : Operand → ℕ → List ℕ
epsilons o s = labelled o.on o.machine s eps_label

-- what 01 lists for the walked transition t: "for output 0, s1 alone and then a pair with each epsilon of s2; for another label, each match"
abbrev pub moves_of_tr : MatchType → Operand → Operand → ℕ → ℕ → List (Checked Move)
moves_of_tr d W M sm t =
    cond (eqb (inner W t) eps_label)
    (good (move_of d (own t) loop) ∷ map (λ u. good (move_of d (own t) (own u))) (epsilons M sm))
    (moves_of d (own t) (lookup M sm (inner W t)))

-- What the links ask of a composition; `sound_of` gives it for well-formed machines and an accepted side.
pub record Composable (c : Composition) : Type 0 where
  -- "Machine 1 is matched on outputs, 2 on inputs."
  pub on1 : c.operand1.on ≡ outputs
  pub on2 : c.operand2.on ≡ inputs
  -- no record stands twice in a list
  pub distinct1 : (s : ℕ) → Distinct (c.operand1.machine.list s)
  pub distinct2 : (s : ℕ) → Distinct (c.operand2.machine.list s)
  -- "MAX is `NO_LABEL`, never a label of a machine."
  pub labels1 : (s t : ℕ) → Memᴰ t (c.operand1.machine.list s) → inner c.operand1 t ≢ no_label
  pub labels2 : (s t : ℕ) → Memᴰ t (c.operand2.machine.list s) → inner c.operand2 t ≢ no_label
  -- refusal 4 shuts out a sigma label 0
  pub nonzero1 : c.operand1.sigma.label ≢ eps_label
  pub nonzero2 : c.operand2.sigma.label ≢ eps_label

-- a pair of edges stands in the list at one place
abbrev pub OnePlace : List (Checked Kept) → Type 0
OnePlace l = (j k : ℕ) (v w : Kept) → At l j (good v) → At l k (good w) → edges_of v.move ≡ edges_of w.move → j ≡ k

-- what a list of kept moves is, in direction d
pub record Exactly (d : MatchType) (c : Composition) (s : Triple) (l : List (Checked Kept)) : Type 0 where
  -- what is listed is a move of the papers, with its next filter state
  pub sound : (v : Kept) → Memᴰ (good v) l → KeptMove (composed_in d c) s (edges_of v.move) v.next
  -- and its edges tell how its matches serve: so no two listed moves stand for one pair of edges
  pub known : (v : Kept) → Memᴰ (good v) l → matches_of d c.operand1 c.operand2 (edges_of v.move) ≡ v.move
  -- every move of the papers is listed, as itself
  pub complete : (m : Edges) (g : ℕ) → KeptMove (composed_in d c) s m g
      → Memᴰ (good (record { move = matches_of d c.operand1 c.operand2 m; next = g })) l
  pub itself : (m : Edges) → edges_of (matches_of d c.operand1 c.operand2 m) ≡ m
  -- at one place
  pub once : OnePlace l
  -- a refusal is 11, just where a walked label is sigma
  pub refusals : (n : ℕ) → Memᴰ (refused n) l ↔ ((n ≡ 11) × WalkedSigma d c.operand1 c.operand2 s.s1 s.s2)

-- a step is the papers' composed transition of the kept move v
pub record IsStep (c : Composition) (s : Triple) (v : Kept) (t : Step) : Type 0 where
  pub input : t.input ≡ input_by c v.move
  pub output : t.output ≡ output_by c v.move
  pub to : t.to ≡ reached (composed_of c) s (edges_of v.move) v.next
  pub weight : exact c.kind t.weight ≡ weight_by c (edges_of v.move)
  pub word : t.weight ≤ MAX

-- what stands at place k for the kept move v: its step, or 12 where its exact weight is too large
abbrev pub StepWeighed : (c : Composition) → Triple → List (Checked Step) → ℕ → Kept → Type 0
StepWeighed c s l k v = ((t : Step) × At l k (good t) × IsStep c s v t) ⊎ (At l k (refused 12) × TooLarge c.kind (weight_by c (edges_of v.move)))

-- what the list of a composed state is, in direction d
pub record StepsExactly (d : MatchType) (c : Composition) (s : Triple) (l : List (Checked Step)) : Type 0 where
  -- the step at place k is that of a move of the papers, kept at place k
  pub sound : (k : ℕ) (t : Step) → At l k (good t)
      → (v : Kept) × At (kept_at c s) k (good v) × KeptMove (composed_of c) s (edges_of v.move) v.next × IsStep c s v t
  -- how its matches serve is known from its edges, so that a label is rewritten just where a transition serves as sigma
  pub known : (k : ℕ) (v : Kept) → At (kept_at c s) k (good v) → matches_of d c.operand1 c.operand2 (edges_of v.move) ≡ v.move
  -- every move of the papers has a place
  pub complete : (m : Edges) (g : ℕ) → KeptMove (composed_of c) s m g
      → (k : ℕ) × (v : Kept) × (edges_of v.move ≡ m) × (v.next ≡ g) × At (kept_at c s) k (good v) × StepWeighed c s l k v
  -- and only one
  pub once : OnePlace (kept_at c s)
  -- a refusal is 11, where a walked label is sigma, or 12, in the place of a move whose exact weight is too large
  pub refusals : (k n : ℕ) → At l k (refused n)
      → ((n ≡ 11) × WalkedSigma d c.operand1 c.operand2 s.s1 s.s2)
      ⊎ ((n ≡ 12) × ((v : Kept) × At (kept_at c s) k (good v) × TooLarge c.kind (weight_by c (edges_of v.move))))
  -- where a walked label is sigma, there is an 11
  pub eleven : WalkedSigma d c.operand1 c.operand2 s.s1 s.s2 → (k : ℕ) × At l k (refused 11)

-- a state that ends no accepting path: it is not final, or its exact weight is zero
abbrev pub NoEnd : Kind → Machine → ℕ → Type 0
NoEnd k M q = (M.is_final q ≡ false) ⊎ (exact k (M.final_weight q) ≡ (semiring k).zero)

-- what the final weight of a composed state is
pub record FinalExactly (c : Composition) (s : Triple) (r : Checked (Option ℕ)) : Type 0 where
  -- not final, just where one of both states ends no accepting path
  pub none_where : (r ≡ good None) ↔ (NoEnd c.kind c.operand1.machine s.s1 ⊎ NoEnd c.kind c.operand2.machine s.s2)
  -- w, just where the composed state ends a path and w is its exact weight
  pub some_where : (w : ℕ)
      → (r ≡ good (Some w))
      ↔ (EndsBoth (semiring c.kind) (exact c.kind) (composed_of c) s.s1 s.s2 × (exact c.kind w ≡ end_weight c s) × (w ≤ MAX))
  -- refused by 12 alone, just where both states are final and the exact weight is too large
  pub refused_where : (n : ℕ) → (r ≡ refused n) ↔ ((n ≡ 12) × BothFinal (composed_of c) s.s1 s.s2 × TooLarge c.kind (end_weight c s))
