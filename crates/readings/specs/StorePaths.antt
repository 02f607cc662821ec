-- Demand 3c: "After the list, with no sigma label set, once all found states are expanded and no found state's final weight would be refused: accepting paths
-- (final weight not zero) correspond one to one, paired as in document 01, with all pairs of accepting paths whose inner labels (outputs of the first, inputs of
-- the second) agree, epsilons left out, and weigh the product of both." 02, 2.4: it "widens to sigma on machine 2 alone".
use Rattle.std.specs.Prelude.{◌≡◌, Bool, true, ◌&&◌, cond, ◌≢◌, ◌⊎◌, ℕ, ◌+◌, ◌-◌, ◌≤◌, eqb, Option, None, Some, slice_get}
use mathlib.Core.List.{List, [], ◌∷◌, map, Memᴰ}
use Rattle.papers.specs.Weight.{Kind, semiring}
use Rattle.papers.specs.Filter.{MoveKind}
use Rattle.papers.specs.Machine.{ε, Machine}
use Rattle.papers.specs.Composition.{Triple, Edges}
use Rattle.papers.specs.Paths.{word, Matching, AcceptingPath, path_weight}
use Rattle.words.specs.Labels.{no_label, Checked, good, refused}
use Rattle.words.specs.Weights.{zero_of}
use Rattle.words.specs.Matches.{inputs}
use Rattle.words.specs.Sigmas.{Sigma, is_set, is_sigma, is_allowed, replace}
use Rattle.words.specs.Sides.{only, both}
use Rattle.words.specs.Steps.{Composition, start_at}
use Rattle.words.specs.Settings.{Settings, Lent}
use Rattle.words.specs.AsPapers.{exact}
use Rattle.calls.specs.Sequences.{World}
use Rattle.readings.specs.Correspondence.{OneToOne}
use Rattle.readings.specs.Merge.{merge}
use Rattle.readings.specs.Readings.{pair_of}
use Rattle.readings.specs.Listed.{listed_at}
use Rattle.readings.specs.Places.{then_moves, place_among}
use Rattle.readings.specs.Worlds.{final_in, UsedState, Expanded, state_at, part_in, records_in, input_of, output_of, weight_of, target_of}

-- "all found states are expanded and no found state's final weight would be refused"
pub record AllRead (l : Lent) (w : World) : Type 0 where
  pub expanded : (n : ℕ) → UsedState w n → Expanded w n
  pub weighed : (n : ℕ) → UsedState w n → (x : Option ℕ) × ((final_in l w n).answer ≡ good x)

-- "with no sigma label set", and all is read
pub record Settled (s : Settings) (l : Lent) (w : World) : Type 0 where
  pub sigma1 : s.sigma1 ≡ no_label
  pub sigma2 : s.sigma2 ≡ no_label
  pub read : AllRead l w

-- machine 1 and machine 2 of a composition, after replacement of their inner labels (02, 2.7), and the sigma of machine 2
abbrev pub machine1 : Composition → Machine
machine1 c = c.operand1.machine

abbrev pub machine2 : Composition → Machine
machine2 c = c.operand2.machine

abbrev pub sigma2 : Composition → Sigma
sigma2 c = c.operand2.sigma

-- 02, 2.4: "sigma on machine 2 alone, side input or both, when no output of machine 1 is the sigma label"; or no sigma label is set. Outputs are judged
-- after replacement (02, 2.7): `machine1 c` hears the listed ones as 0.
pub record SigmaOn2AtMost (c : Composition) : Type 0 where
  pub alone : c.operand1.sigma.label ≡ no_label
  pub side : is_set (sigma2 c) ≡ true → (c.side ≡ only inputs) ⊎ (c.side ≡ both)
  pub letters : is_set (sigma2 c) ≡ true → (q t : ℕ) → Memᴰ t ((machine1 c).list q) → (machine1 c).output t ≢ (sigma2 c).label

-- The condition of 3c. 02, 2.1: "The reading correspondence is kept for values 0 to 2 only, since trivial may list a pair more than once and null leaves lone epsilon moves out."
-- What holds of the others stands in Further.
pub record Finished (s : Settings) (l : Lent) (c : Composition) (w : World) : Type 0 where
  pub filter : s.filter ≤ 2
  pub sigma : SigmaOn2AtMost c
  pub read : AllRead l w

-- "accepting paths (final weight not zero)" of the store, as lists of record numbers from state n on
abbrev pub AcceptingFrom : Lent → World → ℕ → List ℕ → Type 0
AcceptingFrom l w n [] = (x : ℕ) × ((final_in l w n).answer ≡ good (Some x))
AcceptingFrom l w n (r ∷ rs) = Expanded w n × Memᴰ r (records_in w n) × AcceptingFrom l w (target_of w r) rs

-- from state 0, if it is found
abbrev pub AcceptingRecords : Lent → World → List ℕ → Type 0
AcceptingRecords l w rs = UsedState w 0 × AcceptingFrom l w 0 rs

-- an accepting path of a machine, and its exact weight from state q on, by the kind of weight
abbrev pub Accepting : Composition → Machine → List ℕ → Type 0
Accepting c M p = AcceptingPath (semiring c.kind) (exact c.kind) M p

abbrev pub weight_from : (c : Composition) → Machine → ℕ → List ℕ → (semiring c.kind).Element
weight_from c M q p = path_weight (semiring c.kind) (exact c.kind) M q p

-- 02, 2.4: "a sigma transition pairs with each allowed letter": the label y of machine 2 is the label x of machine 1, or it is sigma and x is allowed
abbrev pub PairsWith : Sigma → ℕ → ℕ → Type 0
PairsWith σ x y = (y ≡ x) ⊎ ((is_sigma σ y ≡ true) × (is_allowed σ.allowed x ≡ true))

-- "all pairs of accepting paths whose inner labels (outputs of the first, inputs of the second) agree, epsilons left out": the two words are equally long, and their labels pair
-- place by place. Without sigma the words are equal: `agree_unset` in proofs/Letters.
pub record AgreeingPair (c : Composition) (p : List ℕ × List ℕ) : Type 0 where
  pub first : Accepting c (machine1 c) p.0
  pub second : Accepting c (machine2 c) p.1
  pub inner : Matching (PairsWith (sigma2 c)) (machine1 c) (machine2 c) p.0 p.1

-- the kept moves of a state, as the papers' moves, each with its next filter state
abbrev pub moves_in : Composition → World → ℕ → List (Edges × ℕ)
moves_in c w n = listed_at c (state_at w n)

-- "An expanded state's k-th transition record is its k-th kept move": the moves of a list of records from state n on
unfoldable pub moves_of_records : Composition → World → ℕ → List ℕ → List Edges
moves_of_records c w n [] = []
moves_of_records c w n (r ∷ rs) = then_moves (slice_get (moves_in c w n) (r - (part_in w n).first)) (λ m g. moves_of_records c w (target_of w r) rs)

-- and the records of a list of moves: the place of each among the kept moves of its state
abbrev pub then_record : Option (ℕ × ℕ) → (ℕ → List ℕ) → List ℕ
then_record None go = []
then_record (Some p) go = go p.0

unfoldable pub records_of_moves : Composition → World → ℕ → List Edges → List ℕ
records_of_moves c w n [] = []
records_of_moves c w n (m ∷ ms) =
    then_record (place_among m (moves_in c w n)) (λ k. ((part_in w n).first + k) ∷ records_of_moves c w (target_of w ((part_in w n).first + k)) ms)

-- "a composed path's pair is the machine 1 records and the machine 2 records of its moves, in order"
abbrev pub pair_of_records : Composition → World → List ℕ → List ℕ × List ℕ
pair_of_records c w rs = pair_of (moves_of_records c w 0 rs)

-- the composed path of a pair; which move goes first is the filter's (`pick_of`)
abbrev pub records_of_pair : Composition → (Bool → Bool → MoveKind) → World → List ℕ × List ℕ → List ℕ
records_of_pair c pick w p = records_of_moves c w 0 (merge pick (machine1 c) (machine2 c) p.0 p.1)

-- the weight that final weight answers, where it does; else the kind's zero
abbrev pub answered_weight : ℕ → Checked (Option ℕ) → ℕ
answered_weight z (good (Some x)) = x
answered_weight z (good None) = z
answered_weight z (refused n) = z

-- the exact weight of a list of records from state n on: the product of the stored weights, and of the final weight at its end
abbrev pub records_weight : (k : Kind) → Lent → World → ℕ → List ℕ → (semiring k).Element
records_weight k l w n [] = exact k (answered_weight (zero_of k) (final_in l w n).answer)
records_weight k l w n (r ∷ rs) = (semiring k).times (exact k (weight_of w r)) (records_weight k l w (target_of w r) rs)

-- "and weigh the product of both": the accepting paths of the store; the paths of the pair begin in the machines' starts
abbrev pub WeighBoth : Lent → Composition → World → Type 0
WeighBoth l c w = (t : Triple) → start_at c ≡ Some t → (rs : List ℕ) → AcceptingRecords l w rs
    → records_weight c.kind l w 0 rs
    ≡ (semiring c.kind).times (weight_from c (machine1 c) t.s1 (pair_of_records c w rs).0) (weight_from c (machine2 c) t.s2 (pair_of_records c w rs).1)

-- the composed input labels are the first path's, epsilons left out
abbrev pub ReadFirst : Lent → Composition → World → Type 0
ReadFirst l c w = (rs : List ℕ) → AcceptingRecords l w rs → word (map (input_of w) rs) ≡ word (map (machine1 c).input (pair_of_records c w rs).0)

-- "both after any rewriting": the output of machine 2's transition u where machine 1's letter is x. Where sigma is rewritten on both sides, a sigma transition writes x in the
-- place of sigma.
abbrev pub output_for : Sigma → Machine → ℕ → ℕ → ℕ
output_for σ B x u = cond (is_sigma σ (B.input u) && σ.rewrite_both) (replace σ.label x (B.output u)) (B.output u)

-- the outputs of a path of machine 2 that reads a word: each transition whose input is not ε takes its next letter
unfoldable pub outputs_for : Sigma → Machine → List ℕ → List ℕ → List ℕ
outputs_for σ B z [] = []
outputs_for σ B [] (u ∷ p) = B.output u ∷ outputs_for σ B [] p
outputs_for σ B (x ∷ z) (u ∷ p) = cond (eqb (B.input u) ε) (B.output u ∷ outputs_for σ B (x ∷ z) p) (output_for σ B x u ∷ outputs_for σ B z p)

-- the composed output labels are the second path's after rewriting, epsilons left out; the word that it reads is the first path's. With mode 2, with mode 0 where machine 2's
-- acceptor mark is not 1, and without sigma they are its own: `write_own` in proofs/Letters.
abbrev pub WriteSecond : Lent → Composition → World → Type 0
WriteSecond l c w = (rs : List ℕ) → AcceptingRecords l w rs
    → word (map (output_of w) rs) ≡ word (outputs_for (sigma2 c) (machine2 c) (word (map (machine1 c).output (pair_of_records c w rs).0)) (pair_of_records c w rs).1)

-- the second path's own
abbrev pub WriteOwn : Lent → Composition → World → Type 0
WriteOwn l c w = (rs : List ℕ) → AcceptingRecords l w rs → word (map (output_of w) rs) ≡ word (map (machine2 c).output (pair_of_records c w rs).1)

pub record Paths (l : Lent) (c : Composition) (pick : Bool → Bool → MoveKind) (w : World) : Type 0 where
  -- "accepting paths .. correspond one to one, paired as in document 01, with all pairs of accepting paths whose inner labels .. agree"
  pub paths : OneToOne (AcceptingRecords l w) (AgreeingPair c) (pair_of_records c w) (records_of_pair c pick w)
  pub weights : WeighBoth l c w
  pub inputs : ReadFirst l c w
  pub outputs : WriteSecond l c w
