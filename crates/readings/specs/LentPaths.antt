-- 02, 2.7, of demand 3c: "Readings agree when their inner labels do after replacement", said of the paths, labels and weights of the two machines as they are lent. And a list of
-- calls with ignored labels answers as with the words replaced.
use Rattle.std.specs.Prelude.{◌≡◌, Bool, false, List, map, ◌⊎◌, ℕ, Some}
use Rattle.papers.specs.Weight.{semiring}
use Rattle.papers.specs.Filter.{MoveKind}
use Rattle.papers.specs.Machine.{Machine}
use Rattle.papers.specs.Composition.{Triple}
use Rattle.papers.specs.Paths.{word, Agree}
use Rattle.words.specs.Labels.{no_label}
use Rattle.words.specs.Matches.{inputs}
use Rattle.words.specs.Machines.{machine_of}
use Rattle.words.specs.Ignored.{heard, replaced}
use Rattle.words.specs.Steps.{Composition, start_at}
use Rattle.words.specs.Settings.{Settings, Lent, ignored_by}
use Rattle.calls.specs.Sequences.{World, Call, replies, after}
use Rattle.calls.specs.Ignoring.{replaced_lent}
use Rattle.readings.specs.Correspondence.{OneToOne}
use Rattle.readings.specs.Worlds.{input_of, output_of}
use Rattle.readings.specs.StorePaths.{sigma2, AcceptingRecords, Accepting, weight_from, PairsWith, pair_of_records, records_of_pair, records_weight, outputs_for}

-- the machines as lent
abbrev pub lent1 : Lent → Machine
lent1 l = machine_of l.m1

abbrev pub lent2 : Lent → Machine
lent2 l = machine_of l.m2

-- "inner labels .. after replacement": the outputs of a path of machine 1 and the inputs of one of machine 2, each of the list but for sigma labels counted as 0, epsilons left out
abbrev pub inner_word1 : Settings → Lent → List ℕ → List ℕ
inner_word1 s l p = word (map (λ t. heard (ignored_by s l) ((lent1 l).output t)) p)

abbrev pub inner_word2 : Settings → Lent → List ℕ → List ℕ
inner_word2 s l p = word (map (λ u. heard (ignored_by s l) ((lent2 l).input u)) p)

-- A pair of accepting paths of the machines as lent that agree. A sigma transition of machine 2 pairs with each allowed letter, whether the list holds the sigma label or not (02,
-- 2.8).
pub record AgreeingLent (s : Settings) (l : Lent) (c : Composition) (p : List ℕ × List ℕ) : Type 0 where
  pub first : Accepting c (lent1 l) p.0
  pub second : Accepting c (lent2 l) p.1
  pub inner : Agree (PairsWith (sigma2 c)) (inner_word1 s l p.0) (inner_word2 s l p.1)

-- what the second path writes for the letters of the first, as in `WriteSecond`: whether a transition is sigma, or takes a letter, is told by its input after replacement
abbrev pub written_word : Settings → Lent → Composition → List ℕ × List ℕ → List ℕ
written_word s l c p = word (outputs_for (sigma2 c) (replaced inputs (ignored_by s l) (lent2 l)) (inner_word1 s l p.0) p.1)

pub record LentPaths (s : Settings) (l : Lent) (c : Composition) (pick : Bool → Bool → MoveKind) (w : World) : Type 0 where
  -- "accepting paths .. correspond one to one .. with all pairs of accepting paths whose inner labels .. agree" after replacement
  pub paths : OneToOne (AcceptingRecords l w) (AgreeingLent s l c) (pair_of_records c w) (records_of_pair c pick w)
  -- "and weigh the product of both"
  pub weights : (t : Triple) → start_at c ≡ Some t → (rs : List ℕ) → AcceptingRecords l w rs
      → records_weight c.kind l w 0 rs
      ≡ (semiring c.kind).times (weight_from c (lent1 l) t.s1 (pair_of_records c w rs).0) (weight_from c (lent2 l) t.s2 (pair_of_records c w rs).1)
  -- outer labels are those that were lent: the inputs of machine 1, listed or not
  pub inputs : (rs : List ℕ) → AcceptingRecords l w rs → word (map (input_of w) rs) ≡ word (map (lent1 l).input (pair_of_records c w rs).0)
  -- and the outputs of machine 2, but for a sigma rewritten on both sides
  pub outputs : (rs : List ℕ) → AcceptingRecords l w rs → word (map (output_of w) rs) ≡ written_word s l c (pair_of_records c w rs)
  pub own_outputs : ((sigma2 c).label ≡ no_label) ⊎ ((sigma2 c).rewrite_both ≡ false)
      → (rs : List ℕ) → AcceptingRecords l w rs → word (map (output_of w) rs) ≡ word (map (lent2 l).output (pair_of_records c w rs).1)

-- "every answer is that of the two machines with those labels replaced": all that a list of calls returns, and what it leaves
pub record CallsAsReplaced (l : Lent) (w : World) (cs : List Call) : Type 0 where
  pub replies : replies l w cs ≡ replies (replaced_lent w.session.settings l) w cs
  pub after : after l w cs ≡ after (replaced_lent w.session.settings l) w cs
