-- What one pass over a state's list tells, by its labels on the inner side.
use Rattle.std.specs.Prelude.{◌≡◌, cond, List, [], ◌∷◌, ℕ, max, length}
use Rattle.words.specs.Labels.{eps_label, no_label}
use Rattle.words.specs.Weights.{Kind, is_zero}
use Rattle.words.specs.Matches.{MatchType, label_on, labelled}
use Rattle.words.specs.Machines.{first_of, list_of, machine_of}
use Rattle.sorted_lists.specs.Runs.{straight}
use Rattle.sorted_lists.specs.Longest.{longest}
use Rattle.list_facts.specs.declared.ListFacts.{ListFacts}

-- the largest of the weights that are not the kind's zero; 0 where there is none
unfoldable pub heaviest : Kind → (ℕ → ℕ) → List ℕ → ℕ
heaviest k weight [] = 0
heaviest k weight (t ∷ ts) = max (cond (is_zero k (weight t)) 0 (weight t)) (heaviest k weight ts)

-- the facts of the list of state s in the words m, which are matched on a side
abbrev pub facts_of : MatchType → Kind → List ℕ → ℕ → ListFacts
facts_of on k m s = record {
  -- how many records the list has, and how many of them are epsilons
  len = length (list_of m s);
  eps = length (labelled on (machine_of m) s eps_label);
  -- whether its records are consecutive
  straight = straight m (first_of m s);
  -- the largest weight that is not the kind's zero
  most = heaviest k (machine_of m).weight (list_of m s);
  -- the longest run of one label
  run = longest (label_on on (machine_of m)) no_label 0 0 (list_of m s);
}

-- what r says of that list is so
pub record TrueOf (on : MatchType) (k : Kind) (m : List ℕ) (s : ℕ) (r : ListFacts) : Type 0 where
  pub is : r ≡ facts_of on k m s
