-- 01, "From the leaves upward", matchers/mod.rs and sorted_matcher.rs: a match, and the sorted look-up.
use Rattle.std.specs.Prelude.{cond, List, ◌∷◌, map, ℕ, eqb}
use Rattle.lists.specs.Lists.{keep_if}
use Rattle.papers.specs.Machine.{Machine}
use Rattle.words.specs.Labels.{eps_label, no_label}

-- The labels on which a machine is matched ("Machine 1 is matched on outputs, 2 on inputs."), the side of a mark, and the direction of a walk.
pub data MatchType : Type 0 where
  inputs outputs : MatchType

-- the label of transition t on that side
abbrev pub label_on : MatchType → Machine → ℕ → ℕ
label_on inputs M t = M.input t
label_on outputs M t = M.output t

-- "a match is either the loop or one whole transition record": the loop; transition t as it stands; transition t as a sigma transition, rewritten.
-- A match holds the record's number; `given` turns it into the whole transition.
pub data Match : Type 0 where
  loop : Match
  own viaSigma : ℕ → Match

-- a transition: input, output, weight, target (tr.rs)
pub record Tr : Type 0 where
  pub input : ℕ
  pub output : ℕ
  pub weight : ℕ
  pub target : ℕ

-- the transition of record t
abbrev pub tr_of : Machine → ℕ → Tr
tr_of M t = record { input = M.input t; output = M.output t; weight = M.weight t; target = M.target t }

-- the transitions of state s whose label on that side is x, in list order
unfoldable pub labelled : MatchType → Machine → ℕ → ℕ → List ℕ
labelled on M s x = keep_if (λ t. eqb (label_on on M t) x) (M.list s)

-- "asked for 0, the loop and then the epsilon transitions; asked for MAX, only the epsilon transitions; else those with the label, in list order"
unfoldable pub sorted_matches : MatchType → Machine → ℕ → ℕ → List Match
sorted_matches on M s x =
    cond (eqb x eps_label) (loop ∷ map own (labelled on M s eps_label))
    (cond (eqb x no_label) (map own (labelled on M s eps_label))
    (map own (labelled on M s x)))
