-- A composition filter. ARS: Allauzen, Riley, Schalkwyk 2009, "A generalized composition algorithm for weighted finite-state transducers".
use Rattle.std.specs.Prelude.{Bool, true, false, not, ◌&&◌, cond, ℕ, zero, suc, eqb, Option, None, Some}
use Rattle.lists.specs.Lists.{every}
use Rattle.papers.specs.Machine.{ε, Machine}

-- ARS, the pairs of extended transitions whose inner labels meet: (ε, ε^L), (ε^L, ε), (ε, ε) and (x, x), where ε^L is the label of the self-loop on which a machine rests.
pub data MoveKind : Type 0 where
  lone1 lone2 bothEpsilon aLabel : MoveKind

-- What a filter may see of the two origins: no transition there has ε on its inner side; all have it, and the state is not final.
-- The papers let a filter look at the origins; that it looks for these is the implementations'.
pub record Facts : Type 0 where
  pub none1 : Bool
  pub all1 : Bool
  pub none2 : Bool
  pub all2 : Bool

-- the two facts of machine M, whose transitions have these inner labels, at state q
unfoldable pub no_epsilon : (ℕ → ℕ) → Machine → ℕ → Bool
no_epsilon label M q = every (λ t. not (eqb (label t) ε)) (M.list q)

unfoldable pub only_epsilons : (ℕ → ℕ) → Machine → ℕ → Bool
only_epsilons label M q = every (λ t. eqb (label t) ε) (M.list q) && not (M.is_final q)

-- the facts of T1, whose inner labels are its outputs, at q1, and of T2, whose inner labels are its inputs, at q2
abbrev pub facts_of : Machine → Machine → ℕ → ℕ → Facts
facts_of A B q1 q2 = record {
  none1 = no_epsilon A.output A q1;
  all1 = only_epsilons A.output A q1;
  none2 = no_epsilon B.input B q2;
  all2 = only_epsilons B.input B q2;
}

-- ARS, φ, which here sees of the two transitions their kind and of their origins these facts, and changes neither: the next filter state, or none for the blocking state ⊥.
-- The first filter state is 0.
abbrev pub Filter : Type 0
Filter = MoveKind → Facts → ℕ → Option ℕ

-- ARS, the epsilon-sequencing filter, Q3 = {0, 1}: 0 for (x, x); 0 for (ε, ε^L) in 0; 1 for (ε^L, ε); else ⊥. A state above 1 is read as 1.
abbrev pub epsilon_sequencing : Filter
epsilon_sequencing lone1 φ zero = Some 0
epsilon_sequencing lone1 φ (suc f) = None
epsilon_sequencing lone2 φ f = Some 1
epsilon_sequencing bothEpsilon φ f = None
epsilon_sequencing aLabel φ f = Some 0

-- ARS, its mirror image: 0 for (x, x); 1 for (ε, ε^L); 0 for (ε^L, ε) in 0; else ⊥
abbrev pub epsilon_sequencing_mirrored : Filter
epsilon_sequencing_mirrored lone1 φ f = Some 1
epsilon_sequencing_mirrored lone2 φ zero = Some 0
epsilon_sequencing_mirrored lone2 φ (suc f) = None
epsilon_sequencing_mirrored bothEpsilon φ f = None
epsilon_sequencing_mirrored aLabel φ f = Some 0

-- ARS, the epsilon-matching filter, Q3 = {0, 1, 2}: 0 for (x, x); 0 for (ε, ε) in 0; 1 for (ε, ε^L) but in 2; 2 for (ε^L, ε) but in 1; else ⊥. A state above 2 is read as 2.
-- It is the filter transducer of Mohri, Pereira, Riley 1996 and Pereira, Riley 1997; which state is 1 and which 2 is as in the implementations.
abbrev pub epsilon_matching : Filter
epsilon_matching lone1 φ zero = Some 1
epsilon_matching lone1 φ (suc zero) = Some 1
epsilon_matching lone1 φ (suc (suc f)) = None
epsilon_matching lone2 φ zero = Some 2
epsilon_matching lone2 φ (suc zero) = None
epsilon_matching lone2 φ (suc (suc f)) = Some 2
epsilon_matching bothEpsilon φ zero = Some 0
epsilon_matching bothEpsilon φ (suc f) = None
epsilon_matching aLabel φ f = Some 0

-- OpenFst's three further filters, as its compose-filter.h documents them. They have one filter state, 0, and look at the kind of move alone: those that are allowed are kept.
abbrev pub keeping : (MoveKind → Bool) → Filter
keeping allowed k φ f = cond (allowed k) (Some 0) None

-- a machine rests: an inner label is ε^L, there kNoLabel
abbrev pub rests : MoveKind → Bool
rests lone1 = true
rests lone2 = true
rests bothEpsilon = false
rests aLabel = false

-- an ε of T1 is matched with an ε of T2
abbrev pub matches_epsilons : MoveKind → Bool
matches_epsilons lone1 = false
matches_epsilons lone2 = false
matches_epsilons bothEpsilon = true
matches_epsilons aLabel = false

-- NullComposeFilter: only exact matches of the labels of T1 and T2, ε among them; no machine rests
abbrev pub null_filter : Filter
null_filter = keeping (λ k. not (rests k))

-- TrivialComposeFilter: all matches of ε, which may leave redundant ε-paths
abbrev pub trivial_filter : Filter
trivial_filter = keeping (λ k. true)

-- NoMatchComposeFilter: an ε of T1 is not matched with an ε of T2; all other matches, which may leave redundant ε-paths
abbrev pub no_match_filter : Filter
no_match_filter = keeping (λ k. not (matches_epsilons k))
