-- 01, "Choosing the side", first paragraph, and refusals 4 to 7 and 10.
use Rattle.std.specs.Prelude.{Bool, true, false, not, ◌&&◌, ◌||◌, cond, List, [], ◌∷◌, ℕ, eqb, leb, length}
use Rattle.words.specs.Labels.{eps_label, Checked, good, refused, refuse_if}
use Rattle.words.specs.Matches.{MatchType, inputs, outputs}
use Rattle.words.specs.Machines.{sorted}
use Rattle.words.specs.Sigmas.{Operand, is_set, sigma_trs}

-- the side of a composition: one direction in every state, or "both"
pub data Side : Type 0 where
  only : MatchType → Side
  both : Side

-- "Marks 1 on both: both. On machine 1 alone: output. On machine 2 alone: input. Otherwise machine 1 sorted in fact: output; else machine 2: input; else refusal 7."
-- The two marks are 1; the two machines are sorted in fact.
abbrev pub side_by : Bool → Bool → Bool → Bool → Checked Side
side_by true true fact1 fact2 = good both
side_by true false fact1 fact2 = good (only outputs)
side_by false true fact1 fact2 = good (only inputs)
side_by false false true fact2 = good (only outputs)
side_by false false false true = good (only inputs)
side_by false false false false = refused 7

-- no label falls on the side on which the machine is matched
abbrev pub in_order : Operand → Bool
in_order o = sorted o.on o.machine

-- Refusals 4 to 7 in their order: "a sigma label 0", "sigma on 1, outputs unsorted", "sigma on 2, inputs unsorted", "no side to match"; else the side.
unfoldable pub side_of : Operand → Operand → Checked Side
side_of A B =
    refuse_if (eqb A.sigma.label eps_label || eqb B.sigma.label eps_label) 4
    (refuse_if (is_set A.sigma && not (in_order A)) 5
    (refuse_if (is_set B.sigma && not (in_order B)) 6
    (side_by (eqb A.mark 1) (eqb B.mark 1) (in_order A) (in_order B))))

-- whether anything stands in the list
abbrev pub non_empty : {A : Type 0} → List A → Bool
non_empty [] = false
non_empty (x ∷ xs) = true

-- "Under "both", the state with a sigma transition (by matched label) decides, matched on its own side, two such are refusal 10, else the shorter list is walked and
-- looked up in the longer: length 1 at most length 2 gives input."
abbrev pub direction_by : Bool → Bool → ℕ → ℕ → Checked MatchType
direction_by true true length1 length2 = refused 10
direction_by true false length1 length2 = good outputs
direction_by false true length1 length2 = good inputs
direction_by false false length1 length2 = good (cond (leb length1 length2) inputs outputs)

-- the direction at the pair of states s1, s2
unfoldable pub direction_at : Side → Operand → Operand → ℕ → ℕ → Checked MatchType
direction_at (only on) A B s1 s2 = good on
direction_at both A B s1 s2 = direction_by (non_empty (sigma_trs A s1)) (non_empty (sigma_trs B s2)) (length (A.machine.list s1)) (length (B.machine.list s2))
