-- 01, "Sigma", with 02, 2.4, "Sigma means any letter": the look-up of a label in one machine of the composition.
use Rattle.std.specs.Prelude.{Bool, true, false, not, ◌&&◌, ◌||◌, cond, List, [], ◌∷◌, ◌++◌, map, ℕ, zero, suc, eqb, Option, None, Some}
use Rattle.papers.specs.Machine.{Machine}
use Rattle.words.specs.Labels.{eps_label, no_label, Checked, good, refuse_if}
use Rattle.words.specs.Weights.{Kind, one}
use Rattle.words.specs.Matches.{MatchType, inputs, outputs, label_on, Match, loop, own, viaSigma, Tr, tr_of, labelled, sorted_matches}

-- The sigma label ("MAX means none"), whether it is rewritten on both sides, and the allowed list (none: no list).
pub record Sigma : Type 0 where
  pub label : ℕ
  pub rewrite_both : Bool
  pub allowed : Option (List ℕ)

-- "Rewrite mode 1 replaces sigma on each side that holds it, 2 on the matched side alone, 0 as 1 if the acceptor mark is 1, else as 2."; another number is refused before it
-- is read
abbrev pub rewrites_both : ℕ → ℕ → Bool
rewrites_both zero mark = eqb mark 1
rewrites_both (suc zero) mark = true
rewrites_both (suc (suc n)) mark = false

-- a machine of the composition: what its words hold, the side on which it is matched, its mark of that side, its sigma
pub record Operand : Type 0 where
  pub machine : Machine
  pub on : MatchType
  pub mark : ℕ
  pub sigma : Sigma

-- the inner label of transition t
abbrev pub inner : Operand → ℕ → ℕ
inner o t = label_on o.on o.machine t

-- x stands in the list
unfoldable pub has : ℕ → List ℕ → Bool
has x [] = false
has x (y ∷ ys) = eqb y x || has x ys

-- "in the allowed list (no list: all; empty list: none)"
abbrev pub is_allowed : Option (List ℕ) → ℕ → Bool
is_allowed None x = true
is_allowed (Some xs) x = has x xs

-- "Sigma label MAX means none."
abbrev pub is_set : Sigma → Bool
is_set σ = not (eqb σ.label no_label)

-- x is the sigma label
abbrev pub is_sigma : Sigma → ℕ → Bool
is_sigma σ x = is_set σ && eqb x σ.label

-- the sigma transitions of state s, by matched label
unfoldable pub sigma_trs : Operand → ℕ → List ℕ
sigma_trs o s = cond (is_set o.sigma) (labelled o.on o.machine s o.sigma.label) []

-- "for a label neither 0 nor MAX and in the allowed list (no list: all; empty list: none), each sigma transition is given rewritten"
unfoldable pub sigma_matches : Operand → ℕ → ℕ → List Match
sigma_matches o s x = cond (not (eqb x eps_label) && (not (eqb x no_label) && is_allowed o.sigma.allowed x)) (map viaSigma (sigma_trs o s)) []

-- "Asked for the sigma label: refusal 11." Else the matches of label x at state s, in their order. 02, 2.4: "After the own matches .. the rewritten sigma matches now follow".
unfoldable pub lookup : Operand → ℕ → ℕ → Checked (List Match)
lookup o s x = refuse_if (is_sigma o.sigma x) 11 (good (sorted_matches o.on o.machine s x ++ sigma_matches o s x))

-- x in the place of sigma
abbrev pub replace : ℕ → ℕ → ℕ → ℕ
replace sigma x l = cond (eqb l sigma) x l

-- a sigma transition rewritten for the label x
abbrev pub rewrite : Bool → MatchType → ℕ → ℕ → Tr → Tr
rewrite true on sigma x t = record { input = replace sigma x t.input; output = replace sigma x t.output; weight = t.weight; target = t.target }
rewrite false inputs sigma x t = record { input = x; output = t.output; weight = t.weight; target = t.target }
rewrite false outputs sigma x t = record { input = t.input; output = x; weight = t.weight; target = t.target }

-- What a match of the label x at state s gives. "The resting machine supplies label 0, weight one and its own state."
unfoldable pub given : Kind → Operand → ℕ → ℕ → Match → Tr
given k o s x loop = record { input = eps_label; output = eps_label; weight = one k; target = s }
given k o s x (own t) = tr_of o.machine t
given k o s x (viaSigma t) = rewrite o.sigma.rewrite_both o.on o.sigma.label x (tr_of o.machine t)
