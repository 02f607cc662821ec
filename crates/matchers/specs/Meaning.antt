-- What a match of the code stands for in the definitions of `words`, and what the two look-ups give.
use Rattle.std.specs.Prelude.{Bool, true, false, not, ◌&&◌, List, map, ℕ, eqb, Option, None, Some}
use Rattle.papers.specs.Machine.{Machine}
use Rattle.words.specs.Labels.{eps_label, no_label, Checked, good, and_then}
use Rattle.words.specs.Matches.{MatchType, Match, loop, own, viaSigma, Tr as Transition, tr_of, sorted_matches}
use Rattle.words.specs.Machines.{side_mark, machine_of}
use Rattle.words.specs.Sigmas.{is_allowed, Operand, lookup, rewrite}
use Rattle.words.specs.Settings.{operand_by}
use Rattle.fst.specs.Meaning.{tr_means}
use Rattle.matchers.specs.declared.sigma_matcher.Sigma.{Sigma}
use Rattle.matchers.specs.declared.IterItemMatcher.{IterItemMatcher}
use Rattle.matchers.specs.declared.IterItemMatcher.TheVariants.{EpsLoop, Tr}

-- "a match is either the loop or one whole transition record"
pub data Item : Type 0 where
  the_loop : Item
  whole : Transition → Item

abbrev pub match_means : IterItemMatcher → Item
match_means EpsLoop = the_loop
match_means (Tr t) = whole (tr_means t)

-- What a match gives: the loop; a transition as it stands; a sigma transition "given rewritten". Label, weight and state of the loop come from "the resting machine": see `given` of
-- `words`.
abbrev pub item_of : Machine → (Transition → Transition) → Match → Item
item_of M rewritten loop = the_loop
item_of M rewritten (own t) = whole (tr_of M t)
item_of M rewritten (viaSigma t) = whole (rewritten (tr_of M t))

-- the sorted look-up of the label x at state s: what its matches give, in their order; none is a sigma transition
unfoldable pub sorted_items : MatchType → List ℕ → ℕ → ℕ → List Item
sorted_items on m s x = map (item_of (machine_of m) (λ t. t)) (sorted_matches on (machine_of m) s x)

-- the sigma look-up: a refusal, or what its matches give, in their order
unfoldable pub lookup_items : Operand → ℕ → ℕ → Checked (List Item)
lookup_items o s x = and_then (lookup o s x) (λ ms. good (map (item_of o.machine (rewrite o.sigma.rewrite_both o.on o.sigma.label x)) ms))

-- The allowed list is lent with a mark whether there is one: "no list: all; empty list: none".
abbrev pub allowed_of : Bool → List ℕ → Option (List ℕ)
allowed_of true xs = Some xs
allowed_of false xs = None

-- a machine's words with the sigma settings of the code, and an allowed list
abbrev pub operand_in : MatchType → List ℕ → Sigma → Option (List ℕ) → Operand
operand_in on m sigma allowed = operand_by on (machine_of m) (side_mark on m) sigma.acceptor sigma.label.0 sigma.mode allowed

-- sigma is set, and may stand for x: "for a label neither 0 nor MAX and in the allowed list"
unfoldable pub stands_for : ℕ → Option (List ℕ) → ℕ → Bool
stands_for sigma allowed x = not (eqb sigma no_label) && (not (eqb x eps_label) && (not (eqb x no_label) && is_allowed allowed x))
