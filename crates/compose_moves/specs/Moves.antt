-- One move of the code: machine 1's match and machine 2's, each the loop or a whole transition.
use Rattle.std.specs.Prelude.{cond, List, [], ◌∷◌, ℕ, eqb, Option, None, Some, Result, Ok, Err}
use Rattle.papers.specs.Filter.{MoveKind, lone1, lone2, bothEpsilon, aLabel, Facts, Filter}
use Rattle.words.specs.Labels.{eps_label, Checked, good, refused}
use Rattle.words.specs.Weights.{Kind, one, times, kind_of}
use Rattle.words.specs.Matches.{MatchType, inputs, outputs, Tr as Transition}
use Rattle.words.specs.Filters.{filter_of}
use Rattle.words.specs.Steps.{Triple, Step, weighed}
use Rattle.fst.specs.declared.refusals.Refusal.{Refusal}
use Rattle.fst.specs.Refusals.{number_of}
use Rattle.matchers.specs.Meaning.{Item, the_loop, whole}
use Rattle.compose_filters.specs.Meaning.{facts_mean}
use Rattle.compose_state_tuple.specs.Meaning.{tuple_means}
use Rattle.compose_moves.specs.declared.moves.ComposeTr.{ComposeTr}
use Rattle.compose_moves.specs.declared.moves.Walk.{Walk}

-- the present composed state: the kind of weight, the filter, what the filter sees there, the triple
pub record Present : Type 0 where
  pub kind : Kind
  pub filter : Filter
  pub facts : Facts
  pub triple : Triple

abbrev pub present_of : Walk → Present
present_of w = record { kind = kind_of w.kind; filter = filter_of w.filter; facts = facts_mean w.facts; triple = tuple_means w.tuple }

-- "The resting machine supplies label 0, weight one and its own state."
abbrev pub as_tr : Kind → ℕ → Item → Transition
as_tr k s the_loop = record { input = eps_label; output = eps_label; weight = one k; target = s }
as_tr k s (whole t) = t

-- The row of the filters' table: "1 alone", "2 alone"; of two transitions, machine 1's output tells "both epsilon" from "a label", as `move_kind` of `words` does.
abbrev pub row_of : Item → Item → MoveKind
row_of a the_loop = lone1
row_of the_loop (whole u) = lone2
row_of (whole t) (whole u) = cond (eqb t.output eps_label) bothEpsilon aLabel

-- a move that the filter drops makes nothing; one that it keeps makes a step, or is refused by 12
abbrev pub step_if : Kind → Transition → Transition → Option ℕ → List (Checked Step)
step_if k a b None = []
step_if k a b (Some g) = weighed a b g (times k a.weight b.weight) ∷ []

-- what the two matches make
unfoldable pub steps_of : Present → Item → Item → List (Checked Step)
steps_of p a b = step_if p.kind (as_tr p.kind p.triple.s1 a) (as_tr p.kind p.triple.s2 b) (p.filter (row_of a b) p.facts p.triple.f)

-- a walked edge w and its match m: direction input walks machine 1, direction output machine 2
abbrev pub pair_steps : MatchType → Present → Item → Item → List (Checked Step)
pair_steps inputs p w m = steps_of p w m
pair_steps outputs p w m = steps_of p m w

-- a composed transition: labels, weight, and the composed state that it leads to
abbrev pub compose_tr_means : ComposeTr → Step
compose_tr_means t = record { input = t.ilabel.0; output = t.olabel.0; weight = t.weight; to = tuple_means t.tuple }

-- what a move of the code makes: a transition, none where the filter drops it, or a refusal
abbrev pub Made : Type 0
Made = Result (Option ComposeTr) Refusal

abbrev pub made_means : Made → List (Checked Step)
made_means (Ok (Some t)) = good (compose_tr_means t) ∷ []
made_means (Ok None) = []
made_means (Err r) = refused (number_of r) ∷ []
