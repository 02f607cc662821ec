-- What is known at a composed state past the checks 1 to 8, and the plan of its walk.
use Rattle.std.specs.Prelude.{◌≡◌, Bool, true, not, ◌&&◌, List, ℕ, ◌<◌, eqb}
use Rattle.papers.specs.Filter.{MoveKind, lone1, lone2, bothEpsilon, Facts}
use Rattle.words.specs.Labels.{good}
use Rattle.words.specs.Weights.{kind_of}
use Rattle.words.specs.Matches.{MatchType, inputs, outputs}
use Rattle.words.specs.Machines.{state_count, well_formed}
use Rattle.words.specs.Sides.{side_of}
use Rattle.words.specs.Filters.{filter_of}
use Rattle.words.specs.Steps.{Triple}
use Rattle.fst.specs.Meaning.{on_of}
use Rattle.compose_fst_op.specs.Composing.{composing_words}
use Rattle.compose_fst_op.specs.declared.ComposeFstOpOptions.{ComposeFstOpOptions}
use Rattle.compose_moves.specs.Walks.{walked_state, looked_state}
use Rattle.compose_walk.specs.declared.Plan.{Plan}
use Rattle.list_facts.specs.Facts.{TrueOf}
use Rattle.list_facts.specs.declared.ListFacts.{ListFacts}
use Rattle.match_type.specs.Chosen.{side_means}
use Rattle.sorted_lists.specs.declared.SortedList.{SortedList}

-- the machines are well formed, the side is that of the rule, the pair is in range, and the facts are those of its two lists
pub record Present (o : ComposeFstOpOptions) (m1 m2 a1 a2 : List ℕ) (t : Triple) (f1 f2 : ListFacts) : Type 0 where
  pub formed1 : well_formed m1 ≡ true
  pub formed2 : well_formed m2 ≡ true
  pub rule : side_of (composing_words o m1 m2 a1 a2).operand1 (composing_words o m1 m2 a1 a2).operand2 ≡ good (side_means o.side)
  pub inside1 : t.s1 < state_count m1
  pub inside2 : t.s2 < state_count m2
  pub facts1 : TrueOf outputs (kind_of o.kind) m1 t.s1 f1
  pub facts2 : TrueOf inputs (kind_of o.kind) m2 t.s2 f2

-- ""all" means only epsilons there and not final"
abbrev pub all_by : Bool → ListFacts → Bool
all_by final f = eqb f.eps f.len && not final

-- the lone move of the walked machine, and of the other
abbrev pub lone_walked : MatchType → MoveKind
lone_walked inputs = lone1
lone_walked outputs = lone2

abbrev pub lone_looked : MatchType → MoveKind
lone_looked inputs = lone2
lone_looked outputs = lone1

-- v is the plan of a walk from the triple t: l is the list that is looked up, φ is what the filter sees
pub record PlanOf (o : ComposeFstOpOptions) (φ : Facts) (t : Triple) (l : SortedList) (v : Plan) : Type 0 where
  pub kind : v.kind ≡ o.kind
  pub list : v.list ≡ l
  pub walked : v.walked.0 ≡ walked_state (on_of l.on) t
  pub looked : v.looked.0 ≡ looked_state (on_of l.on) t
  pub lone_walked_lem : v.lone_walked ≡ filter_of o.filter (lone_walked (on_of l.on)) φ t.f
  pub lone_looked_lem : v.lone_looked ≡ filter_of o.filter (lone_looked (on_of l.on)) φ t.f
  pub both : v.both ≡ filter_of o.filter bothEpsilon φ t.f
