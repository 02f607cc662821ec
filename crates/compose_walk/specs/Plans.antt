-- The steps of a composed state by a plan: which list is walked, which is looked up, and the three cells of the filters' table that its epsilons meet. No label is sigma.
use Rattle.std.specs.Prelude.{◌≡◌, true, cond, ℕ, ◌<◌, eqb, Option, Some}
use mathlib.Core.List.{List, ◌++◌, flat_map}
use Rattle.words.specs.Labels.{eps_label, Checked}
use Rattle.words.specs.Weights.{Kind, kind_of}
use Rattle.words.specs.Matches.{MatchType, inputs, outputs, Tr as Transition, tr_of}
use Rattle.words.specs.Machines.{state_count, first_of, list_from, machine_of, well_formed}
use Rattle.words.specs.Steps.{Step}
use Rattle.fst.specs.Meaning.{on_of}
use Rattle.matchers.specs.Meaning.{the_loop}
use Rattle.matchers.specs.Cursors.{with_label}
use Rattle.sorted_lists.specs.Known.{Known}
use Rattle.compose_moves.specs.Moves.{as_tr, step_if}
use Rattle.compose_walk.specs.declared.Plan.{Plan}

-- the direction of a plan: the side on which the machine that is looked up is matched
abbrev pub side_by : Plan → MatchType
side_by v = on_of v.list.on

-- What a walked transition w and a looked-up one l make under a cell of the filters' table: direction input walks machine 1, direction output machine 2.
abbrev pub joined_by : MatchType → Kind → Transition → Transition → Option ℕ → List (Checked Step)
joined_by inputs k w l cell = step_if k w l cell
joined_by outputs k w l cell = step_if k l w cell

-- a walked transition with each of these records of the machine that is looked up
unfoldable pub with_records : MatchType → Kind → List ℕ → Transition → Option ℕ → List ℕ → List (Checked Step)
with_records on k mm w cell us = flat_map (λ u. joined_by on k w (tr_of (machine_of mm) u) cell) us

-- with each record of the looked-up list that has the label x
abbrev pub with_labelled : Plan → List ℕ → Transition → Option ℕ → ℕ → List (Checked Step)
with_labelled v mm w cell x = with_records (side_by v) (kind_of v.kind) mm w cell (with_label (side_by v) mm x v.list.first)

-- "for output 0, s1 alone and then a pair with each epsilon of s2"
abbrev pub eps_by : Plan → List ℕ → Transition → List (Checked Step)
eps_by v mm w =
    joined_by (side_by v) (kind_of v.kind) w (as_tr (kind_of v.kind) v.looked.0 the_loop) v.lone_walked
    ++ with_labelled v mm w v.both eps_label

-- all that a walked transition makes; "for another label, each match", and f becomes 0
unfoldable pub edge_by : Plan → List ℕ → Transition → ℕ → List (Checked Step)
edge_by v mm w x = cond (eqb x eps_label) (eps_by v mm w) (with_labelled v mm w (Some 0) x)

-- "Machine 1 is matched on outputs, 2 on inputs.": the inner label of a walked transition
abbrev pub walked_label : MatchType → Transition → ℕ
walked_label inputs w = w.output
walked_label outputs w = w.input

-- all that record u of the walked machine makes
abbrev pub record_by : Plan → (mw mm : List ℕ) → ℕ → List (Checked Step)
record_by v mw mm u = edge_by v mm (tr_of (machine_of mw) u) (walked_label (side_by v) (tr_of (machine_of mw) u))

-- all that the walked list makes from record t on
unfoldable pub edges_by : Plan → (mw mm : List ℕ) → ℕ → List (Checked Step)
edges_by v mw mm t = flat_map (record_by v mw mm) (list_from mw t)

-- "first each epsilon-input transition of s2 alone"
abbrev pub rest_by : Plan → List ℕ → List (Checked Step)
rest_by v mm = with_labelled v mm (as_tr (kind_of v.kind) v.walked.0 the_loop) v.lone_looked eps_label

-- "then along s1's list"
unfoldable pub plan_steps : Plan → (mw mm : List ℕ) → List (Checked Step)
plan_steps v mw mm = rest_by v mm ++ edges_by v mw mm (first_of mw v.walked.0)

-- what a walk relies on: mw is walked, mm looked up
pub record Planned (v : Plan) (mw mm : List ℕ) : Type 0 where
  pub form : well_formed mw ≡ true
  pub walked : v.walked.0 < state_count mw
  pub known : Known mm v.list
