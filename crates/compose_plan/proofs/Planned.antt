-- The steps of a composed state without sigma are those of its plan.
use mathlib.Core.Path.{◌≡◌, refl, sym, ◌∙◌, ap, ap₂}
use mathlib.Core.Bool.{Bool, true, false, cond}
use mathlib.Core.List.{List, flat_map}
use Rattle.std.specs.Prelude.{Option, Some}
use Prim.Native.Nat.{ℕ}
use lib.Dec.{eqb}
use Rattle.papers.specs.Filter.{bothEpsilon, aLabel, Facts}
use Rattle.words.specs.Labels.{eps_label, no_label, Checked, good}
use Rattle.words.specs.Weights.{Kind, kind_of}
use Rattle.words.specs.Matches.{MatchType, inputs, outputs, loop, own, Tr as Transition}
use Rattle.words.specs.Machines.{first_of, well_formed}
use Rattle.words.specs.Sigmas.{Operand, inner, given}
use Rattle.words.specs.Sides.{direction_at}
use Rattle.words.specs.Filters.{none_at, all_at, facts_at, filter_of}
use Rattle.words.proofs.TableLaws.{label_kept}
use Rattle.words.specs.Settings.{Settings}
use Rattle.words.specs.Steps.{Composition, Triple, Move, Step, asks, move_of, walk, move_kind, steps_at}
use Rattle.fst.specs.Meaning.{on_of, as_operand}
use Rattle.matchers.specs.Meaning.{the_loop}
use Rattle.match_type.specs.Chosen.{side_means}
use Rattle.compose_bounds.specs.Serving.{plain_direction}
use Rattle.compose_fst_op.specs.Composing.{option_settings, composing_words}
use Rattle.compose_fst_op.specs.declared.ComposeFstOpOptions.{ComposeFstOpOptions}
use Rattle.compose_moves.specs.Moves.{as_tr, step_if}
use Rattle.compose_moves.specs.Walks.{walked_state, looked_state, looked_words}
use Rattle.compose_moves.proofs.Rows.{made, kept_one}
use Rattle.compose_moves.proofs.Starts.{steps_along}
use Rattle.compose_walk.specs.declared.Plan.{Plan}
use Rattle.compose_walk.specs.Plans.{side_by, plan_steps}
use Rattle.list_facts.specs.declared.ListFacts.{ListFacts}
use Rattle.sorted_lists.specs.declared.SortedList.{SortedList}
use Rattle.compose_plan.specs.Serves.{no_sigma}
use Rattle.compose_plan.specs.Planning.{Present, lone_walked, lone_looked, PlanOf}
use Rattle.compose_plan.proofs.Plain.{unset, direction_plain}
use Rattle.compose_plan.proofs.Walked.{Joins, walk_planned}

-- the words of the machine that is walked
abbrev pub walked_words : MatchType → List ℕ → List ℕ → List ℕ
walked_words inputs m1 m2 = m1
walked_words outputs m1 m2 = m2

-- two transitions with one label: "a label" is kept, and f becomes 0
pair_cell : (n : ℕ) (φ : Facts) (f : ℕ) (cell : Option ℕ) (b : Bool) → cell ≡ filter_of n bothEpsilon φ f → cond b cell (Some 0) ≡ filter_of n (cond b bothEpsilon aLabel) φ f
pair_cell n φ f cell true e = e
pair_cell n φ f cell false e = sym (label_kept n φ f)

-- the resting machine, by equal values
same_rest : {k kind : Kind} {s state : ℕ} → k ≡ kind → s ≡ state → as_tr k s the_loop ≡ as_tr kind state the_loop
same_rest p q = ap₂ (λ (k : Kind) (s : ℕ). as_tr k s the_loop) p q

module _ (o : ComposeFstOpOptions) (m1 m2 a1 a2 : List ℕ) (t : Triple) where
  abbrev set : Settings
  set = option_settings o

  abbrev C : Composition
  C = composing_words o m1 m2 a1 a2

  abbrev A : Operand
  A = C.operand1

  abbrev B : Operand
  B = C.operand2

  abbrev F : Checked Move → List (Checked Step)
  F = made C t

  -- what the filter sees
  abbrev φ : Facts
  φ = facts_at (as_operand outputs m1 no_label) (as_operand inputs m2 no_label) t.s1 t.s2

  -- a move makes a step, by the values that a plan holds
  made_is : (w : Move) (k : Kind) (a b : Transition) (cell : Option ℕ) → k ≡ kind_of o.kind → a ≡ given (kind_of o.kind) A t.s1 (asks B w.second) w.first
      → b ≡ given (kind_of o.kind) B t.s2 (asks A w.first) w.second → cell ≡ filter_of o.filter (move_kind A w.first w.second) φ t.f → F (good w) ≡ step_if k a b cell
  unfolding none_at all_at
  made_is w k a b cell p q r c = rw (p, q, r, c) (sym (kept_one C t w (filter_of o.filter (move_kind A w.first w.second) φ t.f)))

  -- the values of a plan in a direction
  record Values (v : Plan) (d : MatchType) : Type 0 where
    kind : v.kind ≡ o.kind
    side : side_by v ≡ d
    first : v.list.first ≡ first_of (looked_words d m1 m2) (looked_state d t)
    walked : v.walked.0 ≡ walked_state d t
    looked : v.looked.0 ≡ looked_state d t
    lone_walked_lem : v.lone_walked ≡ filter_of o.filter (lone_walked d) φ t.f
    lone_looked_lem : v.lone_looked ≡ filter_of o.filter (lone_looked d) φ t.f
    both : v.both ≡ filter_of o.filter bothEpsilon φ t.f

  -- what the moves make in each direction
  joins_inputs : (v : Plan) → Values v inputs → Joins v m1 m2 A.sigma B.sigma F inputs
  unfolding given
  joins_inputs v h = record {
    rests = λ u. made_is (move_of inputs loop (own u)) _ _ _ _ (ap kind_of h.kind) (same_rest (ap kind_of h.kind) h.walked) refl h.lone_looked_lem;
    alone = λ u. made_is (move_of inputs (own u) loop) _ _ _ _ (ap kind_of h.kind) refl (same_rest (ap kind_of h.kind) h.looked) h.lone_walked_lem;
    pairs = λ u w e. made_is (move_of inputs (own u) (own w)) _ _ _ _ (ap kind_of h.kind) refl refl (pair_cell o.filter φ t.f _ (eqb (inner A u) eps_label) h.both);
  }

  joins_outputs : (v : Plan) → Values v outputs → Joins v m2 m1 B.sigma A.sigma F outputs
  unfolding given
  joins_outputs v h = record {
    rests = λ u. made_is (move_of outputs loop (own u)) _ _ _ _ (ap kind_of h.kind) refl (same_rest (ap kind_of h.kind) h.walked) h.lone_looked_lem;
    alone = λ u. made_is (move_of outputs (own u) loop) _ _ _ _ (ap kind_of h.kind) (same_rest (ap kind_of h.kind) h.looked) refl h.lone_walked_lem;
    pairs = λ u w e.
        made_is (move_of outputs (own u) (own w)) _ _ _ _ (ap kind_of h.kind) refl refl
        (ap (λ (x : ℕ). cond (eqb x eps_label) v.both (Some 0)) (sym e) ∙ pair_cell o.filter φ t.f _ (eqb (inner A w) eps_label) h.both);
  }

  -- in a direction
  planned : (d : MatchType) (v : Plan) → Values v d → no_sigma set ≡ true → well_formed m1 ≡ true → well_formed m2 ≡ true → direction_at (side_means o.side) A B t.s1 t.s2 ≡ good d
      → steps_at (composing_words o m1 m2 a1 a2) t ≡ plan_steps v (walked_words d m1 m2) (looked_words d m1 m2)
  planned inputs v h n w1 w2 e =
      steps_along C t inputs e
      ∙ ap₂ (λ (i j : ℕ). flat_map F (walk inputs A i B j)) (sym h.walked) (sym h.looked)
      ∙ walk_planned v m1 m2 A.sigma B.sigma F w1 (unset set n).1 (h.first ∙ ap (first_of m2) (sym h.looked)) inputs h.side (joins_inputs v h)
  planned outputs v h n w1 w2 e =
      steps_along C t outputs e
      ∙ ap₂ (λ (i j : ℕ). flat_map F (walk outputs B i A j)) (sym h.walked) (sym h.looked)
      ∙ walk_planned v m2 m1 B.sigma A.sigma F w2 (unset set n).0 (h.first ∙ ap (first_of m1) (sym h.looked)) outputs h.side (joins_outputs v h)

-- the plan of the walk in the direction that the facts give
pub plan_steps_lem : {o : ComposeFstOpOptions} {m1 m2 a1 a2 : List ℕ} {t : Triple} {f1 f2 : ListFacts} → Present o m1 m2 a1 a2 t f1 f2 → no_sigma (option_settings o) ≡ true
    → (l : SortedList) (v : Plan)
    → on_of l.on ≡ plain_direction (side_means o.side) f1.len f2.len
    → l.first ≡ first_of (looked_words (on_of l.on) m1 m2) (looked_state (on_of l.on) t)
    → PlanOf o (facts_at (as_operand outputs m1 no_label) (as_operand inputs m2 no_label) t.s1 t.s2) t l v
    → steps_at (composing_words o m1 m2 a1 a2) t ≡ plan_steps v (walked_words (on_of l.on) m1 m2) (looked_words (on_of l.on) m1 m2)
plan_steps_lem {o} {m1} {m2} {a1} {a2} {t} p n l v e first plan =
    let h : Values o m1 m2 a1 a2 t v (on_of l.on) = record {
      kind = plan.kind;
      side = ap (λ (l : SortedList). on_of l.on) plan.list;
      first = ap (λ (l : SortedList). l.first) plan.list ∙ first;
      walked = plan.walked;
      looked = plan.looked;
      lone_walked_lem = plan.lone_walked_lem;
      lone_looked_lem = plan.lone_looked_lem;
      both = plan.both;
    } in
    planned o m1 m2 a1 a2 t (on_of l.on) v h n p.formed1 p.formed2 (direction_plain p n ∙ ap good (sym e))
