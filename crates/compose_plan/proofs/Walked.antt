-- A walk without sigma makes the steps of a plan, where each move makes what the plan joins.
use mathlib.Core.Path.{◌≡◌, refl, sym, ◌∙◌, ap, ap₂, subst}
use mathlib.Core.Bool.{Bool, true, false, cond}
use mathlib.Core.List.{List, ◌∷◌, ◌++◌, map, map-map, flat_map, Memᴰ as In}
use Rattle.std.specs.Prelude.{Option, Some}
use Prim.Native.Nat.{ℕ}
use native.Mathlib.Omega.{arith}
use lib.Dec.{eqb}
use borrow.Author.Tests.{eqb-true, eqb-false}
use Rattle.words.specs.Labels.{eps_label, no_label, Checked, good}
use Rattle.words.specs.Weights.{Kind, kind_of}
use Rattle.words.specs.Matches.{MatchType, inputs, outputs, label_on, loop, own, Tr as Transition, tr_of, labelled}
use Rattle.words.specs.Machines.{first_of, list_of, machine_of, well_formed}
use Rattle.words.specs.Sigmas.{Sigma, Operand, inner, lookup}
use Rattle.words.specs.Steps.{Move, Step, move_of, moves_of, walk}
use Rattle.words.specs.Links.{epsilons, moves_of_tr}
use Rattle.words.proofs.WalkLaws.{walk_as_written}
use Rattle.words.proofs.PapersLookup.{owns, of_labelled}
use Rattle.matchers.specs.Meaning.{the_loop}
use Rattle.matchers.specs.Cursors.{with_label}
use Rattle.matchers.proofs.Seeks.{with_first}
use Rattle.compose_moves.specs.Moves.{as_tr}
use Rattle.compose_moves.specs.Walks.{walked_side}
use Rattle.compose_moves.proofs.Flat.{flat_append, flat_same, flat_map_lem, flat_flat}
use Rattle.compose_walk.specs.declared.Plan.{Plan}
use Rattle.compose_walk.specs.Plans.{side_by, joined_by, with_records, with_labelled, eps_by, edge_by, walked_label, record_by, edges_by, plan_steps}
use Rattle.compose_plan.proofs.Plain.{operand_with, label_below, lookup_plain}

-- the label that is asked of the other machine
walked_label_lem : (d : MatchType) (m : List ℕ) (t : ℕ) → label_on (walked_side d) (machine_of m) t ≡ walked_label d (tr_of (machine_of m) t)
walked_label_lem inputs m t = refl
walked_label_lem outputs m t = refl

-- mw is walked, mm looked up; F is what a move makes
module _ (v : Plan) (mw mm : List ℕ) (σw σm : Sigma) (F : Checked Move → List (Checked Step)) where
  abbrev kind : Kind
  kind = kind_of v.kind

  abbrev pub W : MatchType → Operand
  W d = operand_with (walked_side d) mw σw

  abbrev pub M : MatchType → Operand
  M d = operand_with d mm σm

  -- what each move makes in the direction d: a lone one of the machine that is looked up, a lone one of the other, and two with one label
  pub record Joins (d : MatchType) : Type 0 where
    pub rests : (u : ℕ) → F (good (move_of d loop (own u))) ≡ joined_by d kind (as_tr kind v.walked.0 the_loop) (tr_of (machine_of mm) u) v.lone_looked
    pub alone : (t : ℕ) → F (good (move_of d (own t) loop)) ≡ joined_by d kind (tr_of (machine_of mw) t) (as_tr kind v.looked.0 the_loop) v.lone_walked
    pub pairs : (t u : ℕ) → inner (M d) u ≡ inner (W d) t
        → F (good (move_of d (own t) (own u))) ≡ joined_by d kind (tr_of (machine_of mw) t) (tr_of (machine_of mm) u) (cond (eqb (inner (W d) t) eps_label) v.both (Some 0))

  module _ (form : well_formed mw ≡ true) (plain : σm.label ≡ no_label) (first : v.list.first ≡ first_of mm v.looked.0) where
    abbrev d : MatchType
    d = side_by v

    abbrev sm : ℕ
    sm = v.looked.0

    -- one thing with each record of a label
    with_label_lem : (G : ℕ → List (Checked Step)) (w : Transition) (cell : Option ℕ) (x : ℕ) → ((u : ℕ) → label_on d (machine_of mm) u ≡ x → G u ≡ joined_by d kind w (tr_of (machine_of mm) u) cell)
        → flat_map G (labelled d (machine_of mm) sm x) ≡ with_labelled v mm w cell x
    unfolding with_records
    with_label_lem G w cell x h =
        flat_same G (λ u. joined_by d kind w (tr_of (machine_of mm) u) cell) (labelled d (machine_of mm) sm x) (λ u i. h u (of_labelled d (machine_of mm) sm x i).1)
        ∙ ap (flat_map (λ u. joined_by d kind w (tr_of (machine_of mm) u) cell)) (sym (ap (with_label d mm x) first ∙ with_first d mm x sm))

    module _ (joins : Joins d) where
      -- a walked transition with each record of its label
      paired : (t : ℕ) (b : Bool) (x : ℕ) → eqb (inner (W d) t) eps_label ≡ b → inner (W d) t ≡ x
          → flat_map F (map (λ u. good (move_of d (own t) (own u))) (labelled d (machine_of mm) sm x)) ≡ with_labelled v mm (tr_of (machine_of mw) t) (cond b v.both (Some 0)) x
      paired t b x e z =
          flat_map_lem F (λ u. good (move_of d (own t) (own u))) (labelled d (machine_of mm) sm x)
          ∙ with_label_lem (λ u. F (good (move_of d (own t) (own u)))) (tr_of (machine_of mw) t) (cond b v.both (Some 0)) x
          (λ u h. subst (λ (c : Bool). F (good (move_of d (own t) (own u))) ≡ joined_by d kind (tr_of (machine_of mw) t) (tr_of (machine_of mm) u) (cond c v.both (Some 0))) e (joins.pairs t u (h ∙ sym z)))

      -- one walked transition
      edge : (t : ℕ) → In t (list_of mw v.walked.0) → flat_map F (moves_of_tr d (W d) (M d) sm t) ≡ record_by v mw mm t
      unfolding edge_by flat_map
      edge t i = rw (← walked_label_lem d mw t) (go (eqb (inner (W d) t) eps_label) refl)
        where
          go : (b : Bool) → eqb (inner (W d) t) eps_label ≡ b
              → flat_map F (cond b (good (move_of d (own t) loop) ∷ map (λ u. good (move_of d (own t) (own u))) (epsilons (M d) sm)) (moves_of d (own t) (lookup (M d) sm (inner (W d) t))))
              ≡ cond b (eps_by v mm (tr_of (machine_of mw) t)) (with_labelled v mm (tr_of (machine_of mw) t) (Some 0) (inner (W d) t))
          go true e = ap₂ ◌++◌ (joins.alone t) (paired t true eps_label e (eqb-true _ _ e))
          go false e =
              let below = label_below (walked_side d) mw form v.walked.0 t i in
              rw (lookup_plain (M d) sm (inner (W d) t) plain (eqb-false _ _ e) (λ z. omega (arith, z, below)))
              (ap (flat_map F) (map-map (λ m. good (move_of d (own t) m)) own (owns (M d) sm (inner (W d) t))) ∙ paired t false (inner (W d) t) e refl)

      -- the whole walk
      walk_joined : flat_map F (walk d (W d) v.walked.0 (M d) sm) ≡ plan_steps v mw mm
      unfolding plan_steps edges_by list_of
      walk_joined =
          ap (flat_map F) (walk_as_written d (W d) v.walked.0 (M d) sm (λ z. omega (arith, z, plain)))
          ∙ flat_append F (map (λ u. good (move_of d loop (own u))) (epsilons (M d) sm)) (flat_map (moves_of_tr d (W d) (M d) sm) (list_of mw v.walked.0))
          ∙ ap₂ ◌++◌
          (flat_map_lem F (λ u. good (move_of d loop (own u))) (epsilons (M d) sm)
          ∙ with_label_lem (λ u. F (good (move_of d loop (own u)))) (as_tr kind v.walked.0 the_loop) v.lone_looked eps_label (λ u h. joins.rests u))
          (flat_flat F (moves_of_tr d (W d) (M d) sm) (list_of mw v.walked.0) ∙ flat_same _ (record_by v mw mm) (list_of mw v.walked.0) edge)

    -- in the direction of the plan
    pub walk_planned : (on : MatchType) → side_by v ≡ on → Joins on → flat_map F (walk on (W on) v.walked.0 (M on) v.looked.0) ≡ plan_steps v mw mm
    walk_planned on e = subst (λ (x : MatchType). Joins x → flat_map F (walk x (W x) v.walked.0 (M x) v.looked.0) ≡ plan_steps v mw mm) e walk_joined
