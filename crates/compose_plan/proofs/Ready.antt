-- What a walk relies on, from what is known at the state: in either direction the plan's steps are the state's.
use mathlib.Core.Path.{◌≡◌, sym, ◌∙◌, ap, subst}
use mathlib.Core.Bool.{true}
use mathlib.Core.List.{List, []}
use Prim.Native.Nat.{ℕ, ◌<◌}
use Rattle.papers.specs.Filter.{Facts}
use Rattle.words.specs.Labels.{no_label}
use Rattle.words.specs.Matches.{MatchType, inputs, outputs}
use Rattle.words.specs.Machines.{state_count, first_of, machine_of, sorted}
use Rattle.words.specs.Filters.{facts_at}
use Rattle.words.specs.Steps.{Triple, steps_at}
use Rattle.fst.specs.Meaning.{on_of, as_operand}
use Rattle.fst.specs.declared.MatchType.{MatchType as Side}
use Rattle.match_type.specs.Chosen.{side_means}
use Rattle.compose_fst_op.specs.Composing.{option_settings, composing_words}
use Rattle.compose_fst_op.specs.declared.ComposeFstOpOptions.{ComposeFstOpOptions}
use Rattle.compose_moves.specs.Walks.{walked_state, looked_state, looked_words}
use Rattle.compose_bounds.specs.Serving.{plain_direction}
use Rattle.sorted_lists.specs.Known.{Known}
use Rattle.sorted_lists.specs.declared.SortedList.{SortedList}
use Rattle.list_facts.specs.declared.ListFacts.{ListFacts}
use Rattle.compose_walk.specs.Plans.{plan_steps, Planned}
use Rattle.compose_walk.specs.declared.Plan.{Plan}
use Rattle.compose_plan.specs.Serves.{no_sigma}
use Rattle.compose_plan.specs.Planning.{Present, PlanOf}
use Rattle.compose_plan.proofs.Sorted.{looked_sorted}
use Rattle.compose_plan.proofs.Planned.{walked_words, plan_steps_lem}

module _ {o : ComposeFstOpOptions} {m1 m2 : List ℕ} {t : Triple} {f1 f2 : ListFacts} (p : (a1 a2 : List ℕ) → Present o m1 m2 a1 a2 t f1 f2)
    (on : Side) (way : on_of on ≡ plain_direction (side_means o.side) f1.len f2.len) where
  -- the list that is looked up is sorted
  pub sorted_way : sorted (on_of on) (machine_of (looked_words (on_of on) m1 m2)) ≡ true
  sorted_way = subst (λ (d : MatchType). sorted d (machine_of (looked_words d m1 m2)) ≡ true) (sym way) (looked_sorted (p [] []))

  module _ (plain : no_sigma (option_settings o) ≡ true) {l : SortedList} {φ : Facts} {v : Plan}
      (list : Known (looked_words (on_of on) m1 m2) l × (l.on ≡ on) × (l.first ≡ first_of (looked_words (on_of on) m1 m2) (looked_state (on_of on) t)))
      (seen : φ ≡ facts_at (as_operand outputs m1 no_label) (as_operand inputs m2 no_label) t.s1 t.s2) (is : PlanOf o φ t l v) where
    pub planned : Planned v (walked_words (on_of on) m1 m2) (looked_words (on_of on) m1 m2)
    planned = go (on_of on) (is.walked ∙ ap (λ (s : Side). walked_state (on_of s) t) list.1) (subst (Known (looked_words (on_of on) m1 m2)) (sym is.list) list.0)
      where
        go : (d : MatchType) → v.walked.0 ≡ walked_state d t → Known (looked_words d m1 m2) v.list → Planned v (walked_words d m1 m2) (looked_words d m1 m2)
        go inputs e k = record { form = (p [] []).formed1; walked = subst (λ (s : ℕ). s < state_count m1) (sym e) (p [] []).inside1; known = k }
        go outputs e k = record { form = (p [] []).formed2; walked = subst (λ (s : ℕ). s < state_count m2) (sym e) (p [] []).inside2; known = k }

    pub planned_steps : (a1 a2 : List ℕ) → steps_at (composing_words o m1 m2 a1 a2) t ≡ plan_steps v (walked_words (on_of on) m1 m2) (looked_words (on_of on) m1 m2)
    planned_steps a1 a2 =
        subst (λ (s : Side). steps_at (composing_words o m1 m2 a1 a2) t ≡ plan_steps v (walked_words (on_of s) m1 m2) (looked_words (on_of s) m1 m2)) list.1
        (plan_steps_lem (p a1 a2) plain l v (ap on_of list.1 ∙ way)
        (subst (λ (s : Side). l.first ≡ first_of (looked_words (on_of s) m1 m2) (looked_state (on_of s) t)) (sym list.1) list.2)
        (subst (λ (f : Facts). PlanOf o f t l v) seen is))
