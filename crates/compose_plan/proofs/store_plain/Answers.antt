-- In either direction the plan is that of the state, so what is walked is what the state makes.
use mathlib.Core.Path.{◌≡◌, sym, ◌∙◌, ap, subst}
use mathlib.Core.List.{[]}
use Rattle.words.specs.Weights.{kind_of}
use Rattle.words.specs.Matches.{MatchType}
use Rattle.fst.specs.Meaning.{on_of}
use Rattle.fst.specs.declared.MatchType.{MatchType as Side}
use Rattle.fst.specs.declared.MatchType.TheVariants.{MatchInput, MatchOutput}
use Rattle.store_records.specs.Meaning.{store_in}
use Rattle.stored_steps.specs.Storing.{store_all, Fits}
use Rattle.compose_plan.proofs.Ready.{sorted_way, planned, planned_steps}
use Rattle.compose_plan.proofs.store_plain.Goals as goal

-- the arm that is taken tells the direction
way : {on s : Side} {d : MatchType} → on ≡ s → on_of on ≡ d → on_of s ≡ d
way e h = sym (ap on_of e) ∙ h

pub seen-facts-requires : goal.seen-facts-requires
seen-facts-requires c =
    let a = c.args in
    let p = c.requires.2 [] [] in
    ((kind_of a.options.kind, p.facts1), (kind_of a.options.kind, p.facts2))

pub looked_up-list-requires : goal.looked_up-list-requires
looked_up-list-requires c =
    let a = c.args in
    let q = c.requires in
    let p = q.2 [] [] in
    (p.formed2, p.inside2, sorted_way q.2 MatchInput (way c.in-MatchInput.is q.1), (kind_of a.options.kind, p.facts2))

pub walk_list-requires : goal.walk_list-requires
walk_list-requires c =
    let a = c.args in
    let q = c.requires in
    let v = c.plan_of-plan in
    let l = c.looked_up-list in
    let e = way c.in-MatchInput.is q.1 in
    let seen = c.seen-facts in
    let d = store_in a.heads.now a.states.now a.trs.now a.used in (
      planned q.2 MatchInput e q.0 l.ensures seen.ensures v.ensures,
      subst (Fits d) (planned_steps q.2 MatchInput e q.0 l.ensures seen.ensures v.ensures [] []) (q.3 [] []),
      q.4,
    )

pub returns-in-MatchInput : goal.returns-in-MatchInput
returns-in-MatchInput c =
    let a = c.args in
    let q = c.requires in
    let v = c.plan_of-plan in
    let l = c.looked_up-list in
    let e = way c.in-MatchInput.is q.1 in
    let seen = c.seen-facts in
    let d = store_in a.heads.now a.states.now a.trs.now a.used in
    λ a1 a2. c.walk_list.ensures
    ∙ ap (store_all d) (sym (planned_steps q.2 MatchInput e q.0 l.ensures seen.ensures v.ensures a1 a2))

pub looked_up-list-requires-in-MatchOutput : goal.looked_up-list-requires-in-MatchOutput
looked_up-list-requires-in-MatchOutput c =
    let a = c.args in
    let q = c.requires in
    let p = q.2 [] [] in
    (p.formed1, p.inside1, sorted_way q.2 MatchOutput (way c.in-MatchOutput.is q.1), (kind_of a.options.kind, p.facts1))

pub walk_list-requires-in-MatchOutput : goal.walk_list-requires-in-MatchOutput
walk_list-requires-in-MatchOutput c =
    let a = c.args in
    let q = c.requires in
    let v = c.plan_of-plan-in-MatchOutput in
    let l = c.looked_up-list-in-MatchOutput in
    let e = way c.in-MatchOutput.is q.1 in
    let seen = c.seen-facts in
    let d = store_in a.heads.now a.states.now a.trs.now a.used in (
      planned q.2 MatchOutput e q.0 l.ensures seen.ensures v.ensures,
      subst (Fits d) (planned_steps q.2 MatchOutput e q.0 l.ensures seen.ensures v.ensures [] []) (q.3 [] []),
      q.4,
    )

pub returns-in-MatchOutput : goal.returns-in-MatchOutput
returns-in-MatchOutput c =
    let a = c.args in
    let q = c.requires in
    let v = c.plan_of-plan-in-MatchOutput in
    let l = c.looked_up-list-in-MatchOutput in
    let e = way c.in-MatchOutput.is q.1 in
    let seen = c.seen-facts in
    let d = store_in a.heads.now a.states.now a.trs.now a.used in
    λ a1 a2. c.walk_list-in-MatchOutput.ensures
    ∙ ap (store_all d) (sym (planned_steps q.2 MatchOutput e q.0 l.ensures seen.ensures v.ensures a1 a2))
