-- In either direction the plan is that of the state, so what is weighed and walked is what the state makes.
use mathlib.Core.Path.{◌≡◌, sym, ◌∙◌, ap, subst}
use mathlib.Core.List.{[]}
use Rattle.words.specs.Weights.{kind_of}
use Rattle.words.specs.Matches.{MatchType}
use Rattle.fst.specs.Meaning.{on_of}
use Rattle.fst.specs.declared.MatchType.{MatchType as Side}
use Rattle.fst.specs.declared.MatchType.TheVariants.{MatchInput, MatchOutput}
use Rattle.store_records.specs.Meaning.{store_in}
use Rattle.compose_plan.specs.Storing.{Weighable}
use Rattle.compose_plan.proofs.Verdicts.{stored_by}
use Rattle.compose_plan.proofs.Ready.{sorted_way, planned, planned_steps}
use Rattle.compose_plan.proofs.store_tight.Goals as goal

-- the arm that is taken tells the direction
way : {on s : Side} {d : MatchType} → on ≡ s → on_of on ≡ d → on_of s ≡ d
way e h = sym (ap on_of e) ∙ h

pub seen-facts-requires : goal.seen-facts-requires
seen-facts-requires c =
    let a = c.args in
    let p = c.requires.2 [] [] in
    ((kind_of a.options.kind, p.facts1), (kind_of a.options.kind, p.facts2))

pub looked_up-list-requires : goal.looked_up-list-requires
looked_up-list-requires c =
    let a = c.args in
    let q = c.requires in
    let p = q.2 [] [] in
    (p.formed2, p.inside2, sorted_way q.2 MatchInput (way c.in-MatchInput.is q.1), (kind_of a.options.kind, p.facts2))

pub count_and_walk-requires : goal.count_and_walk-requires
count_and_walk-requires c =
    let a = c.args in
    let q = c.requires in
    let v = c.plan_of-plan in
    let l = c.looked_up-list in
    let e = way c.in-MatchInput.is q.1 in
    let seen = c.seen-facts in
    let d = store_in a.heads.now a.states.now a.trs.now a.used in (
      planned q.2 MatchInput e q.0 l.ensures seen.ensures v.ensures,
      subst (Weighable d a.sure) (planned_steps q.2 MatchInput e q.0 l.ensures seen.ensures v.ensures q.3.0 q.3.1) q.3.2,
    )

pub returns-in-MatchInput : goal.returns-in-MatchInput
returns-in-MatchInput c =
    let a = c.args in
    let q = c.requires in
    let v = c.plan_of-plan in
    let l = c.looked_up-list in
    let e = way c.in-MatchInput.is q.1 in
    let seen = c.seen-facts in
    let d = store_in a.heads.now a.states.now a.trs.now a.used in
    let w = c.count_and_walk in
    let x = w.new in
    λ a1 a2. stored_by d a.used x.heads x.states x.trs w.result (sym (planned_steps q.2 MatchInput e q.0 l.ensures seen.ensures v.ensures a1 a2)) w.ensures

pub looked_up-list-requires-in-MatchOutput : goal.looked_up-list-requires-in-MatchOutput
looked_up-list-requires-in-MatchOutput c =
    let a = c.args in
    let q = c.requires in
    let p = q.2 [] [] in
    (p.formed1, p.inside1, sorted_way q.2 MatchOutput (way c.in-MatchOutput.is q.1), (kind_of a.options.kind, p.facts1))

pub count_and_walk-requires-in-MatchOutput : goal.count_and_walk-requires-in-MatchOutput
count_and_walk-requires-in-MatchOutput c =
    let a = c.args in
    let q = c.requires in
    let v = c.plan_of-plan-in-MatchOutput in
    let l = c.looked_up-list-in-MatchOutput in
    let e = way c.in-MatchOutput.is q.1 in
    let seen = c.seen-facts in
    let d = store_in a.heads.now a.states.now a.trs.now a.used in (
      planned q.2 MatchOutput e q.0 l.ensures seen.ensures v.ensures,
      subst (Weighable d a.sure) (planned_steps q.2 MatchOutput e q.0 l.ensures seen.ensures v.ensures q.3.0 q.3.1) q.3.2,
    )

pub returns-in-MatchOutput : goal.returns-in-MatchOutput
returns-in-MatchOutput c =
    let a = c.args in
    let q = c.requires in
    let v = c.plan_of-plan-in-MatchOutput in
    let l = c.looked_up-list-in-MatchOutput in
    let e = way c.in-MatchOutput.is q.1 in
    let seen = c.seen-facts in
    let d = store_in a.heads.now a.states.now a.trs.now a.used in
    let w = c.count_and_walk-in-MatchOutput in
    let x = w.new in
    λ a1 a2. stored_by d a.used x.heads x.states x.trs w.result (sym (planned_steps q.2 MatchOutput e q.0 l.ensures seen.ensures v.ensures a1 a2)) w.ensures
