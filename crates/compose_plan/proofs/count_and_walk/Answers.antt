-- Where room is sure the steps fit; else the weighing tells.
use mathlib.Core.Path.{refl}
use Rattle.store_records.specs.Meaning.{store_in}
use Rattle.compose_walk.specs.Plans.{plan_steps}
use Rattle.compose_plan.proofs.Verdicts.{clear_fits, lacks_refused}
use Rattle.compose_plan.proofs.count_and_walk.Goals as goal

pub walk_list-requires : goal.walk_list-requires
walk_list-requires c =
    let p = c.requires in
    (p.0, p.1.fit c.if-sure.true, p.1.chained)

pub returns-then-sure : goal.returns-then-sure
returns-then-sure c = (c.walk_list.ensures, c.requires.1.fit c.if-sure.true)

pub walk_list-requires-in-Suffices : goal.walk_list-requires-in-Suffices
walk_list-requires-in-Suffices c =
    let a = c.args in
    let p = c.requires in
    (p.0, clear_fits (store_in a.heads.now a.states.now a.trs.now a.used) (plan_steps a.plan a.mw.now a.mm.now) p.1.exact (rw c.in-Suffices.is at c.weigh_plain.ensures), p.1.chained)

pub returns-in-Suffices : goal.returns-in-Suffices
returns-in-Suffices c =
    let a = c.args in
    let p = c.requires in
    (c.walk_list-in-Suffices.ensures, clear_fits (store_in a.heads.now a.states.now a.trs.now a.used) (plan_steps a.plan a.mw.now a.mm.now) p.1.exact (rw c.in-Suffices.is at c.weigh_plain.ensures))

pub returns-in-Lacks : goal.returns-in-Lacks
returns-in-Lacks c =
    let a = c.args in
    let p = c.requires in
    (refl, refl, lacks_refused (store_in a.heads.now a.states.now a.trs.now a.used) (plan_steps a.plan a.mw.now a.mm.now) p.1.exact (rw c.in-Lacks.is at c.weigh_plain.ensures))
