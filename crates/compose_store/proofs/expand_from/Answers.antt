-- A refusal of the weighing is the expansion's; a clear one lets the steps be stored, and the state is marked.
use mathlib.Core.Path.{sym, ◌∙◌, ap}
use Rattle.std.proofs.lemmas.Result.{err_from_is_err_and}
use Rattle.calls.specs.Calls.{store_steps}
use Rattle.calls.proofs.StepsStay.{steps_stay}
use Rattle.fst.specs.Refusals.{number_of}
use Rattle.store_records.specs.Meaning.{stored, memory_of}
use Rattle.tr_lists.specs.Meaning.{part_means}
use Rattle.compose_fst_op.specs.Composing.{lent_of}
use Rattle.compose_moves.specs.Cursors.{steps_left}
use Rattle.compose_weigh.specs.Weigh.{weigh_of}
use Rattle.compose_store.specs.Meaning.{session_under}
use Rattle.compose_store.proofs.ExpandLaws.{refused_same, expanded_new, expanded_refused}
use Rattle.compose_store.proofs.expand_from.Goals as goal

pub new_part-part-requires : goal.new_part-part-requires
new_part-part-requires c =
    let a = c.args in
    let d = stored a.heads.now a.states.now a.trs.now a.used.states a.used.trs in
    let l = steps_left a.options (lent_of a.options a.m1.now a.m2.now a.a1.now a.a2.now a.ignored.now) a.start in
    let w = c.store_steps-after in
    let x = w.new in
    (steps_stay d l (stored x.heads x.states x.trs w.result.states w.result.trs) (sym w.ensures)).trs

pub returns-in_err-weigh : goal.returns-in_err-weigh
returns-in_err-weigh c =
    let a = c.args in
    let p = c.requires in
    let d = stored a.heads.now a.states.now a.trs.now a.used.states a.used.trs in
    let l = steps_left a.options (lent_of a.options a.m1.now a.m2.now a.a1.now a.a2.now a.ignored.now) a.start in
    let r = err_from_is_err_and c.from_residual.result c.from_residual.ensures.1 in
    λ o e. rw (r.1, r.2) (sym (expanded_refused o (session_under a.options a.used) (memory_of a.heads.now a.states.now a.trs.now) a.n.0 (number_of c.in_err-weigh.field-0.0)
    (ap (store_steps d) e ∙ refused_same (store_steps d l) (number_of c.in_err-weigh.field-0.0) (◌∙◌ {b = weigh_of d l} c.in_err-weigh.ensures p))))

pub returns : goal.returns
returns c =
    let a = c.args in
    let d = stored a.heads.now a.states.now a.trs.now a.used.states a.used.trs in
    let w = c.store_steps-after in
    let x = w.new in
    let v = c.mark_expanded in
    λ o e. sym (expanded_new o (session_under a.options a.used) (memory_of a.heads.now a.states.now a.trs.now) a.n.0
    (stored x.heads x.states x.trs w.result.states w.result.trs) (stored x.heads v.new.states x.trs w.result.states w.result.trs)
    (part_means c.new_part-part.result)
    (ap (store_steps d) e ∙ sym w.ensures) (c.new_part-part.ensures a.used.states w.result.states) (v.ensures x.heads x.trs w.result.states w.result.trs))
