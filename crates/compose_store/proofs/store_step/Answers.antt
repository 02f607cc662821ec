-- An accepted step has its records: the target is reached, and the transition is written with its number.
use mathlib.Core.Path.{sym, ◌∙◌, ap}
use native.Mathlib.Omega.{arith}
use Rattle.words.specs.Labels.{good}
use Rattle.calls.specs.Store.{tr_size, append, tr_room_with}
use Rattle.calls.specs.Calls.{next_for}
use Rattle.calls.proofs.RecordLaws.{room_words}
use Rattle.compose_state_tuple.specs.Meaning.{tuple_means}
use Rattle.store_records.specs.Meaning.{stored}
use Rattle.state_table.specs.Meaning.{reached_means}
use Rattle.compose_moves.specs.Moves.{compose_tr_means}
use Rattle.stored_steps.proofs.OneStep.{step_room}
use Rattle.compose_store.proofs.StoreLaws.{reach_any, step_is}
use Rattle.compose_store.proofs.store_step.Goals as goal

pub link-next-requires : goal.link-next-requires
unfolding tr_room_with
link-next-requires c =
    let a = c.args in
    let d = stored a.heads.now a.states.now a.trs.now a.used.states a.used.trs in
    let r = (step_room d (next_for d a.follows) (compose_tr_means a.tr) c.requires).0 in
    omega (arith, r, (room_words tr_size a.trs.now _ r).0)

pub reach-reached-requires : goal.reach-reached-requires
reach-reached-requires c =
    let a = c.args in
    let p = c.requires in
    let d = stored a.heads.now a.states.now a.trs.now a.used.states a.used.trs in
    let r = (step_room d (next_for d a.follows) (compose_tr_means a.tr) p).1 in
    λ trs k. reach_any a.heads.now a.states.now a.used.states (tuple_means a.tr.tuple) a.trs.now trs a.used.trs k r

pub push_tr-requires : goal.push_tr-requires
unfolding tr_room_with
push_tr-requires c =
    let a = c.args in
    let d = stored a.heads.now a.states.now a.trs.now a.used.states a.used.trs in
    (step_room d (next_for d a.follows) (compose_tr_means a.tr) c.requires).0

pub overflow_add-result : goal.overflow_add-result
unfolding tr_room_with
overflow_add-result c =
    let a = c.args in
    let d = stored a.heads.now a.states.now a.trs.now a.used.states a.used.trs in
    let r = (step_room d (next_for d a.follows) (compose_tr_means a.tr) c.requires).0 in
    omega (arith, r, (room_words tr_size a.trs.now _ r).0)

pub returns : goal.returns
returns c =
    let a = c.args in
    let r = c.reach-reached in
    let d = stored a.heads.now a.states.now a.trs.now a.used.states a.used.trs in
    let e = stored r.new.heads r.new.states a.trs.now r.result.used a.used.trs in
    let room = (step_room d (next_for d a.follows) (compose_tr_means a.tr) c.requires).0 in
    ap good (c.push_tr.ensures r.new.heads r.new.states r.result.used (tuple_means a.tr.tuple))
    ∙ ap (λ next. good (append e (compose_tr_means a.tr) r.result.state.0 next)) (c.link-next.ensures a.heads.now a.states.now a.trs.now a.used.states)
    ∙ sym (step_is d (next_for d a.follows) (compose_tr_means a.tr) (reached_means r.new.heads r.new.states a.trs.now a.used.trs r.result) room (r.ensures a.trs.now a.used.trs))
