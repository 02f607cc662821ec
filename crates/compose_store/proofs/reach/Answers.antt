-- The state found; or the table has a record for a new one, and it is added.
use mathlib.Core.Path.{sym, ◌∙◌, ap}
use mathlib.Core.List.{[]}
use native.Mathlib.Omega.{arith}
use Rattle.words.specs.Labels.{good}
use Rattle.calls.specs.Store.{Store, state_size, state_room_with}
use Rattle.calls.proofs.RecordLaws.{room_words}
use Rattle.compose_state_tuple.specs.Meaning.{tuple_means}
use Rattle.store_records.specs.Meaning.{stored}
use Rattle.stored_steps.proofs.OneStep.{new_room}
use Rattle.compose_store.proofs.StoreLaws.{reach_found, reach_new}
use Rattle.compose_store.proofs.reach.Goals as goal

pub add_state-requires : goal.add_state-requires
unfolding state_room_with
add_state-requires c =
    let p = c.requires in
    let a = c.args in
    new_room (stored a.heads.now a.states.now [] a.used 0) (tuple_means a.tuple) (sym (rw c.in_default.is at (c.find_id.ensures [] 0))) (p [] 0)

pub overflow_add-result : goal.overflow_add-result
unfolding state_room_with
overflow_add-result c =
    let p = c.requires in
    let a = c.args in
    let r = new_room (stored a.heads.now a.states.now [] a.used 0) (tuple_means a.tuple) (sym (rw c.in_default.is at (c.find_id.ensures [] 0))) (p [] 0) in
    omega (arith, r, (room_words state_size a.states.now _ r).0)

pub returns-in-Some : goal.returns-in-Some
returns-in-Some c =
    let a = c.args in
    λ trs k. sym (reach_found (stored a.heads.now a.states.now trs a.used k) (tuple_means a.tuple) _ (sym (c.in-Some.ensures trs k)))

pub returns : goal.returns
returns c =
    let p = c.requires in
    let a = c.args in
    λ trs k.
    let lacks = sym (rw c.in_default.is at (c.find_id.ensures trs k)) in
    let d = stored a.heads.now a.states.now trs a.used k in
    ap (λ (e : Store). good (record { store = e; state = a.used })) (c.add_state.ensures trs k) ∙ sym (reach_new d (tuple_means a.tuple) lacks (new_room d (tuple_means a.tuple) lacks (p trs k)))
