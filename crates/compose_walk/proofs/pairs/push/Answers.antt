-- The state is placed, and the transition is written with its number.
use mathlib.Core.Path.{◌∙◌}
use native.Mathlib.Omega.{arith}
use Rattle.calls.specs.Store.{tr_size, chain_with, find_with, state_room_with, tr_room_with}
use Rattle.calls.proofs.RecordLaws.{room_words}
use Rattle.compose_state_tuple.specs.Meaning.{tuple_means}
use Rattle.store_records.specs.Meaning.{store_in}
use Rattle.state_table.specs.Meaning.{reached_means}
use Rattle.compose_moves.specs.Moves.{compose_tr_means}
use Rattle.compose_walk.proofs.Stores.{one_is}
use Rattle.compose_walk.proofs.pairs.push.Goals as goal

-- transitions play no part in finding a state
pub place-reached-requires : goal.place-reached-requires
unfolding find_with chain_with state_room_with
place-reached-requires c =
    let p = c.requires in
    λ trs k. (record { fit = p.1.fit; head = p.1.head; next = p.1.next }, λ e. p.0.state e)

pub overflow_add-used : goal.overflow_add-used
unfolding tr_room_with
overflow_add-used c = let r = c.requires.0.tr in omega (arith, r, (room_words tr_size c.args.trs.now _ r).0)

pub push_tr-requires : goal.push_tr-requires
unfolding tr_room_with
push_tr-requires c = c.requires.0.tr

pub overflow_add-result : goal.overflow_add-result
unfolding tr_room_with
overflow_add-result c = let r = c.requires.0.tr in omega (arith, r, (room_words tr_size c.args.trs.now _ r).0)

pub returns : goal.returns
returns c =
    let a = c.args in
    let r = c.place-reached in
    c.push_tr.ensures r.new.heads r.new.states r.result.used (tuple_means a.tr.tuple)
    ∙ one_is (store_in a.heads.now a.states.now a.trs.now a.used) (compose_tr_means a.tr) (reached_means r.new.heads r.new.states a.trs.now a.used.trs r.result) (r.ensures a.trs.now a.used.trs)
