-- Both counts are compared with the records that are left.
use native.Mathlib.Omega.{arith}
use lib.ListN.{length}
use Rattle.calls.specs.Store.{tr_room_with, state_room_with}
use Rattle.store_records.specs.Meaning.{store_in}
use Rattle.compose_walk.specs.Plans.{plan_steps}
use Rattle.compose_count.proofs.RoomLaws.{room_told, room_lacks_trs, few_steps}
use Rattle.compose_count.proofs.weigh_plain.Goals as goal

pub returns-then-spare-noted : goal.returns-then-spare-noted
unfolding tr_room_with
returns-then-spare-noted c =
    let a = c.args in
    let m = (c.count_class-noted.ensures a.trs.now).2 in
    let r = c.tr_room.ensures in
    let s = c.spare.ensures in
    let l = c.if-spare-noted.true in
    room_lacks_trs (store_in a.heads.now a.states.now a.trs.now a.used) (plan_steps a.plan a.mw.now a.mm.now) c.requires.1 (omega (arith, m, r, s, l))

pub count_all-requires : goal.count_all-requires
count_all-requires c =
    let a = c.args in
    let n = c.count_class-noted.ensures in
    let m = (n a.trs.now).2 in
    let r = c.tr_room.ensures in
    let s = c.spare.ensures in
    let l = c.if-spare-noted.false in
    let steps = plan_steps a.plan a.mw.now a.mm.now in
    (c.requires.0, c.requires.1, (few_steps a.trs.now a.used.trs (length steps) _ _ _ m r s l).1, λ trs. ((n trs).0, (n trs).1))

pub returns : goal.returns
unfolding tr_room_with state_room_with
returns c =
    let a = c.args in
    let m = (c.count_class-noted.ensures a.trs.now).2 in
    let r = c.tr_room.ensures in
    let s = c.spare.ensures in
    let l = c.if-spare-noted.false in
    let steps = plan_steps a.plan a.mw.now a.mm.now in
    let few = (few_steps a.trs.now a.used.trs (length steps) _ _ _ m r s l).0 in
    room_told (store_in a.heads.now a.states.now a.trs.now a.used) steps c.requires.1 few _ _ c.state_room.ensures c.spare-left.ensures c.count_all.result (c.count_all.ensures a.trs.now)
