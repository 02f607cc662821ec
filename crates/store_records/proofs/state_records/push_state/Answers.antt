-- What was written into the lent tail is written into the whole.
use Prim.Native.Nat.{◌*◌}
use native.Mathlib.Omega.{arith}
use Rattle.lists.proofs.Put.{put_back}
use Rattle.calls.proofs.RecordLaws.{room_words}
use Rattle.calls.specs.Store.{state_size, state_record}
use Rattle.compose_state_tuple.specs.Meaning.{tuple_means}
use Rattle.store_records.proofs.state_records.push_state.Goals as goal

pub slice_bounds-write_state-start : goal.slice_bounds-write_state-start
slice_bounds-write_state-start c = let r = room_words _ _ _ c.requires in omega (arith, r.1)

pub slice_bounds-write_state-count : goal.slice_bounds-write_state-count
slice_bounds-write_state-count c = let r = room_words _ _ _ c.requires in omega (arith, r.1)

pub write_state-requires : goal.write_state-requires
write_state-requires c = let r = room_words _ _ _ c.requires in omega (arith, r.1)

pub returns : goal.returns
returns c =
    let a = c.args in
    let r = room_words _ _ _ c.requires in
    put_back (state_size * a.used) a.states.now c.write_state.new.tail (state_record (tuple_means a.tuple) a.next) c.write_state.ensures (omega (arith, r.1))
