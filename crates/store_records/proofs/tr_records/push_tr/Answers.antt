-- What was written into the lent tail is written into the whole.
use Prim.Native.Nat.{◌*◌}
use native.Mathlib.Omega.{arith}
use Rattle.lists.proofs.Put.{put_back}
use Rattle.calls.proofs.RecordLaws.{room_words}
use Rattle.calls.specs.Store.{tr_size, tr_record, append}
use Rattle.store_records.specs.Meaning.{step_means}
use Rattle.store_records.proofs.tr_records.push_tr.Goals as goal

pub slice_bounds-write_tr-start : goal.slice_bounds-write_tr-start
slice_bounds-write_tr-start c = let r = room_words _ _ _ c.requires in omega (arith, r.1)

pub slice_bounds-write_tr-count : goal.slice_bounds-write_tr-count
slice_bounds-write_tr-count c = let r = room_words _ _ _ c.requires in omega (arith, r.1)

pub write_tr-requires : goal.write_tr-requires
write_tr-requires c = let r = room_words _ _ _ c.requires in omega (arith, r.1)

pub returns : goal.returns
unfolding append
returns c =
    let a = c.args in
    let r = room_words _ _ _ c.requires in
    λ heads states n to. rw (put_back (tr_size * a.used) a.trs.now c.write_tr.new.tail (tr_record (step_means a.tr to) a.tr.nextstate.0 a.next) (c.write_tr.ensures to) (omega (arith, r.1)))
