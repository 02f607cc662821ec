-- Whole records, up to the limit.
use Rattle.calls.specs.Store.{room_with}
use Rattle.store_records.proofs.tr_records.tr_room.Goals as goal

pub returns : goal.returns
unfolding room_with
returns c = c.least.ensures
