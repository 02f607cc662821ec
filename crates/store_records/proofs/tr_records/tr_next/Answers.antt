-- The word at its place.
use Rattle.calls.specs.Store.{tr_next_at, field_of}
use Rattle.store_records.proofs.tr_records.tr_next.Goals as goal

pub returns : goal.returns
unfolding tr_next_at field_of
returns c = c.word.ensures
