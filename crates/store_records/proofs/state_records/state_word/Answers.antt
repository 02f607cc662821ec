-- The word at its place.
use Rattle.calls.specs.Store.{field_of}
use Rattle.store_records.proofs.state_records.state_word.Goals as goal

pub returns : goal.returns
unfolding field_of
returns c = c.word.ensures
