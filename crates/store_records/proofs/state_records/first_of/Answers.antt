-- The word at its place.
use Rattle.calls.specs.Store.{first_with}
use Rattle.store_records.proofs.state_records.first_of.Goals as goal

pub returns : goal.returns
unfolding first_with
returns c = c.state_word.ensures
