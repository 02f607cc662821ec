-- The word at its place.
use Rattle.calls.specs.Store.{expanded_with}
use Rattle.store_records.proofs.state_records.expanded_word.Goals as goal

pub returns : goal.returns
unfolding expanded_with
returns c = c.state_word.ensures
