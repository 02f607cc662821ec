-- The word at its place.
use Rattle.calls.specs.Store.{next_with}
use Rattle.store_records.proofs.state_records.next_of.Goals as goal

pub returns : goal.returns
unfolding next_with
returns c = c.state_word.ensures
