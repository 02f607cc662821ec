-- Word by word.
use Rattle.calls.specs.Store.{triple_at}
use Rattle.store_records.proofs.state_records.get_tuple.Goals as goal

pub returns : goal.returns
unfolding triple_at
returns c = rw (c.state_word.ensures, c.state_word-2.ensures, c.state_word-3.ensures)
