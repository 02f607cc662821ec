-- The word at its place.
use Rattle.words.specs.Machines.{tr_count}
use Rattle.fst.proofs.fst_traits.num_records.Goals as goal

pub returns : goal.returns
unfolding tr_count
returns c = c.word.ensures
