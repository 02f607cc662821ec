-- The word at its place.
use Rattle.words.specs.Machines.{state_count}
use Rattle.fst.proofs.fst_traits.num_states.Goals as goal

pub returns : goal.returns
unfolding state_count
returns c = c.word.ensures
