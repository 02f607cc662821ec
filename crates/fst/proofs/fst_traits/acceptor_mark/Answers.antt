-- The word at its place.
use Rattle.words.specs.Machines.{acceptor_mark}
use Rattle.fst.proofs.fst_traits.acceptor_mark.Goals as goal

pub returns : goal.returns
unfolding acceptor_mark
returns c = c.word.ensures
