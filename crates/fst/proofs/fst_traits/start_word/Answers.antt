-- The word at its place.
use Rattle.words.specs.Machines.{start_word}
use Rattle.fst.proofs.fst_traits.start_word.Goals as goal

pub returns : goal.returns
unfolding start_word
returns c = c.word.ensures
