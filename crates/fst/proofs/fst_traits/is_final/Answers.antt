-- The word of finality, tested.
use Rattle.fst.proofs.fst_traits.is_final.Goals as goal

pub returns : goal.returns
returns c = rw c.state_word.ensures
