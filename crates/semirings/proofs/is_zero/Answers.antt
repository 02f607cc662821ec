-- The test of `is_zero`.
use Rattle.words.specs.Weights.{is_zero}
use Rattle.semirings.proofs.is_zero.Goals as goal

pub returns : goal.returns
unfolding is_zero
returns c = rw c.zero.ensures
