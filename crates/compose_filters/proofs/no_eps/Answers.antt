-- None is what the loop finds where epsilon is not wanted.
use Rattle.words.specs.Filters.{none_at}
use Rattle.compose_filters.specs.Meaning.{wanted_eps, epsilons_are}
use Rattle.compose_filters.proofs.no_eps.Goals as goal

pub returns : goal.returns
unfolding none_at epsilons_are wanted_eps
returns c = c.epsilons_are.ensures
