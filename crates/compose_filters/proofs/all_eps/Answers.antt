-- All is what the loop finds where epsilon is wanted, if the state is not final.
use native.Mathlib.Omega.{arith}
use Rattle.words.specs.Filters.{all_at}
use Rattle.words.proofs.ReplacedLaws.{read_state}
use mathlib.Core.Bool.{and-false, and-true}
use Rattle.compose_filters.specs.Meaning.{wanted_eps, epsilons_are}
use Rattle.compose_filters.proofs.all_eps.Goals as goal

pub returns-else-not-is_final : goal.returns-else-not-is_final
unfolding all_at
returns-else-not-is_final c = rw (read_state _ _ _ _ 1 (omega arith), ← c.is_final.ensures, c.if-not-is_final.false, and-false)

pub returns-then-not-is_final : goal.returns-then-not-is_final
unfolding all_at epsilons_are wanted_eps
returns-then-not-is_final c = rw (read_state _ _ _ _ 1 (omega arith), ← c.is_final.ensures, c.if-not-is_final.true, and-true) c.epsilons_are.ensures
