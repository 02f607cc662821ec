use mathlib.Core.Path.{◌≡◌}
use lib.ListN.{length}
use Rattle.lists.specs.Lists.{keep_if, interval}
use Rattle.trim_passes.specs.Passes.{is_alive, numbered_up_to}
use Rattle.trim_passes.proofs.numbers.number_states.Given as goal

abbrev pub invariant-loop-n : goal.invariant-loop-n
invariant-loop-n l = (l.kept ≡ length (keep_if (is_alive l.initial.work) (interval 0 l.n))) × (l.work ≡ numbered_up_to l.initial.work l.n)
