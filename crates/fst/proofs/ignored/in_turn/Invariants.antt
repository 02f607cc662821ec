-- What is left of the list has the label where the whole has it.
use mathlib.Core.Path.{◌≡◌}
use lib.ListN.{drop}
use Rattle.words.specs.Sigmas.{has}
use Rattle.fst.proofs.ignored.in_turn.Given as goal

abbrev pub invariant-loop-x : goal.invariant-loop-x
invariant-loop-x l = has l.label.0 (drop l.x-index l.list) ≡ has l.label.0 l.list
