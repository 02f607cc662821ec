-- The eights that are left, and the rest, have the label where the whole list has it.
use Rattle.std.specs.Prelude.{◌≡◌, ◌||◌}
use Rattle.std.specs.List.{list_any}
use lib.ListN.{drop}
use Rattle.words.specs.Sigmas.{has}
use Rattle.fst.proofs.ignored.at_once.Given as goal

abbrev pub invariant-loop-eight : goal.invariant-loop-eight
invariant-loop-eight l = list_any (has l.label.0) (drop l.eight-index l.eights) || has l.label.0 l.rest ≡ has l.label.0 l.list
