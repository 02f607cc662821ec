-- What is left of the list from here on gives what the whole list gives; at an exit the record in hand fails. The list is that of the words as they are read, whose links are
-- those of the words as lent.
use Prim.Native.Nat.{◌≤◌}
use mathlib.Core.Path.{◌≡◌}
use mathlib.Core.Bool.{true}
use lib.ListN.{length}
use Rattle.lists.specs.Lists.{every}
use Rattle.words.specs.Machines.{tr_count, list_from}
use Rattle.fst.specs.Meaning.{on_of, words_as_read}
use Rattle.compose_filters.specs.Meaning.{wanted_eps}
use Rattle.compose_filters.proofs.epsilons_are.Given as goal

abbrev pub invariant-list : goal.invariant-list
invariant-list l =
    let w = words_as_read l.m in
    (l.ok ≡ true) × (l.t ≤ tr_count w) × (every (wanted_eps l.wanted (on_of l.m.on) w) (list_from w l.t) ≡ every (wanted_eps l.wanted (on_of l.m.on) w) (list_from w l.initial.t))

abbrev pub decreases-list : goal.decreases-list
decreases-list l = length (list_from (words_as_read l.m) l.t)
