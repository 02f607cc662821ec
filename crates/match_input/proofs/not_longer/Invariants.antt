-- The lists from the two places compare as the whole lists do; a turn takes one record off each.
use Prim.Native.Nat.{◌≤◌}
use mathlib.Core.Path.{◌≡◌}
use lib.Dec.{leb}
use lib.ListN.{length}
use Rattle.words.specs.Machines.{tr_count, list_from}
use Rattle.match_input.proofs.not_longer.Given as goal

abbrev pub invariant-loop-t1 : goal.invariant-loop-t1
invariant-loop-t1 l =
    (l.t1 ≤ tr_count l.m1)
    × (l.t2 ≤ tr_count l.m2)
    × (leb (length (list_from l.m1 l.t1)) (length (list_from l.m2 l.t2)) ≡ leb (length (list_from l.m1 l.initial.t1)) (length (list_from l.m2 l.initial.t2)))

abbrev pub decreases-loop-t1 : goal.decreases-loop-t1
decreases-loop-t1 l = length (list_from l.m1 l.t1)
