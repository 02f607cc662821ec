-- What was counted, with the length of the list from here on, is the whole length; that length is the measure.
use Prim.Native.Nat.{◌+◌, ◌≤◌}
use mathlib.Core.Path.{◌≡◌}
use lib.ListN.{length}
use Rattle.words.specs.Machines.{tr_count, list_from}
use Rattle.fst.proofs.fst_traits.num_trs.Given as goal

abbrev pub invariant-loop-t : goal.invariant-loop-t
invariant-loop-t l = (l.t ≤ tr_count l.m) × (l.n + length (list_from l.m l.t) ≡ length (list_from l.m l.initial.t))

abbrev pub decreases-loop-t : goal.decreases-loop-t
decreases-loop-t l = length (list_from l.m l.t)
