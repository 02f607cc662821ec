-- What is left of the walked list leaves what all of it does.
use mathlib.Core.Path.{◌≡◌}
use Prim.Native.Nat.{◌≤◌}
use lib.ListN.{length}
use Rattle.words.specs.Machines.{tr_count, list_from}
use Rattle.store_records.specs.Meaning.{store_in}
use Rattle.stored_steps.specs.Storing.{store_all, Fits}
use Rattle.stored_steps.specs.Chains.{Chained}
use Rattle.compose_walk.specs.Plans.{edges_by}
use Rattle.compose_walk.proofs.walk_list.Given as goal

abbrev pub invariant-loop-t : goal.invariant-loop-t
invariant-loop-t l = record {
  inside : l.t ≤ tr_count l.mw;
  fits : Fits (store_in l.heads l.states l.trs l.grown) (edges_by l.plan l.mw l.mm l.t);
  same : store_all (store_in l.heads l.states l.trs l.grown) (edges_by l.plan l.mw l.mm l.t) ≡ store_all (store_in l.initial.heads l.initial.states l.initial.trs l.initial.grown) (edges_by l.plan l.mw l.mm l.initial.t);
  chained : Chained (store_in l.heads l.states l.trs l.grown);
}

abbrev pub decreases-loop-t : goal.decreases-loop-t
decreases-loop-t l = length (list_from l.mw l.t)
