-- What is left from here on has the same first record with the label.
use mathlib.Core.Path.{◌≡◌}
use mathlib.Core.Bool.{true}
use Prim.Native.Nat.{◌≤◌}
use lib.ListN.{length}
use Rattle.words.specs.Machines.{tr_count, list_from}
use Rattle.fst.specs.Meaning.{on_of}
use Rattle.matchers.specs.Cursors.{with_label, head0}
use Rattle.sorted_lists.specs.Runs.{rising}
use Rattle.sorted_lists.proofs.scan.Given as goal

abbrev pub invariant-loop-u : goal.invariant-loop-u
invariant-loop-u l =
    let on = on_of l.l.on in
    (l.u ≤ tr_count l.m) × (rising on l.m 0 l.u ≡ true) × (head0 (with_label on l.m l.x.0 l.u) ≡ head0 (with_label on l.m l.x.0 l.l.first))

abbrev pub decreases-loop-u : goal.decreases-loop-u
decreases-loop-u l = length (list_from l.m l.u)
