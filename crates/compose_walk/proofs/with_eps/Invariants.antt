-- As many epsilons are left as are to come, and what is left leaves what all of it does.
use mathlib.Core.Path.{◌≡◌}
use Rattle.std.specs.Prelude.{Some}
use Prim.Native.Nat.{◌+◌}
use lib.ListN.{length}
use Rattle.words.specs.Labels.{eps_label}
use Rattle.words.specs.Weights.{kind_of}
use Rattle.fst.specs.Meaning.{on_of, tr_means}
use Rattle.matchers.specs.Cursors.{with_label}
use Rattle.store_records.specs.Meaning.{store_in}
use Rattle.compose_walk.specs.Plans.{with_records}
use Rattle.compose_walk.proofs.Turns.{Stands}
use Rattle.compose_walk.proofs.with_eps.Given as goal

abbrev pub invariant-loop : goal.invariant-loop
invariant-loop l = record {
  left : l.counter + length (with_label (on_of l.on) l.mm eps_label l.u) ≡ l.count;
  stands :
      Stands (on_of l.on) (kind_of l.kind) l.mm (tr_means l.edge) l.fs eps_label (store_in l.fn.heads l.fn.states l.fn.trs l.fn.used)
      (with_records (on_of l.on) (kind_of l.kind) l.mm (tr_means l.edge) (Some l.fs) (with_label (on_of l.on) l.mm eps_label l.first))
      (store_in l.heads l.states l.trs l.grown) l.u;
}
