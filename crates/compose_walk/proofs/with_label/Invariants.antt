-- What is left to store from the record in hand on leaves what all of it does.
use Rattle.std.specs.Prelude.{Some}
use lib.ListN.{length}
use Rattle.words.specs.Weights.{kind_of}
use Rattle.words.specs.Machines.{list_from}
use Rattle.fst.specs.Meaning.{on_of, tr_means}
use Rattle.matchers.specs.Cursors.{with_label}
use Rattle.store_records.specs.Meaning.{store_in}
use Rattle.compose_walk.specs.Plans.{with_records}
use Rattle.compose_walk.proofs.Turns.{Stands}
use Rattle.compose_walk.proofs.with_label.Given as goal

abbrev pub invariant-loop-u : goal.invariant-loop-u
invariant-loop-u l =
    Stands (on_of l.on) (kind_of l.kind) l.mm (tr_means l.edge) 0 l.x.0 (store_in l.fn.heads l.fn.states l.fn.trs l.fn.used)
    (with_records (on_of l.on) (kind_of l.kind) l.mm (tr_means l.edge) (Some 0) (with_label (on_of l.on) l.mm l.x.0 l.from))
    (store_in l.heads l.states l.trs l.grown) l.u

abbrev pub decreases-loop-u : goal.decreases-loop-u
decreases-loop-u l = length (list_from l.mm l.u)
