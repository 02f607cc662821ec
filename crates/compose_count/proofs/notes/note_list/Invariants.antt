-- What is left of the walked list leaves what all of it does.
use mathlib.Core.Path.{◌≡◌}
use mathlib.Core.List.{List}
use Prim.Native.Nat.{ℕ, ◌≤◌}
use lib.ListN.{length}
use Rattle.words.specs.Machines.{tr_count, list_from}
use Rattle.stored_steps.specs.Storing.{AllGood}
use Rattle.compose_walk.specs.Plans.{edges_by}
use Rattle.compose_count.specs.Notes.{notes_means, note_all}
use Rattle.compose_count.proofs.NoteLaws.{wanted_in}
use Rattle.compose_count.proofs.notes.note_list.Given as goal

abbrev pub invariant-loop-t : goal.invariant-loop-t
invariant-loop-t l = record {
  inside : l.t ≤ tr_count l.mw;
  good : AllGood (edges_by l.c.plan l.mw l.mm l.t);
  left : (trs : List ℕ) →
      let P = wanted_in l.heads l.states l.c trs in
      note_all P (notes_means l.chains l.records l.noted) (edges_by l.c.plan l.mw l.mm l.t) ≡ note_all P (notes_means l.initial.chains l.initial.records l.initial.noted) (edges_by l.c.plan l.mw l.mm l.initial.t);
}

abbrev pub decreases-loop-t : goal.decreases-loop-t
decreases-loop-t l = length (list_from l.mw l.t)
