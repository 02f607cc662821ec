-- What is left from the record in hand on leaves what all of it does.
use lib.ListN.{length}
use Rattle.words.specs.Machines.{list_from}
use Rattle.compose_walk.specs.Plans.{side_by}
use Rattle.compose_count.specs.Notes.{notes_means}
use Rattle.compose_count.proofs.NoteLaws.{wanted_in, Stand}
use Rattle.compose_count.proofs.notes.note_records.Given as goal

abbrev pub invariant-loop-u : goal.invariant-loop-u
invariant-loop-u l =
    Stand (side_by l.c.plan) l.mm l.s.0 l.fs l.x.0 l.from (wanted_in l.heads l.states l.c) (notes_means l.fn.chains l.fn.records l.fn.seen)
    (notes_means l.chains l.records l.noted) l.u

abbrev pub decreases-loop-u : goal.decreases-loop-u
decreases-loop-u l = length (list_from l.mm l.u)
