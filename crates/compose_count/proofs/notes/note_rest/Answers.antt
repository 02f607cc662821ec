-- Where it is kept, each epsilon with the rest; else nothing is noted.
use Rattle.compose_walk.specs.Plans.{rest_by}
use Rattle.compose_walk.proofs.Edges.{no_pairs}
use Rattle.compose_count.specs.Notes.{notes_means}
use Rattle.compose_count.proofs.NoteLaws.{wanted_in, note_none}
use Rattle.compose_count.proofs.notes.note_rest.Goals as goal

pub returns-in-None : goal.returns-in-None
returns-in-None c =
    let a = c.args in
    λ trs.
    note_none (wanted_in a.heads.now a.states.now a.c trs) (notes_means a.chains.now a.records.now a.seen) (rest_by a.c.plan a.mm.now)
    (no_pairs _ _ _ _ _ _ c.in-None.is)
