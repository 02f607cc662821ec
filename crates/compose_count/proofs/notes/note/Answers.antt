-- The set is what `take` leaves, and the rest is kept beside it.
use mathlib.Core.Path.{refl}
use Rattle.compose_state_tuple.specs.Meaning.{tuple_means}
use Rattle.triple_set.specs.Sets.{taken_means}
use Rattle.compose_count.specs.Notes.{notes_means}
use Rattle.compose_count.proofs.NoteLaws.{wanted_in, noted_is}
use Rattle.compose_count.proofs.notes.note.Goals as goal

pub returns : goal.returns
returns c =
    let a = c.args in
    let x = c.take-taken in
    λ trs.
    noted_is (wanted_in a.heads.now a.states.now a.c trs) (notes_means a.chains.now a.records.now a.seen) (tuple_means a.tuple)
    c.wanted.result (taken_means x.result x.new.heads x.new.records) _ c.saturating_add.result
    (c.wanted.ensures trs) x.ensures refl c.saturating_add.ensures
