-- No epsilon in the list, or none kept: nothing is stored.
use mathlib.Core.Path.{sym, ◌∙◌}
use Rattle.store_records.specs.Meaning.{store_in}
use Rattle.compose_walk.specs.Plans.{rest_by}
use Rattle.compose_walk.proofs.Edges.{none_stored, no_length, no_records, no_pairs}
use Rattle.compose_walk.proofs.rest_moves.Goals as goal

pub returns-then-list-eq0 : goal.returns-then-list-eq0
returns-then-list-eq0 c =
    let a = c.args in
    let d = store_in a.heads.now a.states.now a.trs.now a.used in
    none_stored d (rest_by a.plan a.mm.now) (no_records _ _ _ _ _ _ (no_length _ (sym c.requires.0.eps ∙ c.if-list-eq0.true)))

pub returns-in-None : goal.returns-in-None
returns-in-None c =
    let a = c.args in
    let d = store_in a.heads.now a.states.now a.trs.now a.used in
    none_stored d (rest_by a.plan a.mm.now) (no_pairs _ _ _ _ _ _ c.in-None.is)
