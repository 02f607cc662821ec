-- The set begins empty, so it holds triples of the class, each once, and all of them where it was never full.
use Rattle.store_records.specs.Meaning.{store_in}
use Rattle.compose_walk.specs.Plans.{plan_steps}
use Rattle.compose_count.specs.Notes.{wanted_by}
use Rattle.compose_count.proofs.HeldLaws.{noted_told}
use Rattle.compose_count.proofs.count_class.Goals as goal

pub returns : goal.returns
returns c trs =
    let a = c.args in
    let P = wanted_by (store_in a.heads.now a.states.now trs a.c.used) a.c.classes a.c.class in
    let steps = plan_steps a.c.plan a.mw.now a.mm.now in
    noted_told P steps _ c.requires.2 (c.note_list.ensures trs)
