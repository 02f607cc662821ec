-- The cursor's steps are those of the state, and the checks 1 to 8 make their weighing exact.
use mathlib.Core.Path.{sym, ◌∙◌, ap}
use Rattle.std.proofs.lemmas.Result.{err_from_is_err_and}
use Rattle.words.specs.Steps.{steps_at}
use Rattle.fst.specs.Refusals.{number_of}
use Rattle.compose_fst_op.specs.Composing.{lent_of, composing}
use Rattle.compose_moves.specs.Cursors.{steps_left}
use Rattle.store_records.specs.Meaning.{memory_of}
use Rattle.compose_store.specs.Meaning.{session_under}
use Rattle.compose_store.proofs.ExpandLaws.{start_refused, ready}
use Rattle.compose_store.proofs.expand_weighed.Goals as goal

pub expand_from-requires : goal.expand_from-requires
expand_from-requires c =
    let a = c.args in
    let o = composing a.options a.m1.now a.m2.now a.a1.now a.a2.now a.ignored.now in
    let same = c.in_ok-start.ensures.by_index a.a1.now a.a2.now ∙ ap (steps_at o) c.get_tuple.ensures in
    let p = c.requires in
    let L = lent_of a.options a.m1.now a.m2.now a.a1.now a.a2.now a.ignored.now in
    ready L (session_under a.options a.used) (memory_of a.heads.now a.states.now a.trs.now) o a.n.0 (steps_left a.options L c.in_ok-start.start) p.0 p.1 same

pub returns-in_err-start : goal.returns-in_err-start
returns-in_err-start c =
    let a = c.args in
    let o = composing a.options a.m1.now a.m2.now a.a1.now a.a2.now a.ignored.now in
    let same = c.in_err-start.ensures.by_index a.a1.now a.a2.now ∙ ap (steps_at o) c.get_tuple.ensures in
    let r = err_from_is_err_and c.from_residual.result c.from_residual.ensures.1 in
    rw (r.1, r.2) (sym (start_refused o (session_under a.options a.used) (memory_of a.heads.now a.states.now a.trs.now) a.n.0 (number_of c.in_err-start.field-0.0) same))
