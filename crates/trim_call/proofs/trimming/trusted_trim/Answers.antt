use Prim.Native.Nat.{◌*◌}
use Rattle.store_records.specs.Meaning.{memory_of}
use Rattle.lazy_fst.specs.Meaning.{lent_with, session_means}
use Rattle.trim_call.proofs.TrimLaws.{short_work, long_work, part_cleared}
use Rattle.trim_call.proofs.trimming.trusted_trim.Goals as goal

pub returns-then-work-need-clause-work_after : goal.returns-then-work-need-clause-work_after
returns-then-work-need-clause-work_after c =
    let a = c.args in
    let l = lent_with a.m1.now a.m2.now a.allowed1.now a.allowed2.now a.ignored.now a.listed in
    let m = memory_of a.heads.now a.states.now a.trs.now in
    short_work l (session_means a.session) m c.requires.0 _ _ c.requires.1 c.if-work-need.true

pub returns-clause-work_after : goal.returns-clause-work_after
returns-clause-work_after c =
    let a = c.args in
    let l = lent_with a.m1.now a.m2.now a.allowed1.now a.allowed2.now a.ignored.now a.listed in
    let m = memory_of a.heads.now a.states.now a.trs.now in
    long_work l (session_means a.session) m c.requires.0 _ _ _ _ c.requires.1 c.if-work-need.false (part_cleared a.work.now _ (2 * a.session.used.states) c.trim_in.ensures.session.1) (c.trim_in.ensures.w_after c.requires.0 _ c.requires.1)
