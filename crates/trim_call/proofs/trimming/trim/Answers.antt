-- Checks 1 to 8; then the call that does not check.
use mathlib.Core.Path.{sym}
use Rattle.store_records.specs.Meaning.{memory_of}
use Rattle.lazy_fst.specs.Meaning.{lent_with, session_means}
use Rattle.lazy_fst.proofs.CallLaws.{passes_by}
use Rattle.trim_call.proofs.TrimLaws.{stopped}
use Rattle.trim_call.proofs.trimming.trim.Goals as goal

pub trusted_trim-requires : goal.trusted_trim-requires
trusted_trim-requires c =
    let a = c.args in
    let l = lent_with a.m1.now a.m2.now a.allowed1.now a.allowed2.now a.ignored.now a.listed in
    let m = memory_of a.heads.now a.states.now a.trs.now in
    passes_by l a.session m _ (c.in-Ok.ensures l.allowed1 l.allowed2)

pub returns-in-Err-clause-work_after : goal.returns-in-Err-clause-work_after
returns-in-Err-clause-work_after c =
    let a = c.args in
    let l = lent_with a.m1.now a.m2.now a.allowed1.now a.allowed2.now a.ignored.now a.listed in
    let m = memory_of a.heads.now a.states.now a.trs.now in
    stopped l (session_means a.session) m _ _ _ (sym (c.in-Err.ensures l.allowed1 l.allowed2))
