-- Checks 1 to 8; then the call that does not check.
use Rattle.store_records.specs.Meaning.{memory_of}
use Rattle.lazy_fst.specs.Meaning.{lent_with}
use Rattle.lazy_fst.proofs.CallLaws.{passes_by}
use Rattle.lazy_fst.proofs.Session.records.Goals as goal

pub trusted_records-requires : goal.trusted_records-requires
trusted_records-requires c =
    let x = c.args in
    let l = lent_with x.m1.now x.m2.now x.allowed1.now x.allowed2.now x.ignored.now x.listed in
    let m = memory_of x.heads.now x.states.now x.trs.now in
    passes_by l x.self m _ (c.in-Ok.ensures l.allowed1 l.allowed2)
