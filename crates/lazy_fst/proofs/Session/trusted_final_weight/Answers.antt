-- 9, then the final weight of the state's triple.
use mathlib.Core.Path.{◌∙◌}
use Rattle.store_records.specs.Meaning.{memory_of}
use Rattle.lazy_fst.specs.Meaning.{lent_with, session_means}
use Rattle.lazy_fst.proofs.CallLaws.{known, found_weight}
use Rattle.lazy_fst.proofs.Session.trusted_final_weight.Goals as goal

pub returns : goal.returns
returns c =
    let x = c.args in
    let l = lent_with x.m1.now x.m2.now x.allowed1.now x.allowed2.now x.ignored.now x.listed in
    let m = memory_of x.heads.now x.states.now x.trs.now in
    let e = known l x.self m c.side_of.result c.requires c.side_of.ensures in
    let w = rw c.options_with-options.ensures at (c.final_of.ensures x.allowed1.now x.allowed2.now x.ignored.now x.heads.now x.trs.now) in
    w ∙ found_weight l (session_means x.self) m x.n.0 _ e c.if-self-n.false
