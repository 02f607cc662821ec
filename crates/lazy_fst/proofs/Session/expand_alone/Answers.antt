-- 9, then the expansion with memos of its own.
use mathlib.Core.Path.{sym, ◌∙◌, ap}
use Rattle.store_records.specs.Meaning.{memory_of}
use Rattle.calls.specs.Checks.{Session}
use Rattle.calls.specs.Calls.{expand_of}
use Rattle.lazy_fst.specs.Meaning.{lent_with, options_of}
use Rattle.lazy_fst.proofs.CallLaws.{goes_known, goes_composing}
use Rattle.lazy_fst.proofs.Session.expand_alone.Goals as goal

pub expand_alone-expanded-requires : goal.expand_alone-expanded-requires
expand_alone-expanded-requires c =
    let x = c.args in
    let l = lent_with x.m1.now x.m2.now x.allowed1.now x.allowed2.now x.ignored.now x.listed in
    let m = memory_of x.heads.now x.states.now x.trs.now in
    let g = goes_known l x.self m x.listed c.side_of.result c.requires c.side_of.ensures in
    rw c.options_of-options.ensures (goes_composing x.m1.now x.m2.now x.allowed1.now x.allowed2.now x.ignored.now x.listed x.self m _ g, c.if-used-n.false)

pub returns : goal.returns
returns c =
    let x = c.args in
    let l = lent_with x.m1.now x.m2.now x.allowed1.now x.allowed2.now x.ignored.now x.listed in
    let m = memory_of x.heads.now x.states.now x.trs.now in
    let g = goes_known l x.self m x.listed c.side_of.result c.requires c.side_of.ensures in
    let done = rw c.options_of-options.ensures at c.expand_alone-expanded.ensures in
    c.part_answer.ensures (options_of x.self.settings x.listed c.side_of.result x.m1.now x.m2.now x.ignored.now) _ g.same ∙ (done ∙ ap (λ (s : Session). expand_of l s m x.n.0) (sym g.same))
