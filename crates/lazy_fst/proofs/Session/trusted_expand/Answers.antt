-- 9, then the expansion.
use mathlib.Core.Path.{sym, ◌∙◌, ap}
use Rattle.words.specs.Matches.{inputs, outputs}
use Rattle.store_records.specs.Meaning.{memory_of}
use Rattle.calls.specs.Checks.{Session}
use Rattle.calls.specs.Calls.{expand_of}
use Rattle.compose_run.specs.Memos.{memo_at}
use Rattle.lazy_fst.specs.Meaning.{lent_with, options_of}
use Rattle.lazy_fst.proofs.CallLaws.{goes_known, goes_composing}
use Rattle.lazy_fst.proofs.Session.trusted_expand.Goals as goal

pub expand_found-expanded-requires : goal.expand_found-expanded-requires
expand_found-expanded-requires c =
    let x = c.args in
    let l = lent_with x.m1.now x.m2.now x.allowed1.now x.allowed2.now x.ignored.now x.listed in
    let m = memory_of x.heads.now x.states.now x.trs.now in
    let p = c.requires in
    let g = goes_known l x.self m x.listed c.side_of.result p.0 c.side_of.ensures in
    rw c.options_of-options.ensures
    (goes_composing x.m1.now x.m2.now x.allowed1.now x.allowed2.now x.ignored.now x.listed x.self m _ g, c.if-used-n.false, p.1, p.2)

pub returns : goal.returns
returns c =
    let x = c.args in
    let l = lent_with x.m1.now x.m2.now x.allowed1.now x.allowed2.now x.ignored.now x.listed in
    let m = memory_of x.heads.now x.states.now x.trs.now in
    let g = goes_known l x.self m x.listed c.side_of.result c.requires.0 c.side_of.ensures in
    let e = c.options_of-options.ensures in
    let done = rw e at c.expand_found-expanded.ensures.result_after in
    let asked = rw e at c.expand_found-expanded.ensures.asked in
    let kept = rw e at c.expand_found-expanded.ensures.remembered in
    record { m_after = c.part_answer.ensures (options_of x.self.settings x.listed c.side_of.result x.m1.now x.m2.now x.ignored.now) _ g.same ∙ (done ∙ ap (λ (s : Session). expand_of l s m x.n.0) (sym g.same)); asked = (asked.0 ∙ ap (λ (s : Session). memo_at outputs l s m x.n.0 x.memo1.now) (sym g.same), asked.1 ∙ ap (λ (s : Session). memo_at inputs l s m x.n.0 x.memo2.now) (sym g.same)); remembered = kept }
