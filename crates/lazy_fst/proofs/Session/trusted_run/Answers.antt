-- The states in number order, from a state on.
use mathlib.Core.Path.{sym, ◌∙◌, ap}
use Rattle.words.specs.Matches.{inputs, outputs}
use Rattle.store_records.specs.Meaning.{memory_of}
use Rattle.calls.specs.Checks.{Session}
use Rattle.calls.specs.Calls.{run_from}
use Rattle.calls.specs.Owned.{stop_from}
use Rattle.compose_run.specs.Memos.{memo_from}
use Rattle.lazy_fst.specs.Meaning.{lent_with, options_of}
use Rattle.lazy_fst.proofs.CallLaws.{goes_known, goes_composing}
use Rattle.lazy_fst.proofs.Session.trusted_run.Goals as goal

pub compute_from-stopped-requires : goal.compute_from-stopped-requires
compute_from-stopped-requires c =
    let x = c.args in
    let l = lent_with x.m1.now x.m2.now x.allowed1.now x.allowed2.now x.ignored.now x.listed in
    let m = memory_of x.heads.now x.states.now x.trs.now in
    let p = c.requires in
    let g = goes_known l x.self m x.listed c.side_of.result p.0 c.side_of.ensures in
    rw c.options_of-options.ensures (goes_composing x.m1.now x.m2.now x.allowed1.now x.allowed2.now x.ignored.now x.listed x.self m _ g, p.1, p.2)

pub returns : goal.returns
returns c =
    let x = c.args in
    let l = lent_with x.m1.now x.m2.now x.allowed1.now x.allowed2.now x.ignored.now x.listed in
    let m = memory_of x.heads.now x.states.now x.trs.now in
    let same = (goes_known l x.self m x.listed c.side_of.result c.requires.0 c.side_of.ensures).same in
    let e = c.options_of-options.ensures in
    let done = rw e at c.compute_from-stopped.ensures.ran_after in
    let stop = rw e at c.compute_from-stopped.ensures.next in
    let asked = rw e at c.compute_from-stopped.ensures.asked in
    let kept = rw e at c.compute_from-stopped.ensures.remembered in
    record { m_after = c.run_answer.ensures (options_of x.self.settings x.listed c.side_of.result x.m1.now x.m2.now x.ignored.now) _ same ∙ (done ∙ ap (λ (s : Session). run_from l x.count x.from.0 s m) (sym same)); next = stop ∙ ap (λ (s : Session). stop_from l x.count x.from.0 s m) (sym same); asked = (asked.0 ∙ ap (λ (s : Session). memo_from outputs l x.count x.from.0 s m x.memo1.now) (sym same), asked.1 ∙ ap (λ (s : Session). memo_from inputs l x.count x.from.0 s m x.memo2.now) (sym same)); remembered = kept }
