-- Checks 1 to 8, once; then the states in number order.
use mathlib.Core.Path.{sym, ◌∙◌, ap}
use Rattle.calls.specs.Store.{state_room}
use Rattle.calls.specs.Checks.{Session}
use Rattle.calls.specs.Calls.{run_from, run_with}
use Rattle.store_records.specs.Meaning.{memory_of}
use Rattle.lazy_fst.specs.Meaning.{lent_with, options_of}
use Rattle.lazy_fst.proofs.CallLaws.{goes, goes_composing}
use Rattle.lazy_fst.proofs.Session.run.Goals as goal

pub compute-ran-requires : goal.compute-ran-requires
compute-ran-requires c =
    let x = c.args in
    let l = lent_with x.m1.now x.m2.now x.allowed1.now x.allowed2.now x.ignored.now x.listed in
    let m = memory_of x.heads.now x.states.now x.trs.now in
    let g = goes l x.self m x.listed c.in-Ok.side (sym (c.in-Ok.ensures l.allowed1 l.allowed2)) in
    rw c.options_of-options.ensures (goes_composing x.m1.now x.m2.now x.allowed1.now x.allowed2.now x.ignored.now x.listed x.self m _ g)

pub returns-in-Ok : goal.returns-in-Ok
unfolding run_with
returns-in-Ok c =
    let x = c.args in
    let l = lent_with x.m1.now x.m2.now x.allowed1.now x.allowed2.now x.ignored.now x.listed in
    let m = memory_of x.heads.now x.states.now x.trs.now in
    let e = c.in-Ok.ensures l.allowed1 l.allowed2 in
    let same = (goes l x.self m x.listed c.in-Ok.side (sym e)).same in
    let done = rw c.options_of-options.ensures at c.compute-ran.ensures in
    rw (← e)
    (c.run_answer.ensures (options_of x.self.settings x.listed c.in-Ok.side x.m1.now x.m2.now x.ignored.now) _ same ∙ (done ∙ ap (λ (s : Session). run_from l (state_room m) 0 s m) (sym same)))
