use mathlib.Core.Path.{◌∙◌, ap}
use mathlib.Core.List.{List}
use Prim.Native.Nat.{ℕ, ◌*◌}
use native.Mathlib.Omega.{arith}
use lib.ListN.{length, length-replicate}
use Rattle.fst.proofs.Tests.{fails, holds}
use Rattle.searches.specs.UsefulSearch.{status_in}
use Rattle.store_records.specs.Meaning.{store_in}
use Rattle.trim_call.proofs.TrimLaws.{unexpanded, too_large, judged_well, unmarked}
use Rattle.trim_call.proofs.trimming.trim_cleared.Goals as goal

pub returns-then-not-all_expanded-clause-w_after : goal.returns-then-not-all_expanded-clause-w_after
returns-then-not-all_expanded-clause-w_after c = λ k w e.
    let a = c.args in
    let u = a.session.used in
    unexpanded k (store_in a.heads.now a.states.now a.trs.now u) _ w (fails (c.all_expanded.ensures a.heads.now a.trs.now u.trs) c.if-not-all_expanded.true)

pub mark_finals-requires-clause-unmarked : goal.mark_finals-requires-clause-unmarked
mark_finals-requires-clause-unmarked c =
    let clean = c.requires.clean in
    let words = 2 * c.args.session.used.states in
    let sized = ap length clean ∙ length-replicate {A = ℕ} words 0 in
    (omega (arith, sized), λ x. ap (λ (l : List ℕ). status_in l x) clean ∙ unmarked words x)

pub returns-then-not-mark_finals-clause-w_after : goal.returns-then-not-mark_finals-clause-w_after
returns-then-not-mark_finals-clause-w_after c = λ k w e.
    let a = c.args in
    let u = a.session.used in
    too_large k (store_in a.heads.now a.states.now a.trs.now u) _ w (holds (c.all_expanded.ensures a.heads.now a.trs.now u.trs) c.if-not-all_expanded.false) (fails (c.mark_finals.ensures.value k e) c.if-not-mark_finals.true)

pub returns-clause-w_after : goal.returns-clause-w_after
returns-clause-w_after c = λ k w e.
    let a = c.args in
    let u = a.session.used in
    judged_well k (store_in a.heads.now a.states.now a.trs.now u) _ w _ (holds (c.all_expanded.ensures a.heads.now a.trs.now u.trs) c.if-not-all_expanded.false) (holds (c.mark_finals.ensures.value k e) c.if-not-mark_finals.false) (c.trim_marked.ensures.w_after k w e)
