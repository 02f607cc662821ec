use mathlib.Core.Path.{◌≡◌, ◌∙◌, ap}
use Prim.Native.Nat.{◌*◌}
use native.Mathlib.Omega.{arith}
use lib.ListN.{length}
use Rattle.lists.specs.Lists.{put}
use Rattle.graphs.specs.StoreMachine.{store_machine}
use Rattle.store_records.specs.Meaning.{memory_of, store_in}
use Rattle.lazy_fst.specs.Meaning.{lent_with, session_means}
use Rattle.trims.proofs.Numbers.{states_few}
use Rattle.graphs.proofs.Entered.{within}
use Rattle.trim_call.proofs.TrimLaws.{machine_is, trs_are, fits_all, lacks_count, lacks_words, has_room, refuses, writes}
use borrow.Author.Rules.{rules}
use Rattle.trim_call.proofs.marked.trim_marked.Goals as goal

pub number_useful-rows-requires : goal.number_useful-rows-requires
number_useful-rows-requires c =
    let a = c.args in
    let W = within (lent_with a.m1.now a.m2.now a.allowed1.now a.allowed2.now a.ignored.now a.listed) (session_means a.session) (memory_of a.heads.now a.states.now a.trs.now) c.requires.fact.0 c.requires.fact.1 in
    let sized = c.requires.marked.0 in
    (W.states, W.trs, omega (arith, sized))

pub count_kept-arcs-requires : goal.count_kept-arcs-requires
count_kept-arcs-requires c =
    let a = c.args in
    let W = within (lent_with a.m1.now a.m2.now a.allowed1.now a.allowed2.now a.ignored.now a.listed) (session_means a.session) (memory_of a.heads.now a.states.now a.trs.now) c.requires.fact.0 c.requires.fact.1 in
    (W.states, W.trs)

pub returns-then-arcs-clause-w_after : goal.returns-then-arcs-clause-w_after
returns-then-arcs-clause-w_after c = λ k w e.
    let a = c.args in
    let d = store_in a.heads.now a.states.now a.trs.now a.session.used in
    let W = within (lent_with a.m1.now a.m2.now a.allowed1.now a.allowed2.now a.ignored.now a.listed) (session_means a.session) (memory_of a.heads.now a.states.now a.trs.now) k e in
    let N = c.number_useful-rows.ensures a.heads.now k _ _ W.form (c.requires.marked.1 k e) in
    let Z : length c.number_useful-rows.new.work ≡ 2 * a.session.used.states = search rules in
    let T = trs_are k d _ _ W.form W.states c.number_useful-rows.new.work Z N.1 in
    let A = c.count_kept-arcs.ensures a.heads.now k in
    refuses _ _ w (lacks_count _ _ (omega (arith, T, A, c.if-arcs.true)))

pub words_of-need-requires : goal.words_of-need-requires
words_of-need-requires c =
    let a = c.args in
    let d = store_in a.heads.now a.states.now a.trs.now a.session.used in
    let W = within (lent_with a.m1.now a.m2.now a.allowed1.now a.allowed2.now a.ignored.now a.listed) (session_means a.session) (memory_of a.heads.now a.states.now a.trs.now) c.requires.fact.0 c.requires.fact.1 in
    let N = c.number_useful-rows.ensures a.heads.now c.requires.fact.0 _ _ W.form (c.requires.marked.1 c.requires.fact.0 c.requires.fact.1) in
    let S = states_few (store_machine c.requires.fact.0 d) in
    let U = W.states in
    let R = N.0 in
    (omega (arith, S, U, R), omega (arith, c.if-arcs.false))

pub returns-then-out-need-clause-w_after : goal.returns-then-out-need-clause-w_after
returns-then-out-need-clause-w_after c = λ k w e.
    let a = c.args in
    let d = store_in a.heads.now a.states.now a.trs.now a.session.used in
    let W = within (lent_with a.m1.now a.m2.now a.allowed1.now a.allowed2.now a.ignored.now a.listed) (session_means a.session) (memory_of a.heads.now a.states.now a.trs.now) k e in
    let N = c.number_useful-rows.ensures a.heads.now k _ _ W.form (c.requires.marked.1 k e) in
    let Z : length c.number_useful-rows.new.work ≡ 2 * a.session.used.states = search rules in
    let T = trs_are k d _ _ W.form W.states c.number_useful-rows.new.work Z N.1 in
    let A = c.count_kept-arcs.ensures a.heads.now k in
    let R = N.0 in
    let X = c.words_of-need.ensures in
    refuses _ _ w (lacks_words _ _ (omega (arith, T, A, R, X, c.if-out-need.true)))

pub write_machine-requires-clause-room : goal.write_machine-requires-clause-room
write_machine-requires-clause-room c = λ k e.
    let a = c.args in
    let d = store_in a.heads.now a.states.now a.trs.now a.session.used in
    let W = within (lent_with a.m1.now a.m2.now a.allowed1.now a.allowed2.now a.ignored.now a.listed) (session_means a.session) (memory_of a.heads.now a.states.now a.trs.now) k e in
    let N = c.number_useful-rows.ensures a.heads.now k _ _ W.form (c.requires.marked.1 k e) in
    let Z : length c.number_useful-rows.new.work ≡ 2 * a.session.used.states = search rules in
    let A = c.count_kept-arcs.ensures a.heads.now k in
    let R = N.0 in
    let X = c.words_of-need.ensures in
    (fits_all k d _ _ W.form W.states c.number_useful-rows.new.work Z N.1 a.out.now c.number_useful-rows.result R (omega (arith, A, c.if-arcs.false)) (omega (arith, A, R, X, c.if-out-need.false)), A)

pub overflow_cast-result : goal.overflow_cast-result
overflow_cast-result c =
    let a = c.args in
    let d = store_in a.heads.now a.states.now a.trs.now a.session.used in
    let W = within (lent_with a.m1.now a.m2.now a.allowed1.now a.allowed2.now a.ignored.now a.listed) (session_means a.session) (memory_of a.heads.now a.states.now a.trs.now) c.requires.fact.0 c.requires.fact.1 in
    let N = c.number_useful-rows.ensures a.heads.now c.requires.fact.0 _ _ W.form (c.requires.marked.1 c.requires.fact.0 c.requires.fact.1) in
    let S = states_few (store_machine c.requires.fact.0 d) in
    let U = W.states in
    let R = N.0 in
    let X = c.words_of-need.ensures in
    omega (arith, S, U, R, X, c.if-arcs.false)

pub returns-clause-w_after : goal.returns-clause-w_after
returns-clause-w_after c = λ k w e.
    let a = c.args in
    let d = store_in a.heads.now a.states.now a.trs.now a.session.used in
    let W = within (lent_with a.m1.now a.m2.now a.allowed1.now a.allowed2.now a.ignored.now a.listed) (session_means a.session) (memory_of a.heads.now a.states.now a.trs.now) k e in
    let N = c.number_useful-rows.ensures a.heads.now k _ _ W.form (c.requires.marked.1 k e) in
    let Z : length c.number_useful-rows.new.work ≡ 2 * a.session.used.states = search rules in
    let T = trs_are k d _ _ W.form W.states c.number_useful-rows.new.work Z N.1 in
    let A = c.count_kept-arcs.ensures a.heads.now k in
    let R = N.0 in
    let X = c.words_of-need.ensures in
    let Q = machine_is k d _ _ W.form W.states c.number_useful-rows.new.work Z N.1 in
    writes _ _ _ w _ (has_room _ _ (omega (arith, T, A, c.if-arcs.false)) (omega (arith, T, A, R, X, c.if-out-need.false))) (omega (arith, T, A, R, X)) (c.write_machine.ensures k e ∙ ap (put _ 0) Q)
