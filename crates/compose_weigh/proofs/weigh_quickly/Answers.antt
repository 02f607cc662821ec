use mathlib.Core.Path.{refl, sym, ◌∙◌, ap}
use Prim.Native.Nat.{◌+◌}
use native.Mathlib.Omega.{arith}
use Rattle.calls.specs.Store.{state_room_with}
use Rattle.store_records.specs.Meaning.{stored}
use Rattle.compose_fst_op.specs.Composing.{lent_of}
use Rattle.compose_moves.specs.Cursors.{steps_left}
use Rattle.compose_weigh.specs.Weigh.{weigh_from, weigh_of}
use Rattle.compose_weigh.proofs.WindowLaws.{weigh_passed, few_records}
use borrow.Author.Rules.{rules}
use Rattle.compose_weigh.proofs.weigh_quickly.Goals as goal

pub loop-weighed-init : goal.loop-weighed-init
unfolding weigh_of
loop-weighed-init c = (search rules, search rules, (c.args.w.used.states, omega arith, refl))

pub overflow_add-count : goal.overflow_add-count
overflow_add-count c =
    let a = c.args in
    let l = c.loop-weighed in
    let k = c.in-Ok.ensures a.heads.now a.states.now in
    let f = few_records (stored a.heads.now a.states.now a.trs.now a.w.used.states a.w.used.trs) (a.w.used.trs + l.count) k.3 in
    omega (arith, f)

pub loop-weighed-preserved : goal.loop-weighed-preserved
unfolding state_room_with
loop-weighed-preserved c =
    let a = c.args in
    let l = c.loop-weighed in
    let S = a.w.options in
    let L = lent_of a.w.options a.m1.now a.m2.now a.a1.now a.a2.now a.ignored.now in
    let d = stored a.heads.now a.states.now a.trs.now a.w.used.states a.w.used.trs in
    let k = c.in-Ok.ensures a.heads.now a.states.now in
    let f = few_records d (a.w.used.trs + l.count) k.3 in
    let p = weigh_passed d (steps_left S L a.w.start) l.count l.invariant.2.0 l.grown c.in_ok-grown-in-Ok.grown k.0 _ k.3 l.invariant.2.1
    (rw (c.lacks-new.ensures a.trs.now, c.state_room.ensures, ← k.2) at c.in_ok-grown-in-Ok.ensures) in
    (search rules, omega (arith, f), (p.0, p.1, sym p.2 ∙ (ap (weigh_from d (steps_left S L a.w.start) l.count l.invariant.2.0) (sym k.1) ∙ l.invariant.2.2)))
