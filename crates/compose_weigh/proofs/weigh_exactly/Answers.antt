use mathlib.Core.Path.{sym}
use Rattle.calls.specs.Store.{state_room_with}
use Rattle.store_records.specs.Meaning.{stored}
use Rattle.compose_fst_op.specs.Composing.{lent_of}
use Rattle.compose_moves.specs.Cursors.{steps_left}
use Rattle.compose_weigh.proofs.ExactTurns.{weighs_start, weighs_lacks, weighs_next, weighs_told}
use borrow.Author.Rules.{rules}
use Rattle.compose_weigh.proofs.weigh_exactly.Goals as goal

pub loop-left-init : goal.loop-left-init
unfolding state_room_with
loop-left-init c =
    let a = c.args in
    let S = a.w.options in
    let L = lent_of a.w.options a.m1.now a.m2.now a.a1.now a.a2.now a.ignored.now in
    let d = stored a.heads.now a.states.now a.trs.now a.w.used.states a.w.used.trs in
    (search rules, search rules, weighs_start d (steps_left S L a.w.start) _ (rw c.state_room.ensures at c.spare-left.ensures))

pub returns-then-left-passed : goal.returns-then-left-passed
returns-then-left-passed c =
    let a = c.args in
    let l = c.loop-left in
    let S = a.w.options in
    let L = lent_of a.w.options a.m1.now a.m2.now a.a1.now a.a2.now a.ignored.now in
    let d = stored a.heads.now a.states.now a.trs.now a.w.used.states a.w.used.trs in
    let v = c.weigh_window-passed.ensures in
    sym (weighs_lacks d (steps_left S L a.w.start) l.before l.left (steps_left S L l.cursor) l.invariant.2 v.0 _ _ _ v.1 _ v.2 c.if-left-passed.true)

pub returns-in-Some : goal.returns-in-Some
returns-in-Some c =
    let a = c.args in
    let l = c.loop-left in
    let S = a.w.options in
    let L = lent_of a.w.options a.m1.now a.m2.now a.a1.now a.a2.now a.ignored.now in
    let d = stored a.heads.now a.states.now a.trs.now a.w.used.states a.w.used.trs in
    let v = c.weigh_window-passed.ensures in
    sym (rw c.in-Some.is at (weighs_told d (steps_left S L a.w.start) l.before l.left (steps_left S L l.cursor) l.invariant.2 v.0 _ _ _ v.1 _ v.2 c.if-left-passed.false))

pub loop-left-preserved : goal.loop-left-preserved
loop-left-preserved c =
    let a = c.args in
    let l = c.loop-left in
    let S = a.w.options in
    let L = lent_of a.w.options a.m1.now a.m2.now a.a1.now a.a2.now a.ignored.now in
    let d = stored a.heads.now a.states.now a.trs.now a.w.used.states a.w.used.trs in
    let v = c.weigh_window-passed.ensures in
    (search rules, v.1.small, weighs_next d (steps_left S L a.w.start) l.before l.left (steps_left S L l.cursor) l.invariant.2 v.0 _ _ _ v.1 _ v.2 c.if-left-passed.false)
