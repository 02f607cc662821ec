use mathlib.Core.Path.{◌≡◌, ◌∙◌}
use Prim.Native.Nat.{ℕ, ◌+◌, ◌-◌}
use native.Mathlib.Omega.{arith}
use lib.ListN.{length-replicate}
use Rattle.fst.specs.Refusals.{number_of}
use Rattle.triple_set.specs.Sets.{set_of}
use Rattle.compose_fst_op.specs.Composing.{lent_of}
use Rattle.compose_moves.specs.Cursors.{steps_left}
use Rattle.compose_moves.specs.Moves.{compose_tr_means}
use Rattle.compose_weigh.specs.Windows.{set_room}
use Rattle.compose_weigh.proofs.AskedLaws.{within_none, within_refused, within_zero}
use Rattle.compose_weigh.proofs.SetTurns.{earlier_none, earlier_next, earlier_done, mark_small}
use Rattle.compose_weigh.proofs.count_earlier.Goals as goal

pub loop-init : goal.loop-init
loop-init c =
    let a = c.args in
    let S = a.options in
    let L = lent_of a.options a.m1.now a.m2.now a.a1.now a.a2.now a.ignored.now in
    let z : a.count - 0 ≡ a.count = omega arith in
    (omega arith, length-replicate {A = ℕ} set_room 0, λ P k steps room h fill. rw z (earlier_none P k steps room (set_of a.chains.now a.records.now a.held) fill a.count (steps_left S L a.start) set_room))

pub returns-in-Ok-None : goal.returns-in-Ok-None
returns-in-Ok-None c = λ P k steps room h fill.
    let a = c.args in
    let l = c.loop in
    let S = a.options in
    let L = lent_of a.options a.m1.now a.m2.now a.a1.now a.a2.now a.ignored.now in
    earlier_done P k steps room (set_of a.chains.now a.records.now a.held) fill a.count (steps_left S L a.start) l.marks (a.count - l.counter) (steps_left S L l.cursor) l.old (l.invariant.2 P k steps room h fill)
    (λ t. within_none t (a.count - l.counter) (steps_left S L l.cursor) (rw c.in-Ok-None.field-0-is at c.in-Ok-None.ensures.result_value))

pub returns-in-Err : goal.returns-in-Err
returns-in-Err c = λ P k steps room h fill.
    let a = c.args in
    let l = c.loop in
    let S = a.options in
    let L = lent_of a.options a.m1.now a.m2.now a.a1.now a.a2.now a.ignored.now in
    earlier_done P k steps room (set_of a.chains.now a.records.now a.held) fill a.count (steps_left S L a.start) l.marks (a.count - l.counter) (steps_left S L l.cursor) l.old (l.invariant.2 P k steps room h fill)
    (λ t. within_refused t (a.count - l.counter) (steps_left S L l.cursor) (number_of c.in-Err.field-0) c.in-Err.ensures.result_value)

pub returns : goal.returns
returns c = λ P k steps room h fill.
    let a = c.args in
    let l = c.loop in
    let S = a.options in
    let L = lent_of a.options a.m1.now a.m2.now a.a1.now a.a2.now a.ignored.now in
    earlier_done P k steps room (set_of a.chains.now a.records.now a.held) fill a.count (steps_left S L a.start) l.marks (a.count - l.counter) (steps_left S L l.cursor) l.old (l.invariant.2 P k steps room h fill)
    (λ t. within_zero t (a.count - l.counter) (steps_left S L l.cursor) (omega arith))

pub overflow_add-old : goal.overflow_add-old
overflow_add-old c =
    let a = c.args in
    let m = mark_small (set_of a.chains.now a.records.now a.held) c.loop.marks (compose_tr_means c.in-Ok-Some.tr).to _ _ c.mark-old.ensures in
    omega (arith, m.0)

pub loop-preserved : goal.loop-preserved
loop-preserved c =
    let a = c.args in
    let l = c.loop in
    let S = a.options in
    let L = lent_of a.options a.m1.now a.m2.now a.a1.now a.a2.now a.ignored.now in
    let d = set_of a.chains.now a.records.now a.held in
    let m = mark_small d l.marks (compose_tr_means c.in-Ok-Some.tr).to _ _ c.mark-old.ensures in
    let z : a.count - (l.counter + 1) ≡ (a.count - l.counter) - 1 = omega arith in (
      omega (arith, m.0),
      m.1 ∙ l.invariant.1,
      λ P k steps room h fill. rw z (earlier_next P k steps room d fill a.count (steps_left S L a.start) l.marks (a.count - l.counter) (steps_left S L l.cursor) l.old (l.invariant.2 P k steps room h fill)
          (omega arith) (omega arith) (compose_tr_means c.in-Ok-Some.tr) (steps_left S L c.in-Ok-Some.after) (rw c.in-Ok-Some.field-0-is at c.in-Ok-Some.ensures.result_value) _ _ c.mark-old.ensures),
    )
