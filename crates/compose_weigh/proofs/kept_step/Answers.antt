-- By the answer of the cursor, and the room for its record.
use mathlib.Core.Path.{refl}
use Rattle.calls.specs.Store.{tr_room_with}
use Rattle.store_records.specs.Meaning.{stored}
use Rattle.compose_fst_op.specs.Composing.{lent_of}
use Rattle.compose_moves.specs.Cursors.{steps_left}
use Rattle.compose_moves.specs.Moves.{compose_tr_means}
use Rattle.fst.specs.Refusals.{number_of}
use Rattle.compose_weigh.proofs.AskedLaws.{step_left}
use Rattle.compose_weigh.proofs.WeighTurns.{weigh_none, weigh_refused, weigh_lacking}
use Rattle.compose_weigh.proofs.kept_step.Goals as goal

pub returns-then-tr_room-w : goal.returns-then-tr_room-w
unfolding tr_room_with
returns-then-tr_room-w c = λ heads states all u.
    let a = c.args in
    let S = a.w.options in
    let L = lent_of a.w.options a.m1.now a.m2.now a.a1.now a.a2.now a.ignored.now in
    weigh_lacking (stored heads states a.trs.now a.w.used.states a.w.used.trs) all a.count u (steps_left S L a.cursor)
    (compose_tr_means c.in-Ok-Some.tr) (steps_left S L c.in-Ok-Some.after) (rw c.in-Ok-Some.field-0-is at c.in-Ok-Some.ensures.result_value) (rw c.tr_room.ensures at c.if-tr_room-w.true)

pub returns-in-Ok-None : goal.returns-in-Ok-None
returns-in-Ok-None c = λ heads states all u.
    let a = c.args in
    let S = a.w.options in
    let L = lent_of a.w.options a.m1.now a.m2.now a.a1.now a.a2.now a.ignored.now in
    weigh_none (stored heads states a.trs.now a.w.used.states a.w.used.trs) all a.count u (steps_left S L a.cursor)
    (rw c.in-Ok-None.field-0-is at c.in-Ok-None.ensures.result_value)

pub returns-in-Err : goal.returns-in-Err
returns-in-Err c = λ heads states all u.
    let a = c.args in
    let S = a.w.options in
    let L = lent_of a.w.options a.m1.now a.m2.now a.a1.now a.a2.now a.ignored.now in
    weigh_refused (stored heads states a.trs.now a.w.used.states a.w.used.trs) all a.count u (steps_left S L a.cursor) (number_of c.in-Err.refusal) c.in-Err.ensures.result_value

pub returns-else-tr_room-w : goal.returns-else-tr_room-w
unfolding tr_room_with
returns-else-tr_room-w c = λ heads states.
    let a = c.args in
    let S = a.w.options in
    let L = lent_of a.w.options a.m1.now a.m2.now a.a1.now a.a2.now a.ignored.now in (
      compose_tr_means c.in-Ok-Some.tr,
      step_left (steps_left S L a.cursor) (compose_tr_means c.in-Ok-Some.tr) (steps_left S L c.in-Ok-Some.after) (rw c.in-Ok-Some.field-0-is at c.in-Ok-Some.ensures.result_value),
      refl,
      rw c.tr_room.ensures at c.if-tr_room-w.false,
    )
