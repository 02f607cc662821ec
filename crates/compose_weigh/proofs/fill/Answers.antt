use mathlib.Core.Path.{sym, subst}
use Prim.Native.Nat.{◌+◌}
use native.Mathlib.Omega.{arith}
use Rattle.calls.specs.Store.{room_of, state_size, find}
use Rattle.store_records.specs.Meaning.{stored}
use Rattle.triple_set.specs.Sets.{set_of}
use Rattle.compose_fst_op.specs.Composing.{lent_of}
use Rattle.compose_moves.specs.Cursors.{steps_left}
use Rattle.compose_weigh.specs.Weigh.{missing}
use Rattle.compose_weigh.specs.Windows.{Filled}
use Rattle.compose_weigh.proofs.WindowLaws.{few_records}
use Rattle.compose_weigh.proofs.SetTurns.{filling_none, filling_next, filling_full}
use borrow.Author.Rules.{rules}
use Rattle.compose_weigh.proofs.fill.Goals as goal

pub loop-weighed-init : goal.loop-weighed-init
loop-weighed-init c =
    let a = c.args in
    (search rules, search rules, search rules, search rules, filling_none (stored a.heads.now a.states.now a.trs.now a.w.used.states a.w.used.trs) a.before (steps_left a.w.options (lent_of a.w.options a.m1.now a.m2.now a.a1.now a.a2.now a.ignored.now) a.from) a.chains.now a.records.now c.requires.empty)

pub returns-then-taken : goal.returns-then-taken
returns-then-taken c =
    let a = c.args in
    let l = c.loop-weighed in
    let S = a.w.options in
    let L = lent_of a.w.options a.m1.now a.m2.now a.a1.now a.a2.now a.ignored.now in
    let d = stored a.heads.now a.states.now a.trs.now a.w.used.states a.w.used.trs in
    let k = c.in-Ok.ensures a.heads.now a.states.now in
    let f = l.invariant.4 in
    let r = filling_full d a.before (steps_left S L a.from) (steps_left S L l.cursor) l.count (room_of state_size a.records.now) (set_of l.chains l.records l.held) f k.0 (steps_left S L c.in-Ok.after) k.1 _ (rw (c.lacks-new.ensures a.trs.now, ← k.2) at c.take-taken.ensures) c.requires.room c.if-taken.true in (
      f.k,
      record { counts = f.counts; ahead = f.ahead; recorded = f.recorded; small = l.invariant.1; told = λ all u. tt; moves = r.1 },
      subst (Filled (λ t. missing (find d t)) f.k (steps_left S L a.from) (room_of state_size a.records.now)) (sym r.0) f.filled,
    )

pub overflow_add-count : goal.overflow_add-count
overflow_add-count c =
    let a = c.args in
    let l = c.loop-weighed in
    let k = c.in-Ok.ensures a.heads.now a.states.now in
    let f = few_records (stored a.heads.now a.states.now a.trs.now a.w.used.states a.w.used.trs) (a.w.used.trs + l.count) k.3 in
    omega (arith, f)

pub loop-weighed-preserved : goal.loop-weighed-preserved
loop-weighed-preserved c =
    let a = c.args in
    let l = c.loop-weighed in
    let S = a.w.options in
    let L = lent_of a.w.options a.m1.now a.m2.now a.a1.now a.a2.now a.ignored.now in
    let d = stored a.heads.now a.states.now a.trs.now a.w.used.states a.w.used.trs in
    let k = c.in-Ok.ensures a.heads.now a.states.now in
    let g = few_records d (a.w.used.trs + l.count) k.3 in
    (search rules, omega (arith, g), search rules, search rules, filling_next d a.before (steps_left S L a.from) (steps_left S L l.cursor) l.count (room_of state_size a.records.now) (set_of l.chains l.records l.held) l.invariant.4 k.0 (steps_left S L c.in-Ok.after) k.1 _ (rw (c.lacks-new.ensures a.trs.now, ← k.2) at c.take-taken.ensures) k.3 c.if-taken.false)
