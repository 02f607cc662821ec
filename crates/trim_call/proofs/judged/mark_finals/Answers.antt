use mathlib.Core.Path.{refl, ◌∙◌, ap}
use Prim.Native.Nat.{◌*◌}
use native.Mathlib.Omega.{arith}
use Rattle.graphs.specs.StoreMachine.{answered}
use Rattle.fst.proofs.Tests.{fails, holds}
use Rattle.store_records.specs.Meaning.{memory_of}
use Rattle.lazy_fst.specs.Meaning.{weight_left}
use Rattle.trim_rows.proofs.RowTurns.{final_found}
use Rattle.trim_call.proofs.JudgedLaws.{marking_begins, marking_on, marking_stops, marking_ends, marked_length}
use Rattle.trim_call.proofs.judged.mark_finals.Goals as goal

pub loop-n-init : goal.loop-n-init
loop-n-init c = record { sized = refl; marking = λ k e. marking_begins k _ _ c.requires.unmarked.1 }

pub returns-then-not-mark_final-clause-value : goal.returns-then-not-mark_final-clause-value
returns-then-not-mark_final-clause-value c = λ k e.
    let a = c.args in
    let m = memory_of a.heads.now a.states.now a.trs.now in
    marking_stops k _ _ _ _ (c.loop-n.invariant.marking k e) c.loop-n-test.true (ap (λ x. x.answer) c.trusted_final_weight-weight.ensures ∙ final_found _ _ _ k _ e c.loop-n-test.true) (fails (c.mark_final.ensures.value m) c.if-not-mark_final.true)

pub loop-n-preserved : goal.loop-n-preserved
loop-n-preserved c =
    let a = c.args in
    let m = memory_of a.heads.now a.states.now a.trs.now in
    let answer = (weight_left c.trusted_final_weight-weight.result m).answer in
    let marks = c.mark_final.ensures.marks m in
    let sized = c.loop-n.invariant.sized in
    let room = c.requires.unmarked.0 in
    record {
      sized = marked_length c.loop-n.work _ (2 * c.loop-n.n) (answered answer) marks ∙ sized;
      marking = λ k e. marking_on k _ _ _ _ answer (c.loop-n.invariant.marking k e) c.loop-n-test.true (omega (arith, sized, room)) (ap (λ x. x.answer) c.trusted_final_weight-weight.ensures ∙ final_found _ _ _ k _ e c.loop-n-test.true) (holds (c.mark_final.ensures.value m) c.if-not-mark_final.false) marks;
    }

pub returns-clause-value : goal.returns-clause-value
returns-clause-value c = λ k e. marking_ends k _ _ _ (c.loop-n.invariant.marking k e) c.loop-n-test.false

pub returns-clause-marks : goal.returns-clause-marks
returns-clause-marks c = λ k e t x l. let last = c.loop-n-test.false in (c.loop-n.invariant.marking k e).below x (omega (arith, last, l))
