use mathlib.Core.Path.{◌≡◌, refl, sym, ◌∙◌, subst}
use mathlib.Core.List.{[]}
use native.Mathlib.Omega.{arith}
use Rattle.words.specs.Labels.{good}
use Rattle.fst.specs.Refusals.{number_of}
use Rattle.calls.specs.Calls.{next_for, store_step}
use Rattle.store_records.specs.Meaning.{stored}
use Rattle.compose_fst_op.specs.Composing.{lent_of}
use Rattle.compose_moves.specs.Cursors.{steps_left, next_means}
use Rattle.compose_moves.specs.Moves.{compose_tr_means}
use Rattle.compose_store.specs.Meaning.{Accepted}
use Rattle.compose_store.proofs.StoreTurns.{follows, first_accepted, no_refusal, store_turn, left_all, left_less, none_stored}
use borrow.Author.Rules.{rules}
use Rattle.compose_store.proofs.store_steps.Goals as goal

pub loop-ahead-init : goal.loop-ahead-init
loop-ahead-init c =
    let a = c.args in
    let p = c.requires in
    let e = c.next_step-ahead.ensures.result_value in
    let S = a.options in
    let L = lent_of a.options a.m1.now a.m2.now a.a1.now a.a2.now a.ignored.now in
    let d = stored a.heads.now a.states.now a.trs.now a.used.states a.used.trs in
    let all = steps_left S L a.start in
    let x = next_means S L c.next_step-ahead.result in
    (refl, refl, refl, subst Accepted (sym (left_all d all x e)) p, refl)

pub returns-in-Ok-None : goal.returns-in-Ok-None
returns-in-Ok-None c =
    let a = c.args in
    let l = c.loop-ahead in
    let S = a.options in
    let L = lent_of a.options a.m1.now a.m2.now a.a1.now a.a2.now a.ignored.now in
    let d = stored a.heads.now a.states.now a.trs.now a.used.states a.used.trs in
    let none = rw c.in-Ok-None.is at c.in-Ok-None.field-0-is in
    sym (none_stored (stored l.heads l.states l.trs l.grown.states l.grown.trs))
    ∙ (rw (c.in-Ok-None.is, none) at l.invariant.4)
    ∙ left_all d (steps_left S L a.start) (next_means S L c.next_step-ahead.result) c.next_step-ahead.ensures.result_value

pub returns-in-Err : goal.returns-in-Err
returns-in-Err c =
    let l = c.loop-ahead in
    absurd (no_refusal (stored l.heads l.states l.trs l.grown.states l.grown.trs) (number_of c.in-Err.field-0) [] (rw c.in-Err.is at l.invariant.3))

pub store_step-grown-requires : goal.store_step-grown-requires
store_step-grown-requires c =
    let a = c.args in
    let l = c.loop-ahead in
    let given = rw c.in-Ok-Some.is at c.in-Ok-Some.field-0-is in
    let S = a.options in
    let L = lent_of a.options a.m1.now a.m2.now a.a1.now a.a2.now a.ignored.now in
    let d = stored l.heads l.states l.trs l.grown.states l.grown.trs in
    let st = compose_tr_means c.in-Ok-Some.tr in
    let others = steps_left S L c.in-Ok-Some.after in
    let e = c.goes_on.ensures ∙ follows S L c.next_step-ahead-in-Ok-Some.result others c.next_step-ahead-in-Ok-Some.ensures.result_value in
    subst (λ b. Accepted (store_step d (next_for d b) st)) (sym e) (first_accepted d st others (rw (c.in-Ok-Some.is, given) at l.invariant.3))

pub loop-ahead-smaller : goal.loop-ahead-smaller
loop-ahead-smaller c =
    let a = c.args in
    let l = c.loop-ahead in
    let given = rw c.in-Ok-Some.is at c.in-Ok-Some.field-0-is in
    let S = a.options in
    let L = lent_of a.options a.m1.now a.m2.now a.a1.now a.a2.now a.ignored.now in
    let others = steps_left S L c.in-Ok-Some.after in
    let less = left_less others (next_means S L c.next_step-ahead-in-Ok-Some.result) c.next_step-ahead-in-Ok-Some.ensures.result_value in
    rw (c.in-Ok-Some.is, given) (omega (arith, less))

pub loop-ahead-preserved : goal.loop-ahead-preserved
loop-ahead-preserved c =
    let a = c.args in
    let l = c.loop-ahead in
    let given = rw c.in-Ok-Some.is at c.in-Ok-Some.field-0-is in
    let w = c.store_step-grown in
    let S = a.options in
    let L = lent_of a.options a.m1.now a.m2.now a.a1.now a.a2.now a.ignored.now in
    let d = stored l.heads l.states l.trs l.grown.states l.grown.trs in
    let f = stored w.new.heads w.new.states w.new.trs w.result.states w.result.trs in
    let st = compose_tr_means c.in-Ok-Some.tr in
    let others = steps_left S L c.in-Ok-Some.after in
    let x = next_means S L c.next_step-ahead-in-Ok-Some.result in
    let e = c.goes_on.ensures ∙ follows S L c.next_step-ahead-in-Ok-Some.result others c.next_step-ahead-in-Ok-Some.ensures.result_value in
    let t = store_turn d f st others x c.next_step-ahead-in-Ok-Some.ensures.result_value (subst (λ b. good f ≡ store_step d (next_for d b) st) e w.ensures) in (
      search rules,
      search rules,
      search rules,
      subst Accepted (sym t) (rw (c.in-Ok-Some.is, given) at l.invariant.3),
      t ∙ (rw (c.in-Ok-Some.is, given) at l.invariant.4),
    )
