use mathlib.Core.Path.{ap, ◌∙◌}
use borrow.Author.Rules.{rules}
use Rattle.fst.specs.Refusals.{number_of}
use Rattle.store_records.specs.Meaning.{memory_of}
use Rattle.final_weights.specs.Weights.{verdict}
use Rattle.final_weights.proofs.WeightLaws.{weights_again, weights_stop, weights_done}
use Rattle.final_weights.proofs.take_weights.Goals as goal

pub returns-in_err-judged : goal.returns-in_err-judged
returns-in_err-judged c =
    let a = c.args in
    let m = memory_of a.heads.now a.states.now a.trs.now in
    let e = weights_stop _ _ _ _ _ _ c.loop-n.invariant (number_of c.in_err-judged.field-0.0) c.loop-n-test.true (c.in_err-judged.ensures m ∙ ap (λ o. verdict o.answer) c.trusted_final_weight-weight.ensures) in
    search (rules, e)

pub loop-n-preserved : goal.loop-n-preserved
loop-n-preserved c =
    let a = c.args in
    let m = memory_of a.heads.now a.states.now a.trs.now in
    weights_again _ _ _ _ _ _ c.loop-n.invariant c.loop-n-test.true (c.in_ok-judged.ensures m ∙ ap (λ o. verdict o.answer) c.trusted_final_weight-weight.ensures)

pub returns : goal.returns
returns c = weights_done _ _ _ _ _ _ c.loop-n.invariant c.loop-n-test.false
