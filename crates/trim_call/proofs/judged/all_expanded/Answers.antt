use mathlib.Core.Path.{sym, ◌∙◌}
use Rattle.fst.proofs.Tests.{fails, holds}
use Rattle.store_records.specs.Meaning.{stored}
use Rattle.trim_call.proofs.JudgedLaws.{expanded_begins, expanded_on, expanded_stops, expanded_ends}
use Rattle.trim_call.proofs.judged.all_expanded.Goals as goal

pub returns-then-not-is_expanded : goal.returns-then-not-is_expanded
returns-then-not-is_expanded c = λ heads trs k. sym (expanded_stops _ _ _ c.loop-n-test.true (fails c.is_expanded.ensures c.if-not-is_expanded.true)) ∙ c.loop-n.invariant ∙ expanded_begins (stored heads c.args.states.now trs c.args.count k)

pub loop-n-preserved : goal.loop-n-preserved
loop-n-preserved c = expanded_on _ _ _ c.loop-n-test.true (holds c.is_expanded.ensures c.if-not-is_expanded.false) ∙ c.loop-n.invariant

pub returns : goal.returns
returns c = λ heads trs k. sym (expanded_ends _ _ _ c.loop-n-test.false) ∙ c.loop-n.invariant ∙ expanded_begins (stored heads c.args.states.now trs c.args.count k)
