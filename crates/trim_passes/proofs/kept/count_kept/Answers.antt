use mathlib.Core.List.{[]}
use native.Mathlib.Omega.{arith}
use Rattle.store_records.specs.Meaning.{stored, store_in}
use Rattle.trim_passes.proofs.RowLaws.{trs_turn, trs_end, count_few}
use Rattle.trim_passes.proofs.kept.count_kept.Goals as goal

pub overflow_add-total : goal.overflow_add-total
overflow_add-total c = let z = count_few (stored [] c.args.states.now c.args.trs.now 0 c.args.used.trs) c.args.work.now c.loop-n.n _ (c.count_of-total.ensures [] 0) in omega (arith, z, c.loop-n.invariant.0, c.loop-n-test.true, c.requires.0, c.requires.1)

pub loop-n-preserved : goal.loop-n-preserved
loop-n-preserved c = (
  let z = count_few (stored [] c.args.states.now c.args.trs.now 0 c.args.used.trs) c.args.work.now c.loop-n.n _ (c.count_of-total.ensures [] 0) in omega (arith, z, c.loop-n.invariant.0, c.requires.1),
  λ heads k.
      let a = trs_turn k (store_in heads c.args.states.now c.args.trs.now c.args.used) c.args.work.now _ c.loop-n-test.true in let b = c.count_of-total.ensures heads c.args.used.states in let e = c.loop-n.invariant.1 heads k in omega (arith, a, b, e),
)

pub returns : goal.returns
returns c = λ heads k. let a = trs_end k (store_in heads c.args.states.now c.args.trs.now c.args.used) c.args.work.now _ c.loop-n-test.false in let e = c.loop-n.invariant.1 heads k in omega (arith, a, e)
