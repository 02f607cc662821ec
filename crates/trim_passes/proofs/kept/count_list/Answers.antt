use mathlib.Core.Path.{ap}
use mathlib.Core.List.{[]}
use native.Mathlib.Omega.{arith}
use lib.ListN.{length}
use Rattle.store_records.specs.Meaning.{stored}
use Rattle.trim_passes.proofs.KeptLaws.{at_none, at_turn, kept_few}
use Rattle.trim_passes.proofs.kept.count_list.Goals as goal

pub loop-r-init : goal.loop-r-init
loop-r-init c = λ heads states u. let e = ap length (c.next_kept-r.ensures heads states u) in omega (arith, e)

pub overflow_add-count : goal.overflow_add-count
overflow_add-count c = let a = c.loop-r.invariant [] [] 0 in let b = kept_few (stored [] [] c.args.trs.now 0 c.args.used) c.args.work.now c.args.from in omega (arith, a, b)

pub loop-r-smaller : goal.loop-r-smaller
loop-r-smaller c = let e = at_turn (stored [] [] _ 0 _) _ _ _ c.loop-r-test.true (rw (c.next_record.ensures [] [] 0) at (c.next_kept-r-in-loop-r.ensures [] [] 0)) in omega (arith, e)

pub loop-r-preserved : goal.loop-r-preserved
loop-r-preserved c = λ heads states u. let e = at_turn (stored heads states _ u _) _ _ _ c.loop-r-test.true (rw (c.next_record.ensures heads states u) at (c.next_kept-r-in-loop-r.ensures heads states u)) in let f = c.loop-r.invariant heads states u in omega (arith, e, f)

pub returns : goal.returns
returns c = λ heads states u. let e = ap length (at_none (stored heads states c.args.trs.now u c.args.used) c.args.work.now _ c.loop-r-test.false) in let f = c.loop-r.invariant heads states u in omega (arith, e, f)
