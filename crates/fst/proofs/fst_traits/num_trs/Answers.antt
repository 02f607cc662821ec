use mathlib.Core.Path.{ap}
use native.Mathlib.Nat.{zero-add}
use native.Mathlib.Omega.{arith}
use lib.ListN.{length}
use Rattle.words.specs.Machines.{tr_count, list_of}
use Rattle.words.proofs.ListLaws.{link, first_inside, list_end_lem, list_turn, list_length}
use Rattle.fst.proofs.fst_traits.num_trs.Goals as goal

pub loop-t-init : goal.loop-t-init
loop-t-init c = (rw c.first_tr-t.ensures (first_inside _ _), zero-add _)

pub overflow_add-n : goal.overflow_add-n
unfolding tr_count
overflow_add-n c =
    let m = c.args.m.now in
    omega (arith, ap length (list_turn m c.loop-t.t c.loop-t-test.true c.loop-t.invariant.0), list_length m c.first_tr-t.result, c.shared_slice_known-1.given 1)

pub loop-t-smaller : goal.loop-t-smaller
loop-t-smaller c = rw c.next_tr-t.ensures (omega (arith, ap length (list_turn c.args.m.now c.loop-t.t c.loop-t-test.true c.loop-t.invariant.0)))

pub loop-t-preserved : goal.loop-t-preserved
loop-t-preserved c = rw c.next_tr-t.ensures ((link _ _).inside, omega (arith, ap length (list_turn c.args.m.now c.loop-t.t c.loop-t-test.true c.loop-t.invariant.0)))

pub returns : goal.returns
unfolding list_of
returns c =
    rw (← c.first_tr-t.ensures) (omega (arith, ap length (list_end_lem c.args.m.now _ c.loop-t-test.false)))
