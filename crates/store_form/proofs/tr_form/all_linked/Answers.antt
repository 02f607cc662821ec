use mathlib.Core.Bool.{and_assoc, and-true}
use native.Mathlib.Nat.{sub-zero}
use Rattle.lists.proofs.Runs.{run_turn, run_end}
use Rattle.store_form.proofs.tr_form.all_linked.Invariants.{Good}
use Rattle.store_form.proofs.tr_form.all_linked.Goals as goal

pub loop-i-init : goal.loop-i-init
loop-i-init c = rw sub-zero

pub loop-i-preserved : goal.loop-i-preserved
loop-i-preserved c =
    let l = c.loop-i in
    let a = c.args in
    rw (and_assoc, c.tr_fine-fine.ensures) (rw (run_turn (Good a.trs.now a.used.states) l.i l.i a.used.trs c.loop-i-test.true) at l.invariant)

pub returns : goal.returns
returns c = rw (run_end _ _ _ _ c.loop-i-test.false, and-true) at c.loop-i.invariant
