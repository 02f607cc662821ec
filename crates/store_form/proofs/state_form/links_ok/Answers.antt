use mathlib.Core.Bool.{and_assoc, and-true}
use native.Mathlib.Nat.{sub-zero}
use Rattle.lists.proofs.Runs.{run_turn, run_end}
use Rattle.store_form.proofs.state_form.links_ok.Invariants.{Good}
use Rattle.store_form.proofs.state_form.links_ok.Goals as goal

pub loop-n-init : goal.loop-n-init
loop-n-init c = λ heads trs u. rw sub-zero

pub loop-n-preserved : goal.loop-n-preserved
loop-n-preserved c =
    let l = c.loop-n in
    let a = c.args in
    λ heads trs u. rw (and_assoc, c.links_fine-fine.ensures heads trs u) (rw (run_turn (Good heads a.states.now trs u a.last) l.n l.n a.count c.loop-n-test.true) at (l.invariant heads trs u))

pub returns : goal.returns
returns c = λ heads trs u. (rw (run_end _ _ _ _ c.loop-n-test.false, and-true) at (c.loop-n.invariant heads trs u))
