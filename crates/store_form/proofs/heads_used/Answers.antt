use mathlib.Core.Bool.{and_assoc, and-true}
use lib.Dec.{leb}
use Rattle.store_form.proofs.FormLaws.{rest_turn, rest_end}
use Rattle.store_form.proofs.heads_used.Goals as goal

pub loop-head-preserved : goal.loop-head-preserved
loop-head-preserved c = let l = c.loop-head in rw and_assoc (rw (rest_turn (λ h. leb h c.args.used) c.args.heads.now l.head-index c.loop-head-test.true) at l.invariant)

pub returns : goal.returns
returns c = rw (rest_end (λ h. leb h c.args.used) c.args.heads.now c.loop-head.head-index c.loop-head-test.false, and-true) at c.loop-head.invariant
