use Rattle.sorted_lists.proofs.Halves.{all_left, none_left, up, down}
use Rattle.sorted_lists.proofs.seek.Goals as goal

pub loop-n-init : goal.loop-n-init
loop-n-init c = all_left _ _ _ _

pub loop-n-preserved-then-m-mid : goal.loop-n-preserved-then-m-mid
loop-n-preserved-then-m-mid c = up _ _ _ _ _ _ c.requires.1 c.loop-n-test.true c.loop-n.invariant c.if-m-mid.true

pub loop-n-preserved : goal.loop-n-preserved
loop-n-preserved c = down _ _ _ _ _ _ c.requires.1 c.loop-n-test.true c.loop-n.invariant c.if-m-mid.false

pub returns : goal.returns
returns c = none_left _ _ _ _ _ _ c.loop-n-test.false c.loop-n.invariant
