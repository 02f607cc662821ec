use mathlib.Core.Path.{◌∙◌, ap}
use lib.ListN.{length}
use native.Mathlib.Omega.{arith}
use Rattle.trim_passes.proofs.NumberLaws.{numbered_length, kept_below, numbered_none, numbered_all, numbered_on}
use Rattle.trim_passes.proofs.numbers.number_states.Goals as goal

pub loop-n-init : goal.loop-n-init
loop-n-init c = numbered_none c.args.work.now

pub number_state-kept-requires : goal.number_state-kept-requires
number_state-kept-requires c = let a = kept_below c.args.work.now c.loop-n.n in omega (arith, a, c.loop-n.invariant.0, c.loop-n-test.true, c.ranges)

pub loop-n-preserved : goal.loop-n-preserved
loop-n-preserved c = numbered_on c.args.work.now _ _ _ _ _ c.loop-n.invariant.1 c.loop-n.invariant.0 c.number_state-kept.ensures.value c.number_state-kept.ensures.word

pub shape_of-work : goal.shape_of-work
shape_of-work c = ap length c.loop-n.invariant.1 ∙ numbered_length _ _

pub returns : goal.returns
returns c =
    let all = numbered_all c.args.work.now _ _ _ _ c.loop-n.auto.n-end c.loop-n-test.false c.loop-n.invariant.0 c.loop-n.invariant.1 in
    record { value = all.0; words = all.1 }
