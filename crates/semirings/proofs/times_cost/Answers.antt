-- MAX absorbs; else the sum is below MAX, or too large.
use mathlib.Core.Path.{◌∙◌}
use Rattle.semirings.proofs.KindLaws.{absorbs, sum_lacks, sum_small, sum_large}
use Rattle.semirings.proofs.times_cost.Goals as goal

pub returns-then-a-eq-MAX : goal.returns-then-a-eq-MAX
returns-then-a-eq-MAX c = absorbs c.args.a c.args.b c.then-a-eq-MAX.either

pub returns-in_err-sum : goal.returns-in_err-sum
returns-in_err-sum c = c.from_residual.ensures ∙ sum_lacks _ _ c.if-a-eq-MAX.false c.if-b-eq-MAX.false _ c.checked_add.ensures c.in_err-sum.was

pub returns-then-sum-lt-MAX : goal.returns-then-sum-lt-MAX
returns-then-sum-lt-MAX c = sum_small _ _ c.if-a-eq-MAX.false c.if-b-eq-MAX.false _ _ c.checked_add.ensures c.in_ok-sum.was c.if-sum-lt-MAX.true

pub returns-else-sum-lt-MAX : goal.returns-else-sum-lt-MAX
returns-else-sum-lt-MAX c = sum_large _ _ c.if-a-eq-MAX.false c.if-b-eq-MAX.false _ _ c.checked_add.ensures c.in_ok-sum.was c.if-sum-lt-MAX.false
