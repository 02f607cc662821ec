-- By the kind: 0, or any other number.
use Rattle.semirings.proofs.KindLaws.{kind_count}
use Rattle.semirings.proofs.zero.Goals as goal

pub returns-then-kind-eq0 : goal.returns-then-kind-eq0
returns-then-kind-eq0 c = rw c.if-kind-eq0.true

pub returns-else-kind-eq0 : goal.returns-else-kind-eq0
returns-else-kind-eq0 c = rw (kind_count _ c.if-kind-eq0.false)
