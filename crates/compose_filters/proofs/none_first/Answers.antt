-- The tests in their order.
use Rattle.compose_filters.proofs.none_first.Goals as goal

pub returns : goal.returns
returns c = rw (c.if-none.false, c.if-all.false)
