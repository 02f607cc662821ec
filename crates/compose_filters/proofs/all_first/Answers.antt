-- The tests in their order.
use Rattle.compose_filters.proofs.all_first.Goals as goal

pub returns : goal.returns
returns c = rw (c.if-all.false, c.if-none.false)
