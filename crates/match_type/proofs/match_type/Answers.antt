-- The refusals in the order of `side_of`, then the side.
use Rattle.words.specs.Sides.{side_of}
use Rattle.match_type.proofs.match_type.Goals as goal

pub returns-then-has_eps : goal.returns-then-has_eps
unfolding side_of
returns-then-has_eps c = rw (← c.has_eps.ensures, c.if-has_eps.true)

pub returns-then-lacks_order : goal.returns-then-lacks_order
unfolding side_of
returns-then-lacks_order c = rw (← c.has_eps.ensures, c.if-has_eps.false, ← rw c.first.ensures at c.lacks_order.ensures, c.if-lacks_order.true)

pub returns-then-lacks_order-2 : goal.returns-then-lacks_order-2
unfolding side_of
returns-then-lacks_order-2 c = rw (← c.has_eps.ensures, c.if-has_eps.false, ← rw c.first.ensures at c.lacks_order.ensures, c.if-lacks_order.false, ← rw c.second.ensures at c.lacks_order-2.ensures, c.if-lacks_order-2.true)

pub returns : goal.returns
unfolding side_of
returns c = rw (← c.has_eps.ensures, c.if-has_eps.false, ← rw c.first.ensures at c.lacks_order.ensures, c.if-lacks_order.false, ← rw c.second.ensures at c.lacks_order-2.ensures, c.if-lacks_order-2.false) c.side_by_marks.ensures
