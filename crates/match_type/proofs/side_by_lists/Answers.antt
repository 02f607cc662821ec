-- By the two facts.
use Rattle.match_type.proofs.side_by_lists.Goals as goal

pub returns-then-known_sorted : goal.returns-then-known_sorted
returns-then-known_sorted c = rw (← rw c.first.ensures at c.known_sorted.ensures, c.if-known_sorted.true)

pub returns-then-known_sorted-2 : goal.returns-then-known_sorted-2
returns-then-known_sorted-2 c = rw (← rw c.first.ensures at c.known_sorted.ensures, ← rw c.second.ensures at c.known_sorted-2.ensures, c.if-known_sorted.false, c.if-known_sorted-2.true)

pub returns : goal.returns
returns c = rw (← rw c.first.ensures at c.known_sorted.ensures, ← rw c.second.ensures at c.known_sorted-2.ensures, c.if-known_sorted.false, c.if-known_sorted-2.false)
