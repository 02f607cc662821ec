-- What is left to search is halved; every read is in range.
use Rattle.sorted_lists.proofs.Halves.{Left}
use Rattle.sorted_lists.proofs.seek.Given as goal

abbrev pub invariant-loop-n : goal.invariant-loop-n
invariant-loop-n l = Left l.m l.from l.count l.x l.p l.n

abbrev pub decreases-loop-n : goal.decreases-loop-n
decreases-loop-n l = l.n
