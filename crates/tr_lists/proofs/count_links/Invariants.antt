-- What was counted, with the length of the walk from here on, is the whole length.
use mathlib.Core.Path.{◌≡◌}
use Prim.Native.Nat.{◌+◌, ◌-◌}
use lib.ListN.{length}
use Rattle.lists.specs.Lists.{linked}
use Rattle.calls.specs.Store.{tr_next_at}
use Rattle.tr_lists.proofs.count_links.Given as goal

abbrev pub invariant-loop-count : goal.invariant-loop-count
invariant-loop-count l = l.count + length (linked (tr_next_at l.trs) (l.most - l.count) l.link) ≡ length (linked (tr_next_at l.trs) l.most l.first)
