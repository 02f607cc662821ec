-- What was seen of the heads before this one, with those from here on, gives what all heads give.
use mathlib.Core.Path.{◌≡◌}
use mathlib.Core.Bool.{◌&&◌}
use lib.Dec.{leb}
use lib.ListN.{drop}
use Rattle.lists.specs.Lists.{every}
use Rattle.store_form.proofs.heads_used.Given as goal

abbrev pub invariant-loop-head : goal.invariant-loop-head
invariant-loop-head l = l.fine && every (λ h. leb h l.used) (drop l.head-index l.heads) ≡ every (λ h. leb h l.used) l.heads
