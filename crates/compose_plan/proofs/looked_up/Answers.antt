-- The facts of the list, and that the machine is sorted.
use mathlib.Core.Path.{refl}
use Rattle.words.proofs.ListLaws.{first_inside}
use Rattle.sorted_lists.proofs.Along.{sorted_rising}
use Rattle.list_facts.proofs.FactLaws.{straight_is}
use Rattle.compose_plan.proofs.Lists.{len_from, eps_from}
use Rattle.compose_plan.proofs.looked_up.Goals as goal

pub returns : goal.returns
returns c =
    let p = c.requires in
    let f = p.3.1 in
    rw c.first_at.ensures (
      record {
        form = p.0;
        base = c.record_base.ensures;
        first = first_inside _ _;
        len = len_from f;
        eps = eps_from f;
        sorted = sorted_rising _ _ _ p.2 p.1;
        straight = straight_is f;
      },
      refl,
      refl,
    )
