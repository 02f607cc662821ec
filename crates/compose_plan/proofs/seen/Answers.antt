-- Each fact by the counts of its list.
use Rattle.list_facts.proofs.FactLaws.{none_is, all_is}
use Rattle.compose_plan.proofs.seen.Goals as goal

pub returns : goal.returns
returns c =
    let p = c.requires in
    simp (none_is p.0.1, all_is p.0.1, none_is p.1.1, all_is p.1.1, c.all_eps.ensures, c.all_eps-2.ensures)
