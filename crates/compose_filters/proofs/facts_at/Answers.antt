-- Each fact by its own function.
use Rattle.compose_filters.proofs.facts_at.Goals as goal

pub returns : goal.returns
returns c = simp (rw c.first.ensures at c.no_eps.ensures, rw c.first-2.ensures at c.all_eps.ensures, rw c.second.ensures at c.no_eps-2.ensures, rw c.second-2.ensures at c.all_eps-2.ensures)
