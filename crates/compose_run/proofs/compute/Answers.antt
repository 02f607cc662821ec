-- The piece from state 0 on, of as many states as there is room for, with memos that remember nothing yet.
use Rattle.list_facts.proofs.Entries.{nothing_remembered}
use Rattle.compose_run.proofs.compute.Goals as goal

pub compute_from-stopped-requires : goal.compute_from-stopped-requires
compute_from-stopped-requires c = (c.requires, nothing_remembered _ _ _, nothing_remembered _ _ _)
