-- The first is read, the links are counted.
use Rattle.calls.specs.Store.{part_with}
use Rattle.tr_lists.proofs.part_of.Goals as goal

pub returns : goal.returns
unfolding part_with
returns c = λ heads u. rw (c.count_links.ensures, c.first_of-first.ensures)
