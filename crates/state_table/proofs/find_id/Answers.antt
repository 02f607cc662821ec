-- The head of the chain, and the walk from it. The transitions are not looked at.
use Rattle.calls.specs.Store.{head_of, chain_with, find_with}
use Rattle.state_table.proofs.find_id.Goals as goal

pub returns : goal.returns
unfolding find_with chain_with head_of
returns c = λ trs k. rw (c.find_along.ensures, c.word-head.ensures, c.slot.ensures)
