-- The word at its place; a state that is not there has words 0.
use borrow.Author.Tests.{lt-ltb, le-ltb}
use Rattle.words.specs.Machines.{state_word}
use Rattle.fst.proofs.fst_traits.state_word.Goals as goal

pub returns-then-num_states-s : goal.returns-then-num_states-s
unfolding state_word
returns-then-num_states-s c = simp (← c.num_states.ensures, le-ltb _ _ c.if-num_states-s.true)

pub returns : goal.returns
unfolding state_word
returns c = simp (← c.num_states.ensures, lt-ltb _ _ c.if-num_states-s.false, c.word.ensures)
