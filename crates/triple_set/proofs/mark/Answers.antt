-- The look-up, and then the mark.
use mathlib.Core.List.{[]}
use borrow.Author.Tests.{eq-eqb, ne_eqb}
use Rattle.triple_set.specs.Sets.{mark_of}
use Rattle.triple_set.proofs.mark.Goals as goal

pub returns-in_default : goal.returns-in_default
unfolding mark_of
returns-in_default c = rw (← c.find_id.ensures [] 0, c.in_default.is)

pub returns-then-word-ne0 : goal.returns-then-word-ne0
unfolding mark_of
returns-then-word-ne0 c = rw (← c.find_id.ensures [] 0, c.in-Some.is, ne_eqb _ _ (rw c.word.ensures at c.if-word-ne0.true))

pub returns : goal.returns
unfolding mark_of
returns c = rw (← c.find_id.ensures [] 0, c.in-Some.is, eq-eqb _ _ (rw c.word.ensures at c.if-word-ne0.false), c.store.ensures)
