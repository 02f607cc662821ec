-- A first above the number of records is read as 0.
use borrow.Author.Tests.{le-leb, lt-leb}
use Rattle.words.specs.Machines.{first_of, first_ok}
use Rattle.fst.proofs.fst_traits.first_tr.Goals as goal

pub returns-then-first-num_records : goal.returns-then-first-num_records
unfolding first_of first_ok
returns-then-first-num_records c = simp (← c.state_word-first.ensures, ← c.num_records.ensures, le-leb _ _ c.if-first-num_records.true)

pub returns-else-first-num_records : goal.returns-else-first-num_records
unfolding first_of first_ok
returns-else-first-num_records c = simp (← c.state_word-first.ensures, ← c.num_records.ensures, lt-leb _ _ c.if-first-num_records.false)
