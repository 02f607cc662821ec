-- The start word is one above the start, and 0 where there is none.
use Rattle.fst.proofs.Tests.{less_one_lem}
use mathlib.Core.Path.{sym}
use Rattle.fst.proofs.fst_traits.start.Goals as goal

pub returns-then-n-eq0 : goal.returns-then-n-eq0
returns-then-n-eq0 c = rw (← c.start_word-n.ensures, c.if-n-eq0.true)

pub returns : goal.returns
returns c = rw (← c.start_word-n.ensures) (sym (less_one_lem _ c.if-n-eq0.false))
