-- By the two marks; where neither is 1, by the lists.
use borrow.Author.Tests.{eq-eqb, ne_eqb}
use Rattle.words.specs.Matches.{inputs, outputs}
use Rattle.words.proofs.ReplacedLaws.{read_mark}
use Rattle.fst.specs.Meaning.{ignored_under}
use Rattle.match_type.proofs.side_by_marks.Goals as goal

pub returns-then-mark2-eq1 : goal.returns-then-mark2-eq1
returns-then-mark2-eq1 c = let a = c.args in rw (read_mark outputs (ignored_under a.two.sigmas a.two.ignored.now) a.two.m1.now, read_mark inputs (ignored_under a.two.sigmas a.two.ignored.now) a.two.m2.now, ← c.inner_mark-mark1.ensures, ← c.inner_mark-mark2.ensures, eq-eqb _ _ c.if-mark1-eq1.true, eq-eqb _ _ c.if-mark2-eq1.true)

pub returns-then-mark1-eq1 : goal.returns-then-mark1-eq1
returns-then-mark1-eq1 c = let a = c.args in rw (read_mark outputs (ignored_under a.two.sigmas a.two.ignored.now) a.two.m1.now, read_mark inputs (ignored_under a.two.sigmas a.two.ignored.now) a.two.m2.now, ← c.inner_mark-mark1.ensures, ← c.inner_mark-mark2.ensures, eq-eqb _ _ c.if-mark1-eq1.true, ne_eqb _ _ c.if-mark2-eq1.false)

pub returns-then-mark2-eq1-2 : goal.returns-then-mark2-eq1-2
returns-then-mark2-eq1-2 c = let a = c.args in rw (read_mark outputs (ignored_under a.two.sigmas a.two.ignored.now) a.two.m1.now, read_mark inputs (ignored_under a.two.sigmas a.two.ignored.now) a.two.m2.now, ← c.inner_mark-mark1.ensures, ← c.inner_mark-mark2.ensures, ne_eqb _ _ c.if-mark1-eq1.false, eq-eqb _ _ c.if-mark2-eq1-2.true)

pub returns : goal.returns
returns c = let a = c.args in rw (read_mark outputs (ignored_under a.two.sigmas a.two.ignored.now) a.two.m1.now, read_mark inputs (ignored_under a.two.sigmas a.two.ignored.now) a.two.m2.now, ← c.inner_mark-mark1.ensures, ← c.inner_mark-mark2.ensures, ne_eqb _ _ c.if-mark1-eq1.false, ne_eqb _ _ c.if-mark2-eq1-2.false) c.side_by_lists.ensures
