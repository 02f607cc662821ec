-- By cases of the move, and of f.
use mathlib.Core.Path.{sym}
use Rattle.compose_filters.specs.Meaning.{facts_mean}
use Rattle.compose_filters.proofs.FilterCells.{alternate_else}
use Rattle.compose_filters.proofs.alt_sequence_compose_filter.filter_tr.Goals as goal

pub returns-in-Lone1 : goal.returns-in-Lone1
returns-in-Lone1 c = rw c.in-Lone1.is c.all_first.ensures

pub returns-then-f-eq1 : goal.returns-then-f-eq1
returns-then-f-eq1 c = rw (c.in-Lone2.is, c.if-f-eq1.true)

pub returns-else-f-eq1 : goal.returns-else-f-eq1
returns-else-f-eq1 c = rw c.in-Lone2.is (sym (alternate_else (facts_mean c.args.facts) c.args.f c.if-f-eq1.false))

pub returns-in-BothEpsilon : goal.returns-in-BothEpsilon
returns-in-BothEpsilon c = rw c.in-BothEpsilon.is

pub returns-in-ALabel : goal.returns-in-ALabel
returns-in-ALabel c = rw c.in-ALabel.is
