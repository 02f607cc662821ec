-- By cases of the move.
use Rattle.compose_filters.proofs.null_compose_filter.filter_tr.Goals as goal

pub returns-in-Lone1 : goal.returns-in-Lone1
returns-in-Lone1 c = λ φ f. rw c.in-Lone1.is

pub returns-in-Lone2 : goal.returns-in-Lone2
returns-in-Lone2 c = λ φ f. rw c.in-Lone2.is

pub returns-in-BothEpsilon : goal.returns-in-BothEpsilon
returns-in-BothEpsilon c = λ φ f. rw c.in-BothEpsilon.is

pub returns-in-ALabel : goal.returns-in-ALabel
returns-in-ALabel c = λ φ f. rw c.in-ALabel.is
