use mathlib.Core.Path.{sym, ◌∙◌}
use borrow.Author.Rules.{rules}
use Rattle.useful_marks.proofs.MarkLaws.{settle_turn, settle_done}
use Rattle.useful_marks.proofs.settle_open.Goals as goal

pub loop-p-preserved : goal.loop-p-preserved
loop-p-preserved c = rw (c.set_high.ensures, c.middle_of-s.ensures) (settle_turn _ _ _ _ (search rules) ∙ c.loop-p.invariant)

pub returns : goal.returns
returns c = sym (settle_done _ _ _ _ (search rules)) ∙ c.loop-p.invariant
