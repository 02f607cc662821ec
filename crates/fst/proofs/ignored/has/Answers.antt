-- Among the early items, else among the late.
use mathlib.Core.Path.{◌∙◌}
use Rattle.fst.proofs.ListedIn.{split_by}
use Rattle.fst.proofs.ignored.has.Goals as goal

pub returns-then-in_turn : goal.returns-then-in_turn
returns-then-in_turn c =
    c.if-in_turn.true ∙ (rw (c.if-in_turn.true) at (split_by c.args.label.0 8 c.args.list.now _ _ _ c.split_at.ensures.front c.split_at.ensures.back c.in_turn-2.ensures))

pub returns-else-in_turn : goal.returns-else-in_turn
returns-else-in_turn c =
    c.at_once.ensures ∙ (rw (c.if-in_turn.false) at (split_by c.args.label.0 8 c.args.list.now _ _ _ c.split_at.ensures.front c.split_at.ensures.back c.in_turn-2.ensures))
