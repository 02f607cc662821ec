-- A state that was not expanded before is expanded by a piece of one state, and its list is the new records.
use mathlib.Core.Path.{sym, ◌∙◌}
use Rattle.compose_run.proofs.OneTurn.{one_new, one_refused}
use Rattle.compose_run.proofs.expand_found.Goals as goal

pub new_part-requires : goal.new_part-requires
new_part-requires c =
    let p = c.requires in
    let h = sym c.is_expanded.ensures ∙ c.if-is_expanded.false in
    (one_new _ _ _ _ _ p.0 p.1 h _ _ (rw c.in-Ok.is at c.compute_from-stopped.ensures.ran_after)).0

pub returns-in-Ok-clause-result_after : goal.returns-in-Ok-clause-result_after
returns-in-Ok-clause-result_after c =
    let p = c.requires in
    let h = sym c.is_expanded.ensures ∙ c.if-is_expanded.false in
    rw (c.new_part.ensures c.args.used.states c.in-Ok.after.states) (one_new _ _ _ _ _ p.0 p.1 h _ _ (rw c.in-Ok.is at c.compute_from-stopped.ensures.ran_after)).1

pub returns-in-Err-clause-result_after : goal.returns-in-Err-clause-result_after
returns-in-Err-clause-result_after c =
    let p = c.requires in
    let h = sym c.is_expanded.ensures ∙ c.if-is_expanded.false in
    one_refused _ _ _ _ _ p.0 p.1 h _ _ _ (rw c.in-Err.is at c.compute_from-stopped.ensures.ran_after)
