-- By the direction; the product is the same either way.
use mathlib.Core.Path.{sym, ◌∙◌}
use Rattle.compose_walk.proofs.Turns.{times_swap}
use Rattle.compose_walk.proofs.pairs.joined.Goals as goal

pub returns-in-MatchInput : goal.returns-in-MatchInput
returns-in-MatchInput c = rw (c.in-MatchInput.is, sym c.times.ensures ∙ c.unwrap-weight.ensures)

pub returns-in-MatchOutput : goal.returns-in-MatchOutput
returns-in-MatchOutput c =
    let a = c.args in
    rw (c.in-MatchOutput.is, times_swap _ a.looked.weight a.walked.weight, sym c.times.ensures ∙ c.unwrap-weight.ensures)
