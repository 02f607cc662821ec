-- The walk from here on finds what the whole chain finds; each link is lower than the one before it.
use mathlib.Core.Path.{◌≡◌}
use Prim.Native.Nat.{◌≤◌}
use Rattle.lists.specs.Lists.{first, linked}
use Rattle.calls.specs.Store.{triple_at, next_at, same_triple}
use Rattle.compose_state_tuple.specs.Meaning.{tuple_means}
use Rattle.state_table.proofs.placing.link_along.Given as goal

abbrev pub invariant-loop-link : goal.invariant-loop-link
invariant-loop-link l =
    (l.link ≤ l.from)
    × (first (λ n. same_triple (triple_at l.states n) (tuple_means l.tuple)) (linked (next_at l.states) l.link l.link)
    ≡ first (λ n. same_triple (triple_at l.states n) (tuple_means l.tuple)) (linked (next_at l.states) l.from l.from))

abbrev pub decreases-loop-link : goal.decreases-loop-link
decreases-loop-link l = l.link
