-- The walk from here on finds what the whole chain finds; at an exit the chain ends, or the state in hand has the triple.
use mathlib.Core.Path.{◌≡◌}
use Prim.Native.Nat.{◌-◌}
use Rattle.lists.specs.Lists.{first, linked}
use Rattle.calls.specs.Store.{triple_at, next_at, same_triple}
use Rattle.compose_state_tuple.specs.Meaning.{tuple_means}
use Rattle.state_table.proofs.find_along.Given as goal

abbrev pub invariant-loop : goal.invariant-loop
invariant-loop l =
    first (λ n. same_triple (triple_at l.states n) (tuple_means l.tuple)) (linked (next_at l.states) (l.most - l.counter) l.link)
    ≡ first (λ n. same_triple (triple_at l.states n) (tuple_means l.tuple)) (linked (next_at l.states) l.most l.from)
