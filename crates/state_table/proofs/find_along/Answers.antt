use mathlib.Core.Path.{◌≡◌}
use Prim.Native.Nat.{◌+◌, ◌-◌}
use native.Mathlib.Omega.{arith}
use native.Mathlib.Nat.{sub-zero}
use Rattle.lists.specs.Lists.{first}
use Rattle.calls.specs.Store.{triple_at, next_at, same_triple}
use Rattle.compose_state_tuple.specs.Meaning.{tuple_means}
use Rattle.lists.proofs.Links.{linked_zero, linked_none}
use Rattle.state_table.proofs.ChainTurns.{first_turn}
use Rattle.state_table.proofs.find_along.Goals as goal

pub loop-init : goal.loop-init
loop-init c = rw sub-zero

pub returns-then-link-eq0 : goal.returns-then-link-eq0
unfolding first
returns-then-link-eq0 c = rw (linked_zero (next_at _) _ _ c.if-link-eq0.true) at c.loop.invariant

pub returns-then-has_tuple : goal.returns-then-has_tuple
returns-then-has_tuple c =
    let a = c.args in
    let l = c.loop in
    rw (first_turn (λ n. same_triple (triple_at a.states.now n) (tuple_means a.tuple)) (next_at a.states.now) (a.most - l.counter) l.link (omega arith) c.if-link-eq0.false, ← c.has_tuple.ensures, c.if-has_tuple.true) at l.invariant

pub loop-preserved : goal.loop-preserved
loop-preserved c =
    let a = c.args in
    let l = c.loop in
    let e : a.most - l.counter - 1 ≡ a.most - (l.counter + 1) = omega arith in
    rw (first_turn (λ n. same_triple (triple_at a.states.now n) (tuple_means a.tuple)) (next_at a.states.now) (a.most - l.counter) l.link (omega arith) c.if-link-eq0.false, ← c.has_tuple.ensures, c.if-has_tuple.false, ← c.next_of-link.ensures, e) at l.invariant

pub returns : goal.returns
unfolding first
returns c = rw (linked_none (next_at c.args.states.now) (c.args.most - c.loop.counter) c.loop.link (omega arith)) at c.loop.invariant
