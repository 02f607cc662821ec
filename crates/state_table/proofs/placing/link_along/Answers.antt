use Prim.Native.Nat.{◌-◌}
use native.Mathlib.Omega.{arith}
use Rattle.lists.specs.Lists.{first}
use Rattle.calls.specs.Store.{triple_at, next_at, same_triple}
use Rattle.compose_state_tuple.specs.Meaning.{tuple_means}
use Rattle.lists.proofs.Links.{linked_zero}
use Rattle.state_table.proofs.ChainTurns.{falling_turn, link_some}
use Rattle.state_table.proofs.placing.link_along.Goals as goal

pub returns-then-holds_tuple : goal.returns-then-holds_tuple
returns-then-holds_tuple c =
    let l = c.loop-link in
    let t = c.loop-link-test.true in
    rw (link_some l.link t)
    (rw (falling_turn (λ n. same_triple (triple_at c.args.states.now n) (tuple_means c.args.tuple)) (next_at c.args.states.now) l.link t (λ n h. c.requires.1 n (omega (arith, l.invariant.0))), ← c.holds_tuple.ensures, c.if-holds_tuple.true) at l.invariant.1)

pub loop-link-smaller : goal.loop-link-smaller
loop-link-smaller c =
    let l = c.loop-link in
    let t = c.loop-link-test.true in
    rw c.next_in-link.ensures (omega (arith, t, c.requires.1 (l.link - 1) (omega (arith, t, l.invariant.0))))

pub loop-link-preserved : goal.loop-link-preserved
loop-link-preserved c =
    let l = c.loop-link in
    let t = c.loop-link-test.true in
    let low = c.requires.1 (l.link - 1) (omega (arith, t, l.invariant.0)) in
    rw c.next_in-link.ensures (
      omega (arith, low, l.invariant.0),
      rw (falling_turn (λ n. same_triple (triple_at c.args.states.now n) (tuple_means c.args.tuple)) (next_at c.args.states.now) l.link t (λ n h. c.requires.1 n (omega (arith, l.invariant.0))), ← c.holds_tuple.ensures, c.if-holds_tuple.false) at l.invariant.1,
    )

pub returns : goal.returns
unfolding first
returns c = let l = c.loop-link in rw (linked_zero (next_at c.args.states.now) l.link l.link c.loop-link-test.false) at l.invariant.1
