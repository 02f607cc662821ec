use mathlib.Core.Path.{◌≡◌, ap}
use Prim.Native.Nat.{◌+◌, ◌-◌}
use native.Mathlib.Omega.{arith}
use native.Mathlib.Nat.{sub-zero, zero-add}
use lib.ListN.{length}
use Rattle.calls.specs.Store.{tr_next_at}
use Rattle.lists.proofs.Links.{linked_turn, linked_zero, linked_none}
use Rattle.tr_lists.proofs.count_links.Goals as goal

pub loop-count-init : goal.loop-count-init
loop-count-init c = rw sub-zero (zero-add _)

pub returns-then-link-eq0 : goal.returns-then-link-eq0
returns-then-link-eq0 c = let l = c.loop-count in omega (arith, l.invariant, ap length (linked_zero (tr_next_at c.args.trs.now) (c.args.most - l.count) _ c.if-link-eq0.true))

pub loop-count-preserved : goal.loop-count-preserved
loop-count-preserved c =
    let a = c.args in
    let l = c.loop-count in
    let e : a.most - l.count - 1 ≡ a.most - (l.count + 1) = omega arith in
    let t = linked_turn (tr_next_at a.trs.now) (a.most - l.count) l.link (omega arith) c.if-link-eq0.false in
    rw (c.tr_next-link.ensures, ← e) (omega (arith, l.invariant, ap length t))

pub returns : goal.returns
returns c = let l = c.loop-count in omega (arith, l.invariant, ap length (linked_none (tr_next_at c.args.trs.now) (c.args.most - l.count) l.link (omega arith)))
