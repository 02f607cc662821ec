-- As many epsilons are left as are to come, so the record in hand is one.
use mathlib.Core.Path.{◌≡◌, ap}
use native.Mathlib.Omega.{arith}
use lib.ListN.{length, drop_of_length-le}
use Rattle.words.specs.Labels.{eps_label}
use Rattle.words.specs.Matches.{label_on}
use Rattle.words.specs.Machines.{machine_of}
use Rattle.fst.specs.Meaning.{on_of}
use Rattle.matchers.specs.Cursors.{with_label}
use Rattle.sorted_lists.proofs.Along.{with_here}
use Rattle.compose_walk.proofs.Turns.{some_here, at_end, at_product, at_room, at_turn}
use Rattle.compose_walk.proofs.with_eps.Goals as goal
use Rattle.compose_walk.proofs.with_eps.Goals.{In-loop}

-- an epsilon is in hand
here : (c : In-loop) → let u = c.loop.u in (u ≡ 0 → ⊥) × (label_on (on_of c.args.on) (machine_of c.args.mm.now) u ≡ eps_label)
here c = let i = c.loop.invariant in some_here _ _ _ _ i.stands.inside i.stands.rises (omega (arith, c.loop-test.true, i.left))

pub tr_at-found-requires : goal.tr_at-found-requires
tr_at-found-requires c =
    let p = c.requires in
    let h = here (goal.at.tr_at-found-requires c).In-loop in
    (p.0, p.1, (omega (arith, h.0), c.loop.invariant.stands.inside))

pub joined-requires : goal.joined-requires
joined-requires c = let h = here (goal.at.joined-requires c).In-loop in at_product c.loop.invariant.stands h.0 h.1 c.tr_at-found.ensures

pub push-grown-requires : goal.push-grown-requires
push-grown-requires c = let h = here (goal.at.push-grown-requires c).In-loop in at_room c.loop.invariant.stands h.0 h.1 c.tr_at-found.ensures c.joined.ensures

pub next_at-u-requires : goal.next_at-u-requires
next_at-u-requires c =
    let p = c.requires in
    let h = here (goal.at.next_at-u-requires c).In-loop in
    (p.0, p.1, (omega (arith, h.0), c.loop.invariant.stands.inside))

pub loop-preserved : goal.loop-preserved
loop-preserved c =
    let a = c.args in
    let i = c.loop.invariant in
    let h = here (goal.at.loop-preserved c).In-loop in
    let e = ap length (with_here (on_of a.on) a.mm.now eps_label c.loop.u h.0 i.stands.inside h.1) in
    rw c.next_at-u.ensures
    (record { left = omega (arith, i.left, e); stands = at_turn i.stands h.0 h.1 c.tr_at-found.ensures c.joined.ensures c.push-grown.ensures })

pub returns : goal.returns
returns c =
    let a = c.args in
    let i = c.loop.invariant in
    at_end i.stands (drop_of_length-le (with_label (on_of a.on) a.mm.now eps_label c.loop.u) {i = 0} (omega (arith, i.left, c.loop-test.false)))
