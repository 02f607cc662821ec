use mathlib.Core.Path.{refl, sym, ◌∙◌, ap, subst}
use Prim.Native.Nat.{◌≤◌}
use native.Mathlib.Omega.{arith}
use lib.ListN.{length}
use Rattle.words.specs.Machines.{tr_count}
use Rattle.words.proofs.ListLaws.{link, first_inside, list_turn}
use Rattle.fst.specs.Meaning.{tr_means}
use Rattle.store_records.specs.Meaning.{store_in}
use Rattle.compose_walk.specs.Plans.{edge_by, edges_by, rest_by}
use Rattle.compose_walk.proofs.Edges.{none_stored, then_chained, edges_end, edges_first, edges_next, plan_rest, plan_left, plan_stored}
use Rattle.compose_walk.proofs.walk_list.Goals as goal

pub rest_moves-grown-requires : goal.rest_moves-grown-requires
rest_moves-grown-requires c =
    let a = c.args in
    let p = c.requires in
    (p.0.known, plan_rest a.plan a.mw.now a.mm.now (store_in a.heads.now a.states.now a.trs.now a.used) p.1, p.2)

pub loop-t-init : goal.loop-t-init
loop-t-init c =
    let a = c.args in
    let p = c.requires in
    let w = c.rest_moves-grown in
    let d = store_in a.heads.now a.states.now a.trs.now a.used in
    let e = store_in w.new.heads w.new.states w.new.trs w.result in record {
      inside = subst (λ t. t ≤ tr_count a.mw.now) (sym c.first_at-t.ensures) (first_inside _ _);
      fits = plan_left a.plan a.mw.now a.mm.now d e c.first_at-t.result c.first_at-t.ensures w.ensures p.1;
      same = refl;
      chained = then_chained d e (rest_by a.plan a.mm.now) w.ensures (plan_rest a.plan a.mw.now a.mm.now d p.1) p.2;
    }

pub edge_moves-grown-requires : goal.edge_moves-grown-requires
edge_moves-grown-requires c =
    let a = c.args in
    let l = c.loop-t in
    let r = c.tr_at-edge in
    let x = c.walked_label-x in
    (c.requires.0.known, edges_first a.plan a.mw.now a.mm.now l.t (tr_means r.result) x.result.0 c.loop-t-test.true l.invariant.inside r.ensures x.ensures (store_in l.heads l.states l.trs l.grown) l.invariant.fits, l.invariant.chained)

pub loop-t-smaller : goal.loop-t-smaller
loop-t-smaller c = let e = ap length (list_turn _ _ c.loop-t-test.true c.loop-t.invariant.inside) in rw c.next_at-t.ensures (omega (arith, e))

pub loop-t-preserved : goal.loop-t-preserved
loop-t-preserved c =
    let a = c.args in
    let l = c.loop-t in
    let n = c.loop-t-test.true in
    let r = c.tr_at-edge in
    let x = c.walked_label-x in
    let w = c.edge_moves-grown in
    let u = c.next_at-t in
    let d = store_in l.heads l.states l.trs l.grown in
    let e = store_in w.new.heads w.new.states w.new.trs w.result in
    let z = edges_next a.plan a.mw.now a.mm.now l.t (tr_means r.result) x.result.0 n l.invariant.inside r.ensures x.ensures d e u.result u.ensures w.ensures l.invariant.fits in
    let f = edges_first a.plan a.mw.now a.mm.now l.t (tr_means r.result) x.result.0 n l.invariant.inside r.ensures x.ensures d l.invariant.fits in record {
      inside = subst (λ t. t ≤ tr_count a.mw.now) (sym u.ensures) (link _ _).inside;
      fits = z.0;
      same = z.1 ∙ l.invariant.same;
      chained = then_chained d e (edge_by a.plan a.mm.now (tr_means r.result) x.result.0) w.ensures f l.invariant.chained;
    }

pub returns : goal.returns
returns c =
    let a = c.args in
    let l = c.loop-t in
    let w = c.rest_moves-grown in
    let s = c.first_at-t in
    let e = store_in w.new.heads w.new.states w.new.trs w.result in
    none_stored (store_in l.heads l.states l.trs l.grown) (edges_by a.plan a.mw.now a.mm.now l.t) (edges_end a.plan a.mw.now a.mm.now l.t c.loop-t-test.false)
    ∙ (l.invariant.same ∙ plan_stored a.plan a.mw.now a.mm.now (store_in a.heads.now a.states.now a.trs.now a.used) e s.result s.ensures w.ensures)
