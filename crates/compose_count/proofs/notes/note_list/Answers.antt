use mathlib.Core.Path.{refl, sym, ◌∙◌, ap, subst}
use Prim.Native.Nat.{ℕ, ◌≤◌}
use native.Mathlib.Omega.{arith}
use lib.ListN.{length}
use Rattle.words.specs.Machines.{tr_count}
use Rattle.words.proofs.ListLaws.{link, first_inside, list_turn}
use Rattle.fst.specs.Meaning.{tr_means}
use Rattle.stored_steps.specs.Storing.{AllGood}
use Rattle.compose_walk.specs.Plans.{edges_by}
use Rattle.compose_walk.proofs.Edges.{edges_end}
use Rattle.compose_count.specs.Notes.{notes_means}
use Rattle.compose_count.proofs.NoteLaws.{wanted_in, note_none}
use Rattle.compose_count.proofs.NoteEdges.{edges_good, edges_left, edges_noted, plan_parts, plan_noted}
use Rattle.compose_count.proofs.notes.note_list.Goals as goal

pub note_rest-noted-requires : goal.note_rest-noted-requires
note_rest-noted-requires c =
    let a = c.args in
    let p = c.requires in
    (p.0, p.1.known, (plan_parts a.c.plan a.mw.now a.mm.now p.2).0)

pub loop-t-init : goal.loop-t-init
loop-t-init c =
    let a = c.args in
    let v = a.c.plan in record {
      inside = subst (λ (t : ℕ). t ≤ tr_count a.mw.now) (sym c.first_at-t.ensures) (first_inside _ _);
      good = subst (λ (t : ℕ). AllGood (edges_by v a.mw.now a.mm.now t)) (sym c.first_at-t.ensures) (plan_parts v a.mw.now a.mm.now c.requires.2).1;
      left = λ trs. refl;
    }

pub note_edge-noted-requires : goal.note_edge-noted-requires
note_edge-noted-requires c =
    let a = c.args in
    let p = c.requires in
    let l = c.loop-t in
    let r = c.tr_at-edge in
    let x = c.walked_label-x in
    (p.0, p.1.known, edges_good a.c.plan a.mw.now a.mm.now l.t (tr_means r.result) x.result.0 c.loop-t-test.true l.invariant.inside r.ensures x.ensures l.invariant.good)

pub loop-t-smaller : goal.loop-t-smaller
loop-t-smaller c = let e = ap length (list_turn _ _ c.loop-t-test.true c.loop-t.invariant.inside) in rw c.next_at-t.ensures (omega (arith, e))

pub loop-t-preserved : goal.loop-t-preserved
loop-t-preserved c =
    let a = c.args in
    let l = c.loop-t in
    let n = c.loop-t-test.true in
    let r = c.tr_at-edge in
    let x = c.walked_label-x in
    let w = c.note_edge-noted in
    let u = c.next_at-t in
    let v = a.c.plan in record {
      inside = subst (λ (t : ℕ). t ≤ tr_count a.mw.now) (sym u.ensures) (link _ _).inside;
      good = edges_left v a.mw.now a.mm.now l.t (tr_means r.result) x.result.0 n l.invariant.inside r.ensures x.ensures u.result u.ensures l.invariant.good;
      left = λ trs.
          edges_noted v a.mw.now a.mm.now l.t (tr_means r.result) x.result.0 n l.invariant.inside r.ensures x.ensures
          (wanted_in a.heads.now a.states.now a.c trs) (notes_means l.chains l.records l.noted) (notes_means w.new.chains w.new.records w.result)
          u.result u.ensures (w.ensures trs)
          ∙ l.invariant.left trs;
    }

pub returns : goal.returns
returns c =
    let a = c.args in
    let l = c.loop-t in
    let w = c.note_rest-noted in
    let s = c.first_at-t in
    let v = a.c.plan in
    λ trs.
    let P = wanted_in a.heads.now a.states.now a.c trs in
    note_none P (notes_means l.chains l.records l.noted) (edges_by v a.mw.now a.mm.now l.t) (edges_end v a.mw.now a.mm.now l.t c.loop-t-test.false)
    ∙ (l.invariant.left trs
    ∙ plan_noted v a.mw.now a.mm.now P (notes_means a.chains.now a.records.now a.seen) (notes_means w.new.chains w.new.records w.result) s.result s.ensures (w.ensures trs))
