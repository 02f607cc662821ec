-- An epsilon is handed on; of another label, the records from the first found on, or none.
use mathlib.Core.Path.{sym, ◌∙◌, subst}
use Rattle.std.specs.Prelude.{Some}
use Rattle.words.specs.Weights.{kind_of}
use Rattle.fst.specs.Meaning.{tr_means}
use Rattle.fst.proofs.Tests.{fails, holds}
use Rattle.matchers.specs.Cursors.{with_label}
use Rattle.store_records.specs.Meaning.{store_in}
use Rattle.stored_steps.specs.Storing.{Fits}
use Rattle.compose_walk.specs.Plans.{side_by, with_records, eps_by, edge_by}
use Rattle.compose_walk.proofs.Edges.{none_stored, as_steps, no_records, from_inside, from_none, from_rising, edge_eps, edge_label, edge_from}
use Rattle.compose_walk.proofs.edge_moves.Goals as goal

pub eps_moves-requires : goal.eps_moves-requires
eps_moves-requires c =
    let a = c.args in
    let p = c.requires in
    let d = store_in a.heads.now a.states.now a.trs.now a.used in
    (p.0, subst (Fits d) (edge_eps a.plan a.mm.now (tr_means a.edge) a.x.0 (holds c.eq.ensures c.if-eq.true)) p.1, p.2)

pub returns-then-eq : goal.returns-then-eq
returns-then-eq c =
    let a = c.args in
    let x = c.eps_moves in
    let w = tr_means a.edge in
    as_steps (store_in a.heads.now a.states.now a.trs.now a.used) (store_in x.new.heads x.new.states x.new.trs x.result) (eps_by a.plan a.mm.now w) (edge_by a.plan a.mm.now w a.x.0)
    (sym (edge_eps a.plan a.mm.now w a.x.0 (holds c.eq.ensures c.if-eq.true))) x.ensures

pub returns-then-from-eq0 : goal.returns-then-from-eq0
returns-then-from-eq0 c =
    let a = c.args in
    let d = store_in a.heads.now a.states.now a.trs.now a.used in
    none_stored d (edge_by a.plan a.mm.now (tr_means a.edge) a.x.0)
    (edge_label a.plan a.mm.now (tr_means a.edge) a.x.0 (fails c.eq.ensures c.if-eq.false)
    ∙ no_records _ _ _ _ _ _ (from_none (side_by a.plan) a.mm.now a.x.0 a.plan.list.first c.find-from.result c.find-from.ensures c.if-from-eq0.true))

pub with_label-requires : goal.with_label-requires
with_label-requires c =
    let a = c.args in
    let p = c.requires in
    let f = c.find-from in
    let d = store_in a.heads.now a.states.now a.trs.now a.used in
    let v = a.plan in (
      p.0.form,
      p.0.base,
      from_inside (side_by v) a.mm.now a.x.0 v.list.first f.result f.ensures,
      from_rising (side_by v) a.mm.now a.x.0 v.list.first f.result f.ensures 0 c.if-from-eq0.false p.0.sorted,
      subst (Fits d) (edge_from v a.mm.now (tr_means a.edge) a.x.0 f.result (fails c.eq.ensures c.if-eq.false) f.ensures) p.1,
      p.2,
    )

pub returns : goal.returns
returns c =
    let a = c.args in
    let f = c.find-from in
    let x = c.with_label in
    let v = a.plan in
    let w = tr_means a.edge in
    as_steps (store_in a.heads.now a.states.now a.trs.now a.used) (store_in x.new.heads x.new.states x.new.trs x.result)
    (with_records (side_by v) (kind_of v.kind) a.mm.now w (Some 0) (with_label (side_by v) a.mm.now a.x.0 f.result)) (edge_by v a.mm.now w a.x.0)
    (sym (edge_from v a.mm.now w a.x.0 f.result (fails c.eq.ensures c.if-eq.false) f.ensures)) x.ensures
