-- An epsilon is handed on; of another label, the records from the first found on, or none.
use mathlib.Core.Path.{refl, sym, subst}
use Rattle.std.specs.Prelude.{Some}
use Rattle.words.specs.Weights.{kind_of}
use Rattle.fst.specs.Meaning.{tr_means}
use Rattle.fst.proofs.Tests.{fails, holds}
use Rattle.matchers.specs.Cursors.{with_label}
use Rattle.stored_steps.specs.Storing.{AllGood}
use Rattle.compose_walk.specs.Plans.{side_by, with_records, eps_by, edge_by}
use Rattle.compose_walk.proofs.Edges.{from_inside, edge_eps, edge_from}
use Rattle.compose_count.specs.Notes.{notes_means}
use Rattle.compose_count.proofs.NoteLaws.{wanted_in, as_noted}
use Rattle.compose_count.proofs.NoteEdges.{found_rising}
use Rattle.compose_count.proofs.notes.note_edge.Goals as goal

pub returns-then-eq : goal.returns-then-eq
returns-then-eq c =
    let a = c.args in
    let w = tr_means a.edge in
    let e = edge_eps a.c.plan a.mm.now w a.x.0 (holds c.eq.ensures c.if-eq.true) in
    let x = c.note_eps in
    λ trs.
    as_noted (wanted_in a.heads.now a.states.now a.c trs) (notes_means a.chains.now a.records.now a.seen) (notes_means x.new.chains x.new.records x.result)
    (eps_by a.c.plan a.mm.now w) (edge_by a.c.plan a.mm.now w a.x.0) (sym e) (x.ensures trs w refl (subst AllGood e c.requires.2))

pub note_records-requires : goal.note_records-requires
note_records-requires c =
    let a = c.args in
    let p = c.requires in
    let f = c.find-from in
    let v = a.c.plan in (
      p.0,
      p.1.form,
      p.1.base,
      from_inside (side_by v) a.mm.now a.x.0 v.list.first f.result f.ensures,
      found_rising (side_by v) a.mm.now a.x.0 v.list.first f.result f.ensures p.1.sorted,
    )

pub returns : goal.returns
returns c =
    let a = c.args in
    let f = c.find-from in
    let w = tr_means a.edge in
    let e = edge_from a.c.plan a.mm.now w a.x.0 f.result (fails c.eq.ensures c.if-eq.false) f.ensures in
    let x = c.note_records in
    let v = a.c.plan in
    λ trs.
    as_noted (wanted_in a.heads.now a.states.now a.c trs) (notes_means a.chains.now a.records.now a.seen) (notes_means x.new.chains x.new.records x.result)
    (with_records (side_by v) (kind_of v.kind) a.mm.now w (Some 0) (with_label (side_by v) a.mm.now a.x.0 f.result)) (edge_by v a.mm.now w a.x.0) (sym e)
    (x.ensures trs (kind_of v.kind) w refl (subst AllGood e c.requires.2))
