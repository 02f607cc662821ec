-- The epsilon alone is stored where it is kept, and then the pairs.
use mathlib.Core.Path.{◌≡◌, sym, ◌∙◌, subst}
use mathlib.Core.List.{◌++◌}
use Rattle.std.specs.Prelude.{Some}
use Rattle.words.specs.Labels.{eps_label}
use Rattle.words.specs.Weights.{kind_of}
use Rattle.fst.specs.Meaning.{tr_means}
use Rattle.store_records.specs.Meaning.{store_in}
use Rattle.compose_moves.specs.Moves.{compose_tr_means}
use Rattle.stored_steps.specs.Storing.{store_all, Fits}
use Rattle.stored_steps.proofs.AllSteps.{fits_append}
use Rattle.compose_walk.specs.Plans.{side_by, with_labelled}
use Rattle.compose_walk.proofs.Turns.{fits_product}
use Rattle.compose_walk.proofs.Edges.{first_room, one_stored, none_stored, as_steps, then_fits, then_chained, then_stored, same_store, no_pairs, alone_by, both_by, alone_is, alone_none, both_is}
use Rattle.compose_walk.proofs.eps_moves.Goals as goal
use Rattle.compose_walk.proofs.eps_moves.Goals.{in-Some, in_default, Joined-plan}

pub joined-tr-requires : goal.joined-tr-requires
joined-tr-requires c =
    let a = c.args in
    let v = a.plan in
    let e = tr_means a.edge in
    let r = c.resting-rest in
    let others = both_by v a.mm.now e in
    fits_product (side_by v) (kind_of v.kind) e (tr_means r.result) c.in-Some.fs (store_in a.heads.now a.states.now a.trs.now a.used) others
    (subst (λ l. Fits (store_in a.heads.now a.states.now a.trs.now a.used) (l ++ others)) (sym (alone_is v e (tr_means r.result) c.in-Some.fs r.ensures c.in-Some.is)) c.requires.1)

pub push-grown-requires : goal.push-grown-requires
push-grown-requires c =
    let a = c.args in
    let v = a.plan in
    let e = tr_means a.edge in
    let r = c.resting-rest in (
      first_room (store_in a.heads.now a.states.now a.trs.now a.used) (alone_by v e) (both_by v a.mm.now e) (compose_tr_means c.joined-tr.result)
          (sym (alone_is v e (tr_means r.result) c.in-Some.fs r.ensures c.in-Some.is) ∙ c.joined-tr.ensures) c.requires.1,
      c.requires.2,
    )

-- what the first part leaves
alone : (c : Joined-plan) →
    let a = c.args in
    let m = c.match-plan in
    store_in m.heads m.states m.trs m.grown ≡ store_all (store_in a.heads.now a.states.now a.trs.now a.used) (alone_by a.plan (tr_means a.edge))
alone c =
    let a = c.args in
    let d = store_in a.heads.now a.states.now a.trs.now a.used in
    let v = a.plan in
    let e = tr_means a.edge in
    let m = c.match-plan in
    elim c.match-plan.branch [
      | in-Some w ↦
          let x = w.push-grown.new in
          let l = sym (alone_is v e (tr_means w.resting-rest.result) w.in-Some.fs w.resting-rest.ensures w.in-Some.is) ∙ w.joined-tr.ensures in
          same_store m.heads x.heads m.states x.states m.trs x.trs m.grown w.push-grown.result w.heads-is w.states-is w.trs-is w.grown-is
          ∙ one_stored d (store_in x.heads x.states x.trs w.push-grown.result) (alone_by v e) (compose_tr_means w.joined-tr.result) w.push-grown.ensures l
      | in_default w ↦
          same_store m.heads a.heads.now m.states a.states.now m.trs a.trs.now m.grown a.used w.heads-is w.states-is w.trs-is w.grown-is
          ∙ none_stored d (alone_by v e) (alone_none v e w.in_default.is)
    ]

pub with_eps-requires : goal.with_eps-requires
with_eps-requires c =
    let a = c.args in
    let p = c.requires in
    let m = c.match-plan in
    let d = store_in a.heads.now a.states.now a.trs.now a.used in
    let e = store_in m.heads m.states m.trs m.grown in
    let v = a.plan in
    let w = tr_means a.edge in
    let s = alone (goal.at.with_eps-requires c).Joined-plan in (
      p.0.form,
      p.0.base,
      p.0.first,
      p.0.sorted,
      p.0.eps,
      subst (Fits e) (sym (both_is v a.mm.now w c.in-Some-both.fs c.in-Some-both.is)) (then_fits d e (alone_by v w) (both_by v a.mm.now w) s p.1),
      then_chained d e (alone_by v w) s (fits_append d (alone_by v w) (both_by v a.mm.now w) p.1).0 p.2,
    )

pub returns-in-Some-both : goal.returns-in-Some-both
returns-in-Some-both c =
    let a = c.args in
    let m = c.match-plan in
    let x = c.with_eps in
    let e = store_in m.heads m.states m.trs m.grown in
    let f = store_in x.new.heads x.new.states x.new.trs x.result in
    let v = a.plan in
    let w = tr_means a.edge in
    then_stored (store_in a.heads.now a.states.now a.trs.now a.used) e f (alone_by v w) (both_by v a.mm.now w) (alone (goal.at.returns-in-Some-both c).Joined-plan)
    (as_steps e f (with_labelled v a.mm.now w (Some c.in-Some-both.fs) eps_label) (both_by v a.mm.now w) (both_is v a.mm.now w c.in-Some-both.fs c.in-Some-both.is) x.ensures)

pub returns-in-None : goal.returns-in-None
returns-in-None c =
    let a = c.args in
    let m = c.match-plan in
    let e = store_in m.heads m.states m.trs m.grown in
    let v = a.plan in
    let w = tr_means a.edge in
    then_stored (store_in a.heads.now a.states.now a.trs.now a.used) e e (alone_by v w) (both_by v a.mm.now w) (alone (goal.at.returns-in-None c).Joined-plan)
    (none_stored e (both_by v a.mm.now w) (no_pairs _ _ _ _ _ _ c.in-None.is))
