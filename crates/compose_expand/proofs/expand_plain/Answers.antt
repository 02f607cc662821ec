-- The steps of the state fit, are stored, and are ended as the expansion's are.
use mathlib.Core.Path.{sym, ◌∙◌, ap, subst}
use mathlib.Core.List.{[]}
use Prim.Native.Nat.{◌≤◌}
use native.Mathlib.Omega.{arith}
use Rattle.words.specs.Labels.{MAX}
use Rattle.words.specs.Steps.{Composition, Triple, steps_at}
use Rattle.calls.specs.Calls.{settle, expansion}
use Rattle.fst.specs.Meaning.{on_of}
use Rattle.store_records.specs.Meaning.{stored, store_in, memory_of}
use Rattle.tr_lists.specs.Meaning.{part_means}
use Rattle.compose_fst_op.specs.Composing.{option_settings, composing_words}
use Rattle.compose_fst_op.proofs.Composed.{composing_none}
use Rattle.stored_steps.specs.Storing.{store_all, Fits}
use Rattle.compose_store.specs.Meaning.{session_under}
use Rattle.compose_expand.proofs.Found.{chained, present, serves_plain, plain_fit}
use Rattle.compose_expand.proofs.PlainLaws.{no_fewer, plain_left}
use Rattle.compose_expand.proofs.expand_plain.Goals as goal

pub store_plain-after-requires : goal.store_plain-after-requires
store_plain-after-requires c =
    let a = c.args in
    let p = c.requires in
    let m = memory_of a.heads.now a.states.now a.trs.now in
    let most1 : a.facts1.most ≤ MAX = omega arith in
    let most2 : a.facts2.most ≤ MAX = omega arith in (
      serves_plain (option_settings a.options) (on_of a.on) (store_in a.heads.now a.states.now a.trs.now a.used) a.facts1 a.facts2 p.7,
      p.6,
      present a.options a.m1.now a.m2.now a.a1.now a.a2.now a.ignored.now a.used m p.0 p.3 a.n.0 p.1 _ p.2 a.facts1 a.facts2 p.4 p.5,
      plain_fit a.options a.m1.now a.m2.now a.a1.now a.a2.now a.ignored.now a.used (memory_of a.heads.now a.states.now a.trs.now) p.0 p.3 a.n.0 p.1 _ p.2 a.facts1 a.facts2 p.4 p.5 most1 most2 _ p.6 p.7,
      chained a.options a.m1.now a.m2.now a.a1.now a.a2.now a.ignored.now a.used m p.0,
    )

pub end_list-requires : goal.end_list-requires
end_list-requires c =
    let a = c.args in
    let p = c.requires in
    let most1 : a.facts1.most ≤ MAX = omega arith in
    let most2 : a.facts2.most ≤ MAX = omega arith in
    no_fewer (store_in a.heads.now a.states.now a.trs.now a.used) _ _ (plain_fit a.options a.m1.now a.m2.now a.a1.now a.a2.now a.ignored.now a.used (memory_of a.heads.now a.states.now a.trs.now) p.0 p.3 a.n.0 p.1 _ p.2 a.facts1 a.facts2 p.4 p.5 most1 most2 _ p.6 p.7 [] []) (c.store_plain-after.ensures [] [])

pub new_part-part-requires : goal.new_part-part-requires
new_part-part-requires c =
    let a = c.args in
    let p = c.requires in
    let most1 : a.facts1.most ≤ MAX = omega arith in
    let most2 : a.facts2.most ≤ MAX = omega arith in
    no_fewer (store_in a.heads.now a.states.now a.trs.now a.used) _ _ (plain_fit a.options a.m1.now a.m2.now a.a1.now a.a2.now a.ignored.now a.used (memory_of a.heads.now a.states.now a.trs.now) p.0 p.3 a.n.0 p.1 _ p.2 a.facts1 a.facts2 p.4 p.5 most1 most2 _ p.6 p.7 [] []) (c.store_plain-after.ensures [] [])

pub returns : goal.returns
returns c =
    let a = c.args in
    let p = c.requires in
    let o = composing_words a.options a.m1.now a.m2.now a.a1.now a.a2.now in
    let s = session_under a.options a.used in
    let m = memory_of a.heads.now a.states.now a.trs.now in
    let d = store_in a.heads.now a.states.now a.trs.now a.used in
    let w = c.store_plain-after in
    let x = w.new in
    let l = c.end_list in
    let v = c.mark_expanded in
    let u = w.result in
    let most1 : a.facts1.most ≤ MAX = omega arith in
    let most2 : a.facts2.most ≤ MAX = omega arith in
    sym (plain_left o s m a.n.0 (store_in x.heads x.states x.trs u) (stored x.heads x.states l.new.trs u.states u.trs) (stored x.heads v.new.states l.new.trs u.states u.trs)
    (part_means c.new_part-part.result)
    (subst (λ (t : Triple). Fits d (steps_at o t)) p.2 (plain_fit a.options a.m1.now a.m2.now a.a1.now a.a2.now a.ignored.now a.used (memory_of a.heads.now a.states.now a.trs.now) p.0 p.3 a.n.0 p.1 _ p.2 a.facts1 a.facts2 p.4 p.5 most1 most2 _ p.6 p.7 a.a1.now a.a2.now))
    (w.ensures a.a1.now a.a2.now ∙ ap (λ (t : Triple). store_all d (steps_at o t)) p.2)
    (l.ensures x.heads x.states u.states)
    (c.new_part-part.ensures a.used.states u.states)
    (v.ensures x.heads l.new.trs u.states u.trs))
    ∙ ap (λ (x : Composition). settle s m (expansion x s m a.n.0)) (sym (composing_none a.options a.m1.now a.m2.now a.a1.now a.a2.now a.ignored.now p.3))
