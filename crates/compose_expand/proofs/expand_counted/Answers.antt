-- The steps are counted and stored, or 13 stands; where the count tells nothing, they are weighed one by one in memory as it was.
use mathlib.Core.Path.{◌≡◌, sym, ◌∙◌, ap, subst}
use Prim.Native.Nat.{◌≤◌}
use native.Mathlib.Omega.{arith}
use borrow.Author.Rules.{rules}
use Rattle.words.specs.Labels.{MAX, good, refused}
use Rattle.words.specs.Steps.{Composition, Triple, steps_at}
use Rattle.fst.specs.Meaning.{on_of}
use Rattle.fst.specs.Refusals.{number_of}
use Rattle.calls.specs.Store.{Store, Memory}
use Rattle.calls.specs.Checks.{entered}
use Rattle.calls.specs.Calls.{store_steps, settle, expansion}
use Rattle.store_records.specs.Meaning.{stored, store_in, memory_of}
use Rattle.tr_lists.specs.Meaning.{part_means}
use Rattle.compose_fst_op.specs.Composing.{option_settings, lent_of, composing, composing_words}
use Rattle.compose_fst_op.proofs.Composed.{composing_none}
use Rattle.stored_steps.specs.Storing.{store_all, Fits}
use Rattle.compose_store.specs.Meaning.{session_under}
use Rattle.compose_store.proofs.ExpandLaws.{expanded_refused}
use Rattle.compose_expand.proofs.Asked.{none_ignored, none_sigma}
use Rattle.compose_expand.proofs.Found.{present, weighable}
use Rattle.compose_expand.proofs.PlainLaws.{no_fewer, plain_left}
use Rattle.compose_expand.proofs.expand_counted.Goals as goal

pub store_tight-requires : goal.store_tight-requires
store_tight-requires c =
    let a = c.args in
    let p = c.requires in
    let m = memory_of a.heads.now a.states.now a.trs.now in
    let none = none_ignored (option_settings a.options) a.ignored.now p.3 in
    let plain = none_sigma (option_settings a.options) a.ignored.now p.3 in
    let most1 : a.facts1.most ≤ MAX = omega arith in
    let most2 : a.facts2.most ≤ MAX = omega arith in (
      plain,
      c.direction-on.ensures,
      present a.options a.m1.now a.m2.now a.a1.now a.a2.now a.ignored.now a.used m p.0 none a.n.0 p.1 _ p.2 a.facts1 a.facts2 p.4 p.5,
      (a.a1.now, a.a2.now, weighable a.options a.m1.now a.m2.now a.a1.now a.a2.now a.ignored.now a.used m p.0 none a.n.0 p.1 _ p.2 a.facts1 a.facts2 p.4 p.5 plain p.6 most1 most2 (on_of c.direction-on.result) c.direction-on.ensures c.serves-sure.result (c.serves-sure.ensures a.heads.now)),
    )

-- memory as it was
pub expand_weighed-requires : goal.expand_weighed-requires
expand_weighed-requires c =
    let a = c.args in
    let p = c.requires in
    let k = rw c.in_default.is at (c.in_ok-stored.ensures a.a1.now a.a2.now) in
    (subst (λ (m : Memory). entered (lent_of a.options a.m1.now a.m2.now a.a1.now a.a2.now a.ignored.now) (session_under a.options a.used) m ≡ good (composing a.options a.m1.now a.m2.now a.a1.now a.a2.now a.ignored.now)) (sym (ap (λ (x : Store). x.memory) k)) p.0, p.1)

pub end_list-requires : goal.end_list-requires
end_list-requires c =
    let a = c.args in
    let k = rw c.in-Some.is at (c.in_ok-stored.ensures a.a1.now a.a2.now) in
    no_fewer (store_in a.heads.now a.states.now a.trs.now a.used) _ _ k.1 k.0

pub new_part-part-requires : goal.new_part-part-requires
new_part-part-requires c =
    let a = c.args in
    let k = rw c.in-Some.is at (c.in_ok-stored.ensures a.a1.now a.a2.now) in
    no_fewer (store_in a.heads.now a.states.now a.trs.now a.used) _ _ k.1 k.0

-- no label is ignored: the words are read as they are lent
pub returns-in_err-stored : goal.returns-in_err-stored
returns-in_err-stored c =
    let a = c.args in
    let p = c.requires in
    let o = composing_words a.options a.m1.now a.m2.now a.a1.now a.a2.now in
    let s = session_under a.options a.used in
    let m = memory_of a.heads.now a.states.now a.trs.now in
    let n = number_of c.in_err-stored.field-0.0 in
    let k = c.in_err-stored.ensures a.a1.now a.a2.now in
    let e =
    ap (λ (x : Store). record { answer = refused n; session = s; memory = x.memory }) k.0
    ∙ sym (expanded_refused o s m a.n.0 n (subst (λ (t : Triple). store_steps (store_in a.heads.now a.states.now a.trs.now a.used) (steps_at o t) ≡ refused n) p.2 k.2))
    ∙ ap (λ (x : Composition). settle s m (expansion x s m a.n.0)) (sym (composing_none a.options a.m1.now a.m2.now a.a1.now a.a2.now a.ignored.now (none_ignored (option_settings a.options) a.ignored.now p.3))) in
    search (rules, e)

pub returns-in_default : goal.returns-in_default
returns-in_default c =
    let a = c.args in
    let k = rw c.in_default.is at (c.in_ok-stored.ensures a.a1.now a.a2.now) in
    c.expand_weighed.ensures
    ∙ ap (λ (m : Memory). settle (session_under a.options a.used) m (expansion (composing a.options a.m1.now a.m2.now a.a1.now a.a2.now a.ignored.now) (session_under a.options a.used) m a.n.0)) (ap (λ (x : Store). x.memory) k)

pub returns : goal.returns
returns c =
    let a = c.args in
    let p = c.requires in
    let o = composing_words a.options a.m1.now a.m2.now a.a1.now a.a2.now in
    let s = session_under a.options a.used in
    let m = memory_of a.heads.now a.states.now a.trs.now in
    let d = store_in a.heads.now a.states.now a.trs.now a.used in
    let k = rw c.in-Some.is at (c.in_ok-stored.ensures a.a1.now a.a2.now) in
    let x = c.store_tight.new in
    let u = c.in-Some.after in
    let l = c.end_list in
    let v = c.mark_expanded in
    sym (plain_left o s m a.n.0 (store_in x.heads x.states x.trs u) (stored x.heads x.states l.new.trs u.states u.trs) (stored x.heads v.new.states l.new.trs u.states u.trs)
    (part_means c.new_part-part.result)
    (subst (λ (t : Triple). Fits d (steps_at o t)) p.2 k.1)
    (k.0 ∙ ap (λ (t : Triple). store_all d (steps_at o t)) p.2)
    (l.ensures x.heads x.states u.states)
    (c.new_part-part.ensures a.used.states u.states)
    (v.ensures x.heads l.new.trs u.states u.trs))
    ∙ ap (λ (x : Composition). settle s m (expansion x s m a.n.0)) (sym (composing_none a.options a.m1.now a.m2.now a.a1.now a.a2.now a.ignored.now (none_ignored (option_settings a.options) a.ignored.now p.3)))
