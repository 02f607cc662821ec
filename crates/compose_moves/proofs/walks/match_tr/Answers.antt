-- The look-up of the walked label refuses, or its matches are all left.
use mathlib.Core.Path.{◌≡◌, sym, ap, subst, ◌∙◌}
use mathlib.Core.List.{List, Memᴰ as In}
use Prim.Native.Nat.{ℕ}
use borrow.Author.Rules.{rules}
use Rattle.std.specs.Prelude.{Err}
use Rattle.words.specs.Labels.{good}
use Rattle.words.proofs.ReplacedLaws.{read_list}
use Rattle.fst.specs.Meaning.{on_of, ignored_under}
use Rattle.compose_state_tuple.specs.Meaning.{tuple_means}
use Rattle.matchers.specs.declared.Cursor.{Cursor}
use Rattle.matchers.specs.Cursors.{held_words, items_left}
use Rattle.matchers.specs.Meaning.{allowed_of, stands_for}
use Rattle.matchers.specs.Asking.{sigma_look_up}
use Rattle.compose_moves.specs.Walks.{walk_means, walked_state, walked_side, asked}
use Rattle.compose_moves.proofs.Turns.{tr_found, tr_refused}
use Rattle.compose_moves.proofs.Placed.{found_placed}
use Rattle.compose_moves.proofs.walks.match_tr.Goals as goal

pub returns-in_err-matches-clause-result_value : goal.returns-in_err-matches-clause-result_value
returns-in_err-matches-clause-result_value c =
    let a = c.args in
    let label = rw c.walked_side.ensures at c.inner_label-label.ensures in
    let found = rw (c.looked_state-s.ensures, label) at c.in_err-matches.ensures.result_value in
    let e : c.from_residual.result ≡ Err c.in_err-matches.field-0.0 = search rules in
    rw e (tr_refused (walk_means a.walk a.mw.now a.mm.now a.am.now a.ignored.now) a.t _ _ found)

pub returns-clause-result_value : goal.returns-clause-result_value
returns-clause-result_value c =
    let a = c.args in
    let W = walk_means a.walk a.mw.now a.mm.now a.am.now a.ignored.now in
    let label = rw c.walked_side.ensures at c.inner_label-label.ensures in
    let found = rw (c.looked_state-s.ensures, label) at c.in_ok-matches.ensures.result_value in
    let held = ap (λ (x : Cursor). held_words x a.ignored.now a.mm.now) c.in_ok-matches.ensures.place in
    c.match_tr_selected.ensures.by_index a.am.now ∙ ap asked (tr_found W a.t _ (ap (λ (w : List ℕ). good (items_left w c.in_ok-matches.matches)) held ∙ found))

pub returns-clause-place : goal.returns-clause-place
returns-clause-place c =
    let a = c.args in
    let W = walk_means a.walk a.mw.now a.mm.now a.am.now a.ignored.now in
    let label = rw c.walked_side.ensures at c.inner_label-label.ensures in
    let stands = stands_for a.walk.sigma.label.0 (allowed_of a.walk.sigma.listed a.am.now) c.inner_label-label.result.0 in
    let asks = ap (sigma_look_up W.operand W.labels) label in
    let same = read_list (walked_side (on_of a.walk.on)) (ignored_under a.walk.labels a.ignored.now) a.mw.now (walked_state (on_of a.walk.on) (tuple_means a.walk.tuple)) in
    λ i. c.match_tr_selected.ensures.place a.am.now (found_placed W a.t _ _ _ c.looked_state-s.result _ _ _ stands (subst (In a.t) (sym same) i) asks c.looked_state-s.ensures c.in_ok-matches.ensures.place)
