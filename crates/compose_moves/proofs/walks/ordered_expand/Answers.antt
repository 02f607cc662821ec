-- Before the loop: the present edge, and then the list from the next edge on; a turn takes one record off the list.
use mathlib.Core.Path.{◌≡◌, refl, sym, ap, subst, ◌∙◌}
use mathlib.Core.Bool.{true, false}
use mathlib.Core.List.{List, Memᴰ as In}
use Prim.Native.Nat.{ℕ}
use native.Mathlib.Omega.{arith}
use borrow.Author.Rules.{rules}
use lib.ListN.{length}
use Rattle.std.specs.Prelude.{Ok, Err, is_none}
use Rattle.words.specs.Labels.{Checked}
use Rattle.words.specs.Machines.{next_of}
use Rattle.words.specs.Steps.{Step}
use Rattle.words.proofs.ListLaws.{link, list_turn}
use Rattle.words.proofs.ReplacedLaws.{read_next, read_list}
use Rattle.fst.specs.Meaning.{on_of, ignored_under}
use Rattle.compose_state_tuple.specs.Meaning.{tuple_means}
use Rattle.compose_moves.specs.Walks.{walk_means, walked_state, walked_side, next_edge, trs_steps, walk_left, asked, ends, along_means, Placed}
use Rattle.compose_moves.proofs.Edges.{read_after, after_inside, walked_words}
use Rattle.compose_moves.proofs.Turns.{trs_end, some_given, walk_turn}
use Rattle.compose_moves.proofs.Placed.{Standing, placed_in, next_placed, after_placed}
use Rattle.compose_moves.proofs.walks.ordered_expand.Goals.{After-edge_after-t, After-next_tr-t}
use Rattle.compose_moves.proofs.walks.ordered_expand.Goals as goal

-- the next edge, of the words that are read
after_read : (c : After-edge_after-t) →
    let a = c.args in
    let W = walk_means a.walk a.mw.now a.mm.now a.am.now a.ignored.now in c.edge_after-t.result ≡ next_edge W a.walked
after_read c =
    let a = c.args in
    c.edge_after-t.ensures
    ∙ (rw c.walked_state.ensures (sym (read_after (walked_side (on_of a.walk.on)) (ignored_under a.walk.labels a.ignored.now) a.mw.now (walked_state (on_of a.walk.on) (tuple_means a.walk.tuple)) a.walked)))

-- the present edge, and then the list from the next edge on
begun : (c : After-edge_after-t) →
    let a = c.args in
    let W = walk_means a.walk a.mw.now a.mm.now a.am.now a.ignored.now in
    along_means W (asked (trs_steps W c.edge_after-t.result)) (Ok c.in_ok-along.along) ≡ asked (walk_left W a.walked a.matches)
begun c =
    let a = c.args in
    let W = walk_means a.walk a.mw.now a.mm.now a.am.now a.ignored.now in
    ap (λ (t : ℕ). along_means W (asked (trs_steps W t)) (Ok c.in_ok-along.along)) (after_read c) ∙ c.in_ok-along.ensures.by_index a.am.now

-- .. with their places
placed : (c : After-edge_after-t) →
    let a = c.args in
    let W = walk_means a.walk a.mw.now a.mm.now a.am.now a.ignored.now in
    Placed W a.walked a.matches → Standing W c.edge_after-t.result (Ok c.in_ok-along.along)
placed c p =
    let a = c.args in
    (rw (after_read c) (after_placed _ _ a.walked p.walked), c.in_ok-along.ensures.place a.am.now p)

-- the link of the walked record, of the words that are read
next_read : (c : After-next_tr-t) → let a = c.args in c.next_tr-t.result ≡ next_of (walked_words a.walk a.ignored.now a.mw.now) c.loop-along.t
next_read c = let a = c.args in c.next_tr-t.ensures ∙ sym (read_next (walked_side (on_of a.walk.on)) (ignored_under a.walk.labels a.ignored.now) a.mw.now c.loop-along.t)

pub loop-along-init : goal.loop-along-init
loop-along-init c = (rw (after_read (goal.at.loop-along-init c).After-edge_after-t) (after_inside _ _ c.args.walked), refl, λ p. p)

pub loop-along-smaller : goal.loop-along-smaller
loop-along-smaller c =
    let a = c.args in
    let e = ap length (list_turn (walked_words a.walk a.ignored.now a.mw.now) _ c.if-t-ne0.true c.loop-along.invariant.0) in
    rw (next_read c) (omega (arith, e))

pub loop-along-preserved : goal.loop-along-preserved
loop-along-preserved c =
    let a = c.args in
    let W = walk_means a.walk a.mw.now a.mm.now a.am.now a.ignored.now in
    let l = c.loop-along in
    let none : is_none l.along ≡ true = search rules in (
      rw (next_read c) (link _ _).inside,
      walk_turn W l.t c.next_tr-t.result l.along (Ok c.in_ok-along-2.along) c.if-t-ne0.true l.invariant.0 (next_read c) none c.in_ok-along-2.ensures.result_value ∙ l.invariant.1,
      λ p.
          let stood = l.invariant.2 p in
          (next_placed _ _ l.t c.next_tr-t.result c.if-t-ne0.true (next_read c) stood.0, c.in_ok-along-2.ensures.place (subst (In _) (read_list (walked_side (on_of a.walk.on)) (ignored_under a.walk.labels a.ignored.now) a.mw.now _) (placed_in _ _ _ c.if-t-ne0.true stood.0))),
    )

pub returns-in_err-along-2-clause-result_value : goal.returns-in_err-along-2-clause-result_value
returns-in_err-along-2-clause-result_value c =
    let a = c.args in
    let W = walk_means a.walk a.mw.now a.mm.now a.am.now a.ignored.now in
    let l = c.loop-along in
    let none : is_none l.along ≡ true = search rules in
    let e : c.from_residual-in_err-along-2.result ≡ Err c.in_err-along-2.field-0.0 = search rules in
    rw e (
    walk_turn W l.t (next_of W.walked l.t) l.along (Err c.in_err-along-2.field-0.0) c.if-t-ne0.true l.invariant.0 refl none c.in_err-along-2.ensures.result_value
    ∙ l.invariant.1
    ∙ begun (goal.at.returns-in_err-along-2-clause-result_value c).After-edge_after-t
    )

pub returns-else-t-ne0-clause-result_value : goal.returns-else-t-ne0-clause-result_value
returns-else-t-ne0-clause-result_value c =
    let a = c.args in
    let W = walk_means a.walk a.mw.now a.mm.now a.am.now a.ignored.now in
    let l = c.loop-along in
    ap (λ (rest : List (Checked Step)). along_means W (asked rest) (Ok l.along)) (sym (trs_end W l.t c.if-t-ne0.false)) ∙ l.invariant.1 ∙ begun (goal.at.returns-else-t-ne0-clause-result_value c).After-edge_after-t

pub returns-after-loop-along-clause-result_value : goal.returns-after-loop-along-clause-result_value
returns-after-loop-along-clause-result_value c =
    let a = c.args in
    let W = walk_means a.walk a.mw.now a.mm.now a.am.now a.ignored.now in
    let l = c.loop-along in
    let some : is_none l.along ≡ false = search rules in
    some_given W ends (asked (trs_steps W l.t)) l.along some ∙ l.invariant.1 ∙ begun (goal.at.returns-after-loop-along-clause-result_value c).After-edge_after-t

pub returns-else-t-ne0-clause-place : goal.returns-else-t-ne0-clause-place
returns-else-t-ne0-clause-place c = λ p. (c.loop-along.invariant.2 (placed (goal.at.returns-else-t-ne0-clause-place c).After-edge_after-t p)).1

pub returns-after-loop-along-clause-place : goal.returns-after-loop-along-clause-place
returns-after-loop-along-clause-place c = λ p. (c.loop-along.invariant.2 (placed (goal.at.returns-after-loop-along-clause-place c).After-edge_after-t p)).1
