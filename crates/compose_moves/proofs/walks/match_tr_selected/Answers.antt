-- Each match makes a step, a refusal or nothing.
use mathlib.Core.Path.{◌≡◌, sym, ap, ◌∙◌}
use mathlib.Core.List.{List, ◌++◌}
use Prim.Native.Nat.{ℕ}
use native.Mathlib.Omega.{arith}
use borrow.Author.Rules.{rules}
use lib.ListN.{length}
use Rattle.std.specs.Prelude.{None, Some, Ok, Err}
use Rattle.fst.specs.Refusals.{number_of}
use Rattle.matchers.specs.Cursors.{held_words, items_left}
use Rattle.matchers.specs.declared.Cursor.{Cursor}
use Rattle.matchers.proofs.Asking.{held_after_lem}
use Rattle.compose_moves.specs.Moves.{Made, compose_tr_means, made_means}
use Rattle.compose_moves.specs.Walks.{walk_means, Placed}
use Rattle.compose_moves.proofs.Placed.{asked_placed, placed_held}
use Rattle.compose_moves.proofs.Edges.{walked_words, edge_left, edge_made, found_is, none_is, made_turn, made_end, edge_gives, edge_refuses, edge_ends}
use Rattle.compose_moves.proofs.walks.match_tr_selected.Goals.{After-pair_step}
use Rattle.compose_moves.proofs.walks.match_tr_selected.Goals as goal

-- the cursor that was asked, the one that it left, and what both read
rest_read : (c : After-pair_step) → let a = c.args in held_words c.ask.result.1 a.ignored.now a.mm.now ≡ held_words c.loop-found.left a.ignored.now a.mm.now
rest_read c =
    let a = c.args in
    ap (λ (x : Cursor). held_words x a.ignored.now a.mm.now) c.ask.ensures.place ∙ held_after_lem a.mm.now a.ignored.now _ c.loop-found.left

-- after a move is made: what was left at first is what it made, and then what the other matches make
turn : (c : After-pair_step) (made : Made) → c.pair_step.result ≡ made → (am : List ℕ) →
    let a = c.args in
    edge_left a.mw.now a.mm.now am a.ignored.now a.walk a.t a.matches ≡ made_means made ++ edge_left a.mw.now a.mm.now am a.ignored.now a.walk a.t c.ask.result.1
turn c made is am =
    let a = c.args in
    let words = walked_words a.walk a.ignored.now a.mw.now in
    let edge = rw c.walked_side.ensures at c.edge_item-edge.ensures in
    sym (c.loop-found.invariant.0 am)
    ∙ made_turn words (held_words c.loop-found.left a.ignored.now a.mm.now) a.walk a.t c.loop-found.left c.edge_item-edge.result c.in-Some-default.found made c.ask.result c.in-Some-default.is-0 c.ask.ensures.result_value edge (rw is at c.pair_step.ensures)
    ∙ ap (λ (w : List ℕ). made_means made ++ edge_made words a.walk a.t (items_left w c.ask.result.1)) (sym (rest_read c))

-- .. and the matches left hold what those before the loop held
placed : (c : After-pair_step) (am : List ℕ) →
    let a = c.args in
    let W = walk_means a.walk a.mw.now a.mm.now am a.ignored.now in
    Placed W a.t a.matches → Placed W a.t c.ask.result.1
placed c am p =
    let a = c.args in
    let W = walk_means a.walk a.mw.now a.mm.now am a.ignored.now in
    asked_placed W a.t _ c.loop-found.left _ (placed_held a.walk a.mw.now a.mm.now am a.ignored.now a.t c.loop-found.left) c.ask.ensures.place (c.loop-found.invariant.1 am p)

pub returns-in_err-tr-clause-by_index : goal.returns-in_err-tr-clause-by_index
returns-in_err-tr-clause-by_index c =
    let a = c.args in
    let e : c.from_residual.result ≡ Err c.in_err-tr.field-0.0 = search rules in
    rw e (λ am. edge_refuses a.mw.now a.mm.now am a.ignored.now a.walk a.t a.matches (number_of c.in_err-tr.field-0.0) _ (turn (goal.at.returns-in_err-tr-clause-by_index c).After-pair_step (Err c.in_err-tr.field-0.0) c.in_err-tr.was am))

pub returns-in-Some-clause-by_index : goal.returns-in-Some-clause-by_index
returns-in-Some-clause-by_index c =
    let a = c.args in
    let e : c.pair_step.result ≡ Ok (Some c.in-Some.tr) = search rules in
    λ am. edge_gives a.mw.now a.mm.now am a.ignored.now a.walk a.t a.matches c.ask.result.1 (compose_tr_means c.in-Some.tr) (turn (goal.at.returns-in-Some-clause-by_index c).After-pair_step (Ok (Some c.in-Some.tr)) e am)

pub returns-in-Some-clause-place : goal.returns-in-Some-clause-place
returns-in-Some-clause-place c = placed (goal.at.returns-in-Some-clause-place c).After-pair_step

pub loop-found-smaller : goal.loop-found-smaller
loop-found-smaller c =
    let a = c.args in
    let words = held_words c.loop-found.left a.ignored.now a.mm.now in
    let asks = rw c.in-Some-default.is-0 at c.ask.ensures.result_value in
    let e = ap length (found_is words (items_left words c.loop-found.left) c.in-Some-default.found c.ask.result.1 asks) in
    let same = ap (λ (w : List ℕ). length (items_left w c.ask.result.1)) (rest_read (goal.at.loop-found-smaller c).After-pair_step) in
    omega (arith, e, same)

pub loop-found-preserved : goal.loop-found-preserved
loop-found-preserved c =
    let s = (goal.at.loop-found-preserved c).After-pair_step in
    let e : c.pair_step.result ≡ Ok None = search rules in
    (λ am. sym (turn s (Ok None) e am), placed s)

pub returns-clause-by_index : goal.returns-clause-by_index
returns-clause-by_index c =
    let a = c.args in
    let words = held_words c.loop-found.left a.ignored.now a.mm.now in
    let e : c.ask.result.0 ≡ None = search rules in
    let empty = none_is words (items_left words c.loop-found.left) c.ask.result.1 (rw e at c.ask.ensures.result_value) in
    λ am. edge_ends a.mw.now a.mm.now am a.ignored.now a.walk a.t a.matches (sym (c.loop-found.invariant.0 am) ∙ made_end _ a.walk a.t (items_left words c.loop-found.left) empty)
