-- Refusal 10 alone, or the walk in its direction from the start on.
use mathlib.Core.Path.{◌≡◌, refl, sym, ap, ◌∙◌}
use mathlib.Core.List.{List}
use Prim.Native.Nat.{ℕ}
use borrow.Author.Rules.{rules}
use Rattle.std.specs.Prelude.{Err}
use Rattle.words.specs.Labels.{no_label}
use Rattle.words.specs.Filters.{none_at, all_at}
use Rattle.fst.specs.Meaning.{on_of, as_operand}
use Rattle.words.specs.Matches.{inputs, outputs}
use Rattle.words.specs.Sigmas.{sigma_trs}
use Rattle.words.specs.Sides.{Side, only, both, direction_at}
use Rattle.match_type.specs.Chosen.{side_means}
use Rattle.compose_state_tuple.specs.Meaning.{tuple_means}
use Rattle.compose_fst_op.specs.Composing.{lent_of}
use Rattle.compose_fst_op.specs.declared.ComposeFstOpOptions.{ComposeFstOpOptions}
use Rattle.compose_state_tuple.specs.declared.ComposeStateTuple.{ComposeStateTuple}
use Rattle.words.specs.Settings.{Lent}
use Rattle.matchers.specs.Meaning.{sorted_items}
use Rattle.matchers.specs.Cursors.{items_left}
use Rattle.compose_moves.specs.Walks.{looked_state, looked_words}
use Rattle.compose_moves.specs.Cursors.{words1, words2, read1, read2, walk_in, steps_left, direction_for}
use Rattle.compose_moves.proofs.Rows.{C, here}
use Rattle.compose_moves.proofs.Starts.{no_steps, all_steps}
use Rattle.compose_moves.proofs.Placed.{rest_held, start_placed}
use Rattle.compose_moves.proofs.moves_start.Goals as goal

-- the direction does not depend on rewriting and allowed lists
read-direction : (o : ComposeFstOpOptions) (l : Lent) (t : ComposeStateTuple)
    → direction_for o l t ≡ direction_at (side_means o.side) (as_operand outputs (words1 o l) o.sigma1.label.0) (as_operand inputs (words2 o l) o.sigma2.label.0) t.s1.0 t.s2.0
unfolding direction_at sigma_trs
read-direction o l t = go (side_means o.side)
  where
    go : (d : Side) → direction_at d (read1 o l) (read2 o l) t.s1.0 t.s2.0 ≡ direction_at d (as_operand outputs (words1 o l) o.sigma1.label.0) (as_operand inputs (words2 o l) o.sigma2.label.0) t.s1.0 t.s2.0
    go (only on) = refl
    go both = refl

pub returns-in_err-on-clause-by_index : goal.returns-in_err-on-clause-by_index
returns-in_err-on-clause-by_index c =
    let a = c.args in
    let o = a.options in
    let found = rw c.sigmas_of.ensures at c.in_err-on.ensures in
    let e : c.from_residual.result ≡ Err c.in_err-on.field-0.0 = search rules in
    rw e (λ a1 a2. let l = lent_of o a.m1.now a.m2.now a1 a2 a.ignored.now in no_steps o l (tuple_means a.tuple) _ (read-direction o l a.tuple ∙ sym found))

pub returns-in_err-on-clause-place : goal.returns-in_err-on-clause-place
returns-in_err-on-clause-place c =
    let a = c.args in
    let o = a.options in
    let found = rw c.sigmas_of.ensures at c.in_err-on.ensures in
    let e : c.from_residual.result ≡ Err c.in_err-on.field-0.0 = search rules in
    rw e (λ a1 a2. read-direction o (lent_of o a.m1.now a.m2.now a1 a2 a.ignored.now) a.tuple ∙ sym found)

pub returns-clause-by_index : goal.returns-clause-by_index
unfolding steps_left none_at all_at
returns-clause-by_index c =
    let a = c.args in
    let o = a.options in
    let t = tuple_means a.tuple in
    let on = c.in_ok-on.on in
    let matches = c.rest_matches.result in
    let found = rw c.sigmas_of.ensures at c.in_ok-on.ensures in
    let facts = rw c.sigmas_of.ensures at c.facts_at.ensures in
    let rest_items = rw c.sigmas_of.ensures at c.rest_matches.ensures.result_value in
    let rest_place = rw c.sigmas_of.ensures at c.rest_matches.ensures.place in
    let lent : (a1 a2 : List ℕ) → Lent = λ a1 a2. lent_of o a.m1.now a.m2.now a1 a2 a.ignored.now in
    let items : (a1 a2 : List ℕ) → items_left ((walk_in o (lent a1 a2) (here (C o (lent a1 a2) t) t) (on_of on)).held matches) matches ≡ sorted_items (on_of on) (looked_words (on_of on) (words1 o (lent a1 a2)) (words2 o (lent a1 a2))) (looked_state (on_of on) t) no_label = λ a1 a2.
    ap (λ (w : List ℕ). items_left w matches) (rest_held o (lent a1 a2) (here (C o (lent a1 a2) t) t) (on_of on) _ _ matches rest_place) ∙ rest_items in
    λ a1 a2. rw facts (all_steps o (lent a1 a2) t _ matches (read-direction o (lent a1 a2) a.tuple ∙ sym found) (items a1 a2))

pub returns-clause-place : goal.returns-clause-place
unfolding none_at all_at
returns-clause-place c =
    let a = c.args in
    let o = a.options in
    let matches = c.rest_matches.result in
    let found = rw c.sigmas_of.ensures at c.in_ok-on.ensures in
    let facts = rw c.sigmas_of.ensures at c.facts_at.ensures in
    let rest_place = rw c.sigmas_of.ensures at c.rest_matches.ensures.place in
    λ a1 a2. let l = lent_of o a.m1.now a.m2.now a1 a2 a.ignored.now in record {
      state = refl;
      facts = facts;
      direction = read-direction o l a.tuple ∙ sym found;
      place = start_placed o l (record { tuple = a.tuple; facts = c.facts_at.result; on = c.in_ok-on.on; walked = 0; matches = matches }) refl rest_place;
    }
