-- The walk: the list's next transition, its end, and the direction that decides which machine is walked.
use mathlib.Core.Path.{◌≡◌, refl, sym, ap, ◌∙◌}
use mathlib.Core.Bool.{true, false, true≢false, false≢true}
use mathlib.Core.List.{List, [], ◌++◌, flat_map}
use Prim.Native.Nat.{ℕ, ◌≤◌}
use Rattle.std.specs.Prelude.{Option, None, Some, is_none, Ok, Err}
use Rattle.words.specs.Labels.{Checked, good, refused}
use Rattle.words.specs.Matches.{label_on}
use Rattle.words.specs.Machines.{tr_count, next_of, machine_of}
use Rattle.words.specs.Settings.{Lent}
use Rattle.words.specs.Steps.{Step}
use Rattle.words.proofs.ListLaws.{list_end_lem, list_turn}
use Rattle.fst.specs.declared.MatchType.TheVariants.{MatchInput, MatchOutput}
use Rattle.matchers.specs.declared.Cursor.{Cursor}
use Rattle.matchers.specs.Meaning.{Item, lookup_items}
use Rattle.matchers.specs.Cursors.{items_left}
use Rattle.compose_fst_op.specs.Composing.{lent_of}
use Rattle.compose_moves.specs.Walks.{Walk, walk_means, walked_state, looked_state, walked_side, next_edge, tr_steps, trs_steps, walk_left, Asked, ends, refuses, asked, Along, along_means, Placed, PlacedBy}
use Rattle.compose_moves.specs.Cursors.{cursor_walk, steps_left, next_means, fixed_by, resumed, StaysPlaced}
use Rattle.compose_moves.proofs.Edges.{after_taken}
use Rattle.compose_moves.proofs.Placed.{resumed_placed}
use Rattle.compose_fst_op.specs.declared.ComposeFstOpOptions.{ComposeFstOpOptions}
use Rattle.compose_moves.specs.declared.MoveCursor.{MoveCursor}
use Rattle.compose_moves.specs.declared.moves.ComposeTr.{ComposeTr}

-- the look-up of transition t's label
abbrev pub looked_up : Walk → ℕ → Checked (List Item)
looked_up W t = lookup_items W.operand (looked_state W.on W.present.triple) (label_on (walked_side W.on) (machine_of W.walked) t)

-- it gave the cursor c, or refused
pub tr_found : (W : Walk) (t : ℕ) (c : Cursor) → good (items_left (W.held c) c) ≡ looked_up W t → walk_left W t c ≡ tr_steps W t ++ trs_steps W (next_edge W t)
unfolding walk_left tr_steps
tr_found W t c e = rw (← e)

pub tr_refused : (W : Walk) (t n : ℕ) (l : List (Checked Step)) → refused n ≡ looked_up W t → refuses n ≡ asked (tr_steps W t ++ l)
unfolding tr_steps
tr_refused W t n l e = rw (← e)

-- a turn along the walked list, and its end
pub trs_turn : (W : Walk) (t : ℕ) → (t ≡ 0 → ⊥) → t ≤ tr_count W.walked → trs_steps W t ≡ tr_steps W t ++ trs_steps W (next_of W.walked t)
unfolding trs_steps flat_map
trs_turn W t n h = rw (list_turn W.walked t n h)

pub trs_end : (W : Walk) (t : ℕ) → t ≡ 0 → trs_steps W t ≡ []
unfolding trs_steps flat_map
trs_end W t e = rw (list_end_lem W.walked t e)

-- a transition stands for itself, whatever comes after it
pub some_given : (W : Walk) (x y : Asked) (a : Option (ComposeTr × ℕ × Cursor)) → is_none a ≡ false → along_means W x (Ok a) ≡ along_means W y (Ok a)
some_given W x y (Some (r, t, c)) e = refl
some_given W x y None e = absurd (true≢false e)

pub none_given : (W : Walk) (after : Asked) (a : Option (ComposeTr × ℕ × Cursor)) → is_none a ≡ true → along_means W after (Ok a) ≡ after
none_given W after (Some (r, t, c)) e = absurd (false≢true e)
none_given W after None e = refl

-- A turn: where the answer a says that nothing came before transition t, the answer b for t gives what the walk gives from t on.
pub walk_turn : (W : Walk) (t u : ℕ) (a : Option (ComposeTr × ℕ × Cursor)) (b : Along) → (t ≡ 0 → ⊥) → t ≤ tr_count W.walked → u ≡ next_of W.walked t → is_none a ≡ true
    → along_means W (asked (trs_steps W (next_edge W t))) b ≡ asked (tr_steps W t ++ trs_steps W (next_edge W t)) → along_means W (asked (trs_steps W u)) b ≡ along_means W (asked (trs_steps W t)) (Ok a)
walk_turn W t u a b n h e d p =
    let next : next_edge W t ≡ next_of W.walked t = after_taken W.walked (walked_state W.on W.present.triple) t n in
    ap (λ (v : ℕ). along_means W (asked (trs_steps W v)) b) (e ∙ sym next)
    ∙ p
    ∙ ap (λ (v : ℕ). asked (tr_steps W t ++ trs_steps W v)) next
    ∙ ap asked (sym (trs_turn W t n h))
    ∙ sym (none_given W (asked (trs_steps W t)) a d)

-- the walk's answer as the cursor's
pub resumed_is : (o : ComposeFstOpOptions) (l : Lent) (c : MoveCursor) (a : Along) → next_means o l (resumed c a) ≡ along_means (cursor_walk o l c) ends a
unfolding steps_left
resumed_is o l c (Ok (Some (r, t, m))) = refl
resumed_is o l c (Ok None) = refl
resumed_is o l c (Err r) = refl

-- direction input walks machine 1, direction output machine 2
module _ (o : ComposeFstOpOptions) (m1 m2 a1 a2 ignored : List ℕ) (c : MoveCursor) where
  walk_input : c.on ≡ MatchInput → walk_means (fixed_by o o.sigma2 c) m1 m2 a2 ignored ≡ cursor_walk o (lent_of o m1 m2 a1 a2 ignored) c
  walk_input e = rw e

  walk_output : c.on ≡ MatchOutput → walk_means (fixed_by o o.sigma1 c) m2 m1 a1 ignored ≡ cursor_walk o (lent_of o m1 m2 a1 a2 ignored) c
  walk_output e = rw e

  -- the two clauses of `ordered_expand`, and those of `next_step`
  abbrev Walked : Walk → Along → Type 0
  Walked W a = (along_means W ends a ≡ asked (walk_left W c.walked c.matches)) × (Placed W c.walked c.matches → PlacedBy W a)

  abbrev Answered : Along → Type 0
  Answered a =
      let l = lent_of o m1 m2 a1 a2 ignored in
      (next_means o l (resumed c a) ≡ asked (steps_left o l c)) × StaysPlaced o l c (resumed c a)

  answer : (W : Walk) (a : Along) → W ≡ cursor_walk o (lent_of o m1 m2 a1 a2 ignored) c → Walked W a → Answered a
  unfolding steps_left
  answer W a e h =
      let l = lent_of o m1 m2 a1 a2 ignored in
      (rw (resumed_is o l c a) (rw e at h.0), resumed_placed o l c a (rw e at h.1))

  pub answer_input : (a : Along) → c.on ≡ MatchInput → Walked (walk_means (fixed_by o o.sigma2 c) m1 m2 a2 ignored) a → Answered a
  answer_input a e h = answer (walk_means (fixed_by o o.sigma2 c) m1 m2 a2 ignored) a (walk_input e) h

  pub answer_output : (a : Along) → c.on ≡ MatchOutput → Walked (walk_means (fixed_by o o.sigma1 c) m2 m1 a1 ignored) a → Answered a
  answer_output a e h = answer (walk_means (fixed_by o o.sigma1 c) m2 m1 a1 ignored) a (walk_output e) h
