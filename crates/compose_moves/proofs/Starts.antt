-- From the start on, a walk makes what `words` lists: edge by edge, and in each edge match by match.
use mathlib.Core.Path.{◌≡◌, refl, sym, ap, ap₂, ◌∙◌}
use mathlib.Core.List.{List, [], ◌∷◌, ◌++◌, flat_map}
use Rattle.std.specs.Prelude.{Option}
use Prim.Native.Nat.{ℕ, zero, suc, ◌<◌}
use native.Mathlib.Omega.{arith}
use Rattle.words.specs.Labels.{no_label, Checked, good, refused}
use Rattle.words.specs.Matches.{MatchType, inputs, outputs, Match, own, sorted_matches}
use Rattle.words.specs.Machines.{list_of, first_of}
use Rattle.words.specs.Sigmas.{rewrite, Operand, lookup}
use Rattle.words.specs.Sides.{direction_at}
use Rattle.words.specs.Settings.{Lent}
use Rattle.words.specs.Steps.{Composition, Triple, Move, Step, walked as walkedEdges, asks, move_of, moves_of, walk, moves_at, kept_along, kept_at, steps_at}
use Rattle.words.proofs.ListLaws.{list_member}
use Rattle.words.proofs.WalkLaws.{lookup_none}
use Rattle.matchers.specs.declared.Cursor.{Cursor}
use Rattle.matchers.specs.declared.sigma_matcher.Sigma.{Sigma}
use Rattle.matchers.specs.Meaning.{operand_in, sorted_items, lookup_items}
use Rattle.compose_fst_op.specs.declared.ComposeFstOpOptions.{ComposeFstOpOptions}
use Rattle.matchers.specs.Cursors.{items_left}
use Rattle.matchers.proofs.Starts.{sorted_items_lem}
use Rattle.compose_moves.specs.Moves.{pair_steps}
use Rattle.compose_moves.specs.Walks.{Walk, walked_state, looked_state, looked_words, walked_side, edge_item, edge_steps, or_refused, tr_steps, trs_steps, walk_left}
use Rattle.compose_moves.specs.Cursors.{words1, words2, walk_in}
use Rattle.compose_moves.proofs.Flat.{flat_same, flat_map_lem, flat_flat, map_flat}
use Rattle.compose_moves.proofs.Rows.{edge_match, item_in, Fits, fits, C, here, made, pair_inputs, pair_outputs}

-- A walk K, and what `words` makes of a move, F: they agree at each walked edge and match.
module _ (K : Walk) (F : Checked Move → List (Checked Step)) (refuses : (n : ℕ) → F (refused n) ≡ refused n ∷ []) (σ : Sigma) (allowed : Option (List ℕ)) where
  abbrev W : Operand
  W = operand_in (walked_side K.on) K.walked σ allowed

  abbrev pub Agree : Type 0
  Agree = (e : ℕ) (m : Match) → Fits K.operand (asks W (edge_match e)) m
      → pair_steps K.on K.present (edge_item K.walked e) (item_in K.operand (asks W (edge_match e)) m) ≡ F (good (move_of K.on (edge_match e) m))

  -- one walked edge
  edge_made_lem : Agree → (e sm : ℕ) → or_refused K e (lookup_items K.operand sm (asks W (edge_match e))) ≡ flat_map F (moves_of K.on (edge_match e) (lookup K.operand sm (asks W (edge_match e))))
  unfolding lookup_items edge_steps flat_map
  edge_made_lem agree e sm = go (lookup K.operand sm (asks W (edge_match e))) refl
    where
      go : (r : Checked (List Match)) → lookup K.operand sm (asks W (edge_match e)) ≡ r
          → or_refused K e (lookup_items K.operand sm (asks W (edge_match e))) ≡ flat_map F (moves_of K.on (edge_match e) (lookup K.operand sm (asks W (edge_match e))))
      go (refused n) p = rw (p, refuses n)
      go (good ms) p =
          rw p
          (flat_map_lem (pair_steps K.on K.present (edge_item K.walked e)) (item_in K.operand (asks W (edge_match e))) ms
          ∙ flat_same _ _ ms (λ m i. agree e m (fits K.operand sm (asks W (edge_match e)) ms p m i))
          ∙ sym (flat_map_lem F (λ m. good (move_of K.on (edge_match e) m)) ms))

  -- a transition of the walked list; record numbers count from 1
  tr_made : Agree → (u : ℕ) → 0 < u → tr_steps K u ≡ flat_map F (moves_of K.on (own u) (lookup K.operand (looked_state K.on K.present.triple) (asks W (own u))))
  unfolding tr_steps
  tr_made agree zero h = absurd (omega arith)
  tr_made agree (suc u) h = edge_made_lem agree (suc u) (looked_state K.on K.present.triple)

  -- the moves of one walked edge
  abbrev moves : Match → List (Checked Move)
  moves w = moves_of K.on w (lookup K.operand (looked_state K.on K.present.triple) (asks W w))

  -- the whole walk
  pub walk_made : Agree → (sw : ℕ) → or_refused K 0 (lookup_items K.operand (looked_state K.on K.present.triple) no_label) ++ trs_steps K (first_of K.walked sw)
      ≡ flat_map F (walk K.on W sw K.operand (looked_state K.on K.present.triple))
  unfolding walk trs_steps list_of flat_map
  walk_made agree sw =
      ap₂ ◌++◌ (edge_made_lem agree 0 (looked_state K.on K.present.triple))
      (flat_same (tr_steps K) (λ u. flat_map F (moves (own u))) (list_of K.walked sw) (λ u i. tr_made agree u (list_member K.walked sw i).0)
      ∙ sym (flat_map_lem (λ w. flat_map F (moves w)) own (list_of K.walked sw)))
      ∙ sym (flat_flat F moves (walkedEdges W sw))

-- asked for MAX: the sorted look-up, and no refusal
rest_items : (on : MatchType) (m : List ℕ) (σ : Sigma) (allowed : Option (List ℕ)) (s : ℕ) → lookup_items (operand_in on m σ allowed) s no_label ≡ good (sorted_items on m s no_label)
unfolding lookup_items sorted_matches
rest_items on m σ allowed s = rw (lookup_none (operand_in on m σ allowed) s) (ap good (sorted_items_lem on m s no_label (rewrite (operand_in on m σ allowed).sigma.rewrite_both on (operand_in on m σ allowed).sigma.label no_label)))

-- a walk whose walked machine rests, with all its matches
pub at_rest : (K : Walk) (σ : Sigma) (allowed : Option (List ℕ)) (c : Cursor) → K.operand ≡ operand_in K.on K.looked σ allowed
    → items_left (K.held c) c ≡ sorted_items K.on K.looked (looked_state K.on K.present.triple) no_label
    → walk_left K 0 c ≡ or_refused K 0 (lookup_items K.operand (looked_state K.on K.present.triple) no_label) ++ trs_steps K (first_of K.walked (walked_state K.on K.present.triple))
unfolding walk_left
at_rest K σ allowed c o e = rw (e, o, rest_items K.on K.looked σ allowed (looked_state K.on K.present.triple))

-- the direction of a composition at a state
abbrev directed : Composition → Triple → Checked MatchType
directed c t = direction_at c.side c.operand1 c.operand2 t.s1 t.s2

-- `words`' steps in a direction
pub steps_along : (c : Composition) (t : Triple) (d : MatchType) → directed c t ≡ good d → steps_at c t ≡ flat_map (made c t) (moves_at d c.operand1 c.operand2 t.s1 t.s2)
unfolding steps_at kept_at kept_along
steps_along c t d e = rw e (map_flat _ _ (moves_at d c.operand1 c.operand2 t.s1 t.s2))

module _ (o : ComposeFstOpOptions) (l : Lent) (t : Triple) where
  -- refusal 10 alone
  pub no_steps : (n : ℕ) → directed (C o l t) t ≡ refused n → refused n ∷ [] ≡ steps_at (C o l t) t
  unfolding steps_at kept_at
  no_steps n e = rw e

  -- the walk from the start on, in either direction
  pub all_steps : (d : MatchType) (c : Cursor) → directed (C o l t) t ≡ good d
      → items_left ((walk_in o l (here (C o l t) t) d).held c) c ≡ sorted_items d (looked_words d (words1 o l) (words2 o l)) (looked_state d t) no_label
      → walk_left (walk_in o l (here (C o l t) t) d) 0 c ≡ steps_at (C o l t) t
  all_steps inputs c e i =
      at_rest (walk_in o l (here (C o l t) t) inputs) o.sigma2 l.allowed2 c refl i
      ∙ walk_made (walk_in o l (here (C o l t) t) inputs) (made (C o l t) t) (λ n. refl) o.sigma1 l.allowed1 (pair_inputs o l t) t.s1
      ∙ sym (steps_along (C o l t) t inputs e)
  all_steps outputs c e i =
      at_rest (walk_in o l (here (C o l t) t) outputs) o.sigma1 l.allowed1 c refl i
      ∙ walk_made (walk_in o l (here (C o l t) t) outputs) (made (C o l t) t) (λ n. refl) o.sigma2 l.allowed2 (pair_outputs o l t) t.s2
      ∙ sym (steps_along (C o l t) t outputs e)
