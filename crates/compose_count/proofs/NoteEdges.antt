-- What a walked transition notes, by its label; and the whole walked list, one record after the other.
use mathlib.Core.Path.{◌≡◌, refl, sym, ◌∙◌, ap, subst}
use mathlib.Core.Bool.{Bool, true}
use mathlib.Core.List.{List}
use Prim.Native.Nat.{ℕ, zero, suc, ◌≤◌}
use native.Mathlib.Omega.{arith}
use Rattle.words.specs.Weights.{kind_of}
use Rattle.words.specs.Matches.{MatchType, Tr as Transition, tr_of}
use Rattle.words.specs.Machines.{tr_count, first_of, next_of, machine_of}
use Rattle.words.specs.Steps.{Triple}
use Rattle.matchers.specs.Meaning.{the_loop}
use Rattle.matchers.specs.Cursors.{with_label, head0}
use Rattle.sorted_lists.specs.Runs.{rising}
use Rattle.std.specs.Prelude.{Some}
use Rattle.compose_moves.specs.Moves.{as_tr}
use Rattle.stored_steps.specs.Storing.{AllGood}
use Rattle.compose_walk.specs.declared.Plan.{Plan}
use Rattle.compose_walk.specs.Plans.{side_by, edge_by, walked_label, edges_by, rest_by, plan_steps}
use Rattle.compose_walk.proofs.Edges.{from_rising, alone_by, alone_is, turned}
use Rattle.compose_count.specs.Notes.{Notes, target_by, note_to, note_all}
use Rattle.compose_count.proofs.NoteLaws.{good_split, note_then, note_one, rising_end}

-- from the first record with a label on, no label is below it; nor is one where there is none
pub found_rising : (on : MatchType) (m : List ℕ) (x first from : ℕ) → from ≡ head0 (with_label on m x first) → rising on m 0 first ≡ true → rising on m x from ≡ true
found_rising on m x first zero e r = rising_end on m x 0 refl
found_rising on m x first (suc t) e r = from_rising on m x first (suc t) e 0 (λ z. omega arith) r

-- a walked epsilon alone
pub alone_noted : (P : Triple → Bool) (n o : Notes) (v : Plan) (w : Transition) (f s : ℕ) (c : Triple) → v.lone_walked ≡ Some f → w.target ≡ s → c ≡ target_by (side_by v) f s v.looked.0 → o ≡ note_to P n c → AllGood (alone_by v w)
    → o ≡ note_all P n (alone_by v w)
alone_noted P n o v w f s c k t d p g =
    let rest = as_tr (kind_of v.kind) v.looked.0 the_loop in
    let e = alone_is v w rest f refl k in
    p ∙ (ap (λ (b : Triple). note_to P n b) (d ∙ ap (λ (b : ℕ). target_by (side_by v) f b v.looked.0) (sym t)) ∙ (note_one P n (side_by v) (kind_of v.kind) w rest f (subst AllGood (sym e) g) ∙ ap (note_all P n) e))

module _ (v : Plan) (mw mm : List ℕ) where
  -- a walked record as it is read, in its turn
  module _ (t : ℕ) (w : Transition) (x : ℕ) (n : t ≡ 0 → ⊥) (h : t ≤ tr_count mw) (p : w ≡ tr_of (machine_of mw) t) (q : x ≡ walked_label (side_by v) w) where
    parts : AllGood (edges_by v mw mm t) → AllGood (edge_by v mm w x) × AllGood (edges_by v mw mm (next_of mw t))
    parts g = good_split (edge_by v mm w x) (edges_by v mw mm (next_of mw t)) (subst AllGood (turned v mw mm t w x n h p q) g)

    pub edges_good : AllGood (edges_by v mw mm t) → AllGood (edge_by v mm w x)
    edges_good g = (parts g).0

    -- and once it is noted, the others are left
    pub edges_left : (u : ℕ) → u ≡ next_of mw t → AllGood (edges_by v mw mm t) → AllGood (edges_by v mw mm u)
    edges_left u l g = subst (λ (r : ℕ). AllGood (edges_by v mw mm r)) (sym l) (parts g).1

    pub edges_noted : (P : Triple → Bool) (m o : Notes) (u : ℕ) → u ≡ next_of mw t → o ≡ note_all P m (edge_by v mm w x) → note_all P o (edges_by v mw mm u) ≡ note_all P m (edges_by v mw mm t)
    edges_noted P m o u l s =
        let others = edges_by v mw mm (next_of mw t) in
        ap (λ (r : ℕ). note_all P o (edges_by v mw mm r)) l
        ∙ (note_then P m o (note_all P o others) (edge_by v mm w x) others s refl ∙ ap (note_all P m) (sym (turned v mw mm t w x n h p q)))

  -- all: the rest, and then the walked list
  pub plan_parts : AllGood (plan_steps v mw mm) → AllGood (rest_by v mm) × AllGood (edges_by v mw mm (first_of mw v.walked.0))
  unfolding plan_steps
  plan_parts g = good_split (rest_by v mm) (edges_by v mw mm (first_of mw v.walked.0)) g

  pub plan_noted : (P : Triple → Bool) (m o : Notes) (t : ℕ) → t ≡ first_of mw v.walked.0 → o ≡ note_all P m (rest_by v mm) → note_all P o (edges_by v mw mm t) ≡ note_all P m (plan_steps v mw mm)
  unfolding plan_steps
  plan_noted P m o t l s =
      let others = edges_by v mw mm (first_of mw v.walked.0) in
      ap (λ (r : ℕ). note_all P o (edges_by v mw mm r)) l ∙ note_then P m o (note_all P o others) (rest_by v mm) others s refl
