-- Where the bounds on the two lists hold, no refusal stands among the steps of a composed state, and they are few: so they fit where there is room for so many records.
use mathlib.Core.Path.{◌≡◌, refl, sym, ◌∙◌, ap, subst}
use mathlib.Core.Bool.{Bool, true, false}
use mathlib.Core.List.Memᴰ
use mathlib.Core.List.{List, [], ◌∷◌, ◌++◌, map, flat_map, Memᴰ as In}
use mathlib.Core.Logic.{inl, inr, ⊎_elim}
use Rattle.std.specs.Prelude.{Option, None, Some}
use Prim.Native.Nat.{ℕ, suc, ◌+◌, ◌-◌, ◌*◌, ◌≤◌}
use native.Mathlib.Omega.{arith}
use lib.ListN.{length, length-map, length-append}
use Rattle.papers.specs.Filter.{Facts, Filter}
use Rattle.words.specs.Labels.{MAX, no_label, Checked, good, refused, and_then}
use Rattle.words.specs.Weights.{Kind, cost, count, one}
use Rattle.words.specs.Matches.{MatchType, inputs, outputs, Match, loop, own, viaSigma, tr_of, sorted_matches}
use Rattle.words.specs.Sigmas.{Operand, rewrite, lookup, given}
use Rattle.words.specs.Sides.{direction_at}
use Rattle.words.specs.Filters.{facts_at}
use Rattle.words.specs.Links.{epsilons}
use Rattle.words.specs.Steps.{Composition, Triple, Move, walked, asks, move_of, moves_of, walk, moves_at, move_kind, Kept, kept_by, keep, kept_along, kept_at, Step, weighed, step_of, steps_at}
use Rattle.words.proofs.WalkLaws.{lookup_none, lookup_unset}
use Rattle.calls.specs.Store.{Store, state_room, tr_room}
use Rattle.stored_steps.specs.Storing.{Accepted, All, AllGood, Fits}
use Rattle.stored_steps.proofs.Rooms.{few_fit}
use Rattle.compose_bounds.specs.Serving.{Listed, Light, weights_fit, Runs, Walks}
use Rattle.compose_bounds.proofs.Alls.{all_flat, all_map, flat_length}
use Rattle.compose_bounds.proofs.Weigh.{Small, times_fit}
use Rattle.compose_bounds.proofs.Lookups.{own_listed, sorted_listed, sorted_few}

-- the moves of a walk without sigma: no look-up is refused, and each match is of its list
module _ (d : MatchType) (W : Operand) (sw : ℕ) (M : Operand) (sm : ℕ) where
  walked_listed : (w : Match) → In w (walked W sw) → Listed (W.machine.list sw) w
  walked_listed w i = ⊎_elim (λ e. subst (Listed (W.machine.list sw)) (sym e) tt) (λ j. own_listed (W.machine.list sw) (W.machine.list sw) (λ t k. k) w j) (Memᴰ.cases_cons i)

  module _ (unset : M.sigma.label ≡ no_label) where
    module _ (P : Move → Type 0) (h : (w m : Match) → Listed (W.machine.list sw) w → Listed (M.machine.list sm) m → P (move_of d w m)) where
      edge : (w : Match) → Listed (W.machine.list sw) w → All P (moves_of d w (lookup M sm (asks W w)))
      edge w l =
          let x = asks W w in
          rw (lookup_unset M sm x unset) (all_map P (move_of d w) (sorted_matches M.on M.machine sm x) (λ m j. h w m l (sorted_listed M sm x m j)))

      pub walk_all : All P (walk d W sw M sm)
      unfolding walk
      walk_all = all_flat P (λ w. moves_of d w (lookup M sm (asks W w))) (walked W sw) (λ w i. edge w (walked_listed w i))

    -- and they are few
    module _ (run : ℕ) (runs : Runs M sm run) where
      moves_few : (w : Match) (x : ℕ) → length (moves_of d w (lookup M sm x)) ≤ run + 1
      moves_few w x =
          rw (lookup_unset M sm x unset)
          (omega (arith, length-map (sorted_matches M.on M.machine sm x) (λ m. good (move_of d w m)), sorted_few M sm run runs x))

      rests_few : length (moves_of d loop (lookup M sm no_label)) ≡ length (epsilons M sm)
      rests_few = rw (lookup_none M sm) (length-map (map own (epsilons M sm)) (λ m. good (move_of d loop m)) ∙ length-map (epsilons M sm) own)

      pub walk_few : length (walk d W sw M sm) ≤ length (epsilons M sm) + length (W.machine.list sw) * (run + 1)
      unfolding walk flat_map
      walk_few =
          let g : Match → List (Checked Move) = λ w. moves_of d w (lookup M sm (asks W w)) in
          let p = length-append (g loop) (flat_map g (map own (W.machine.list sw))) in
          let q = flat_length g (map own (W.machine.list sw)) (run + 1) (λ w i. moves_few w (asks W w)) in
          let z : length (map own (W.machine.list sw)) * (run + 1) ≡ length (W.machine.list sw) * (run + 1) = ap (λ (k : ℕ). k * (run + 1)) (length-map (W.machine.list sw) own) in
          omega (arith, p, q, z, rests_few)

-- the filter keeps some of them
module _ (filter : Filter) (A : Operand) (φ : Facts) (f : ℕ) where
  keep_all : (P : Move → Type 0) (l : List (Checked Move)) → All P l → All (λ k. P k.move) (flat_map (keep filter A φ f) l)
  unfolding flat_map
  keep_all P [] a = tt
  keep_all P (refused n ∷ l) a = absurd a
  keep_all P (good v ∷ l) a = go (filter (move_kind A v.first v.second) φ f) (keep_all P l a.1)
    where
      go : (o : Option ℕ) → All (λ k. P k.move) (flat_map (keep filter A φ f) l) → All (λ k. P k.move) (kept_by v o ++ flat_map (keep filter A φ f) l)
      go None r = r
      go (Some g) r = (a.0, r)

  keep_few : (l : List (Checked Move)) → length (flat_map (keep filter A φ f) l) ≤ length l
  unfolding flat_map
  keep_few [] = omega arith
  keep_few (refused n ∷ l) = let r = keep_few l in omega (arith, r)
  keep_few (good v ∷ l) = go (filter (move_kind A v.first v.second) φ f) (keep_few l)
    where
      go : (o : Option ℕ) → length (flat_map (keep filter A φ f) l) ≤ length l → length (kept_by v o ++ flat_map (keep filter A φ f) l) ≤ suc (length l)
      go None r = omega (arith, r)
      go (Some g) r = omega (arith, r)

-- the weight of a match is one, or that of a record of the list: rewriting touches labels alone
sigma_weight : (k : Kind) (o : Operand) (s x t : ℕ) → (given k o s x (viaSigma t)).weight ≡ o.machine.weight t
unfolding given
sigma_weight k o s x t = go o.sigma.rewrite_both o.on
  where
    go : (b : Bool) (on : MatchType) → (rewrite b on o.sigma.label x (tr_of o.machine t)).weight ≡ o.machine.weight t
    go true on = refl
    go false inputs = refl
    go false outputs = refl

one_word : (k : Kind) → one k ≤ MAX
one_word cost = omega arith
one_word count = omega arith

tr_small : (k : Kind) (o : Operand) (s p t : ℕ) → Light k o s p → In t (o.machine.list s) → (o.machine.weight t ≤ MAX) × Small k p (o.machine.weight t)
tr_small k o s p t l i = (l.word t i, ⊎_elim inl (λ h. inr (inr h)) (l.most t i))

given_small : (k : Kind) (o : Operand) (s p x : ℕ) → Light k o s p → (m : Match) → Listed (o.machine.list s) m → ((given k o s x m).weight ≤ MAX) × Small k p (given k o s x m).weight
unfolding given
given_small k o s p x l loop i = (one_word k, inr (inl refl))
given_small k o s p x l (own t) i = tr_small k o s p t l i
given_small k o s p x l (viaSigma t) i = subst (λ (w : ℕ). (w ≤ MAX) × Small k p w) (sym (sigma_weight k o s x t)) (tr_small k o s p t l i)

module _ (c : Composition) (s : Triple) (p q : ℕ) (light1 : Light c.kind c.operand1 s.s1 p) (light2 : Light c.kind c.operand2 s.s2 q) (fit : weights_fit c.kind p q ≡ true) where
  abbrev Both : Move → Type 0
  Both v = Listed (c.operand1.machine.list s.s1) v.first × Listed (c.operand2.machine.list s.s2) v.second

  step_accepted : (k : Kept) → Both k.move → Accepted (step_of c s k)
  unfolding step_of
  step_accepted k b =
      let x = asks c.operand2 k.move.second in
      let y = asks c.operand1 k.move.first in
      let u = given_small c.kind c.operand1 s.s1 p x light1 k.move.first b.0 in
      let v = given_small c.kind c.operand2 s.s2 q y light2 k.move.second b.1 in
      let t = times_fit c.kind _ _ p q fit u.0 v.0 u.1 v.1 in
      subst (λ o. Accepted (weighed (given c.kind c.operand1 s.s1 x k.move.first) (given c.kind c.operand2 s.s2 y k.move.second) k.next o)) (sym t.1) tt

  steps_good : (l : List (Checked Kept)) → All (λ k. Both k.move) l → AllGood (map (λ k. and_then k (step_of c s)) l)
  steps_good [] a = tt
  steps_good (refused n ∷ l) a = absurd a
  steps_good (good k ∷ l) a = go (step_of c s k) (step_accepted k a.0) (steps_good l a.1)
    where
      go : (x : Checked Step) → Accepted x → AllGood (map (λ k. and_then k (step_of c s)) l) → AllGood (x ∷ map (λ k. and_then k (step_of c s)) l)
      go (good st) h r = (tt, r)
      go (refused n) h r = absurd h

  moves_all : (d : MatchType) (run n : ℕ) → Walks d c.operand1 c.operand2 s.s1 s.s2 run n
      → All Both (moves_at d c.operand1 c.operand2 s.s1 s.s2) × (length (moves_at d c.operand1 c.operand2 s.s1 s.s2) ≤ n)
  moves_all inputs run n w = (
    walk_all inputs c.operand1 s.s1 c.operand2 s.s2 w.unset Both (λ a b x y. (x, y)),
    omega (arith, walk_few inputs c.operand1 s.s1 c.operand2 s.s2 w.unset run w.runs, w.few),
  )
  moves_all outputs run n w = (
    walk_all outputs c.operand2 s.s2 c.operand1 s.s1 w.unset Both (λ a b x y. (y, x)),
    omega (arith, walk_few outputs c.operand2 s.s2 c.operand1 s.s1 w.unset run w.runs, w.few),
  )

  -- every step is good, and there are at most n
  pub serves_steps : (d : MatchType) (run n : ℕ) → direction_at c.side c.operand1 c.operand2 s.s1 s.s2 ≡ good d → Walks d c.operand1 c.operand2 s.s1 s.s2 run n
      → AllGood (steps_at c s) × (length (steps_at c s) ≤ n)
  unfolding steps_at kept_at kept_along
  serves_steps d run n e w =
      let φ = facts_at c.operand1 c.operand2 s.s1 s.s2 in
      let m = moves_all d run n w in
      let k = flat_map (keep c.filter c.operand1 φ s.f) (moves_at d c.operand1 c.operand2 s.s1 s.s2) in
      let z = length-map k (λ (k : Checked Kept). and_then k (step_of c s)) in
      rw e (
        steps_good k (keep_all c.filter c.operand1 φ s.f Both (moves_at d c.operand1 c.operand2 s.s1 s.s2) m.0),
        omega (arith, z, keep_few c.filter c.operand1 φ s.f (moves_at d c.operand1 c.operand2 s.s1 s.s2), m.1),
      )

  -- with room for n more records of either sort they fit
  pub serves_fit : (d : MatchType) (run n : ℕ) → direction_at c.side c.operand1 c.operand2 s.s1 s.s2 ≡ good d → Walks d c.operand1 c.operand2 s.s1 s.s2 run n
      → (D : Store) → n ≤ state_room D.memory - D.used.states → n ≤ tr_room D.memory - D.used.trs → Fits D (steps_at c s)
  serves_fit d run n e w D a b = let r = serves_steps d run n e w in few_fit D (steps_at c s) r.0 (omega (arith, r.1, a)) (omega (arith, r.1, b))
