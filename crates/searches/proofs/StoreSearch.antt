-- The search on the links of a store in form marks just the useful states of the store read as a machine.
use mathlib.Core.Path.{◌≡◌, refl, sym, ◌∙◌, ap, subst}
use mathlib.Core.Bool.{Bool, true, false, ◌&&◌, not, cond, false≢true}
use mathlib.Core.List.{List, [], ◌∷◌, Memᴰ as In}
use mathlib.Core.Logic.{◌⊎◌, inl, inr, ⊎_elim}
use Rattle.std.specs.Prelude.{Some}
use Rattle.std.proofs.lemmas.Option.{same_Some}
use Prim.Native.Nat.{ℕ, zero, suc, ◌+◌, ◌-◌, ◌*◌, ◌≤◌, ◌<◌}
use native.Mathlib.Omega.{arith}
use lib.Dec.{eqb, ltb, leb}
use lib.ListN.{length}
use borrow.Author.Tests.{eqb-true, eq-eqb, ne_eqb, ltb-true, lt-ltb, leb-true, le-leb}
use Rattle.lists.specs.Lists.{interval, linked}
use Rattle.lists.proofs.Links.{linked_zero}
use Rattle.papers.specs.Machine.{Machine}
use Rattle.words.specs.Machines.{limit}
use Rattle.words.specs.Steps.{Composition}
use Rattle.calls.specs.Store.{Store, first_at, tr_next_at, part_with}
use Rattle.calls.specs.Forms.{form_ok}
use Rattle.calls.proofs.StoreForms.{form_state, form_tr}
use Rattle.graphs.specs.Walks.{Walk, useful, Bounded}
use Rattle.graphs.specs.StoreMachine.{first_state, store_machine}
use Rattle.graphs.proofs.StoreLaws.{store_bounded}
use Rattle.graphs.proofs.Useful.{useful_is}
use Rattle.searches.specs.UsefulSearch.{status_in, start_of, run_of}
use Rattle.searches.specs.StoreLinks.{first_in, next_in, along, list_from, links_of, turns_for}
use Rattle.searches.proofs.Search.{Graph, Reach, stay, go}
use Rattle.searches.proofs.Ties.{graph_of}
use Rattle.searches.proofs.Whole.{Marked}
use Rattle.searches.proofs.Rising.{along_zero, turn, useful_marked}
-- no run changes how many words there are
pub use Rattle.searches.proofs.Lengths.{start_length, run_length}

-- whatever the words are, the links rise or end, and begin at a used record or nowhere
pub next_rises : (d : Store) (r : ℕ) → 0 < r → (next_in d r ≡ 0) ⊎ ((r < next_in d r) × (next_in d r ≤ d.used.trs))
unfolding next_in
next_rises d r h = by (ltb r d.used.trs) (not (eqb (tr_next_at d.memory.trs (r - 1)) 0)) refl
  where
    by : (a b : Bool) → ltb r d.used.trs ≡ a → (cond (a && b) (r + 1) 0 ≡ 0) ⊎ ((r < cond (a && b) (r + 1) 0) × (cond (a && b) (r + 1) 0 ≤ d.used.trs))
    by true true e = let z : r < d.used.trs = ltb-true r d.used.trs e in inr (omega arith, omega (arith, z))
    by true false e = inl refl
    by false b e = inl refl

pub first_within : (d : Store) (n : ℕ) → first_in d n ≤ d.used.trs
unfolding first_in
first_within d n = by (leb (first_at d.memory.states n) d.used.trs) refl
  where
    by : (b : Bool) → leb (first_at d.memory.states n) d.used.trs ≡ b → cond b (first_at d.memory.states n) 0 ≤ d.used.trs
    by true e = leb-true _ _ e
    by false e = omega arith

-- the turn of a loop over a state's list, whatever the words are
pub list_turn : (d : Store) (r : ℕ) → 0 < r → list_from d r ≡ r ∷ list_from d (next_in d r)
unfolding list_from
list_turn d r h = turn (next_in d) d.used.trs (next_rises d) r h

pub list_none : (d : Store) → list_from d 0 ≡ []
unfolding list_from
list_none d = along_zero (next_in d) (suc d.used.trs)

-- under form the links are those that the words hold
next_ends : (d : Store) (r : ℕ) → tr_next_at d.memory.trs (r - 1) ≡ 0 → next_in d r ≡ 0
unfolding next_in
next_ends d r e = by (ltb r d.used.trs) (eqb (tr_next_at d.memory.trs (r - 1)) 0) (eq-eqb _ _ e)
  where
    by : (a b : Bool) → b ≡ true → cond (a && not b) (r + 1) 0 ≡ 0
    by true true z = refl
    by true false z = absurd (false≢true z)
    by false b z = refl

next_goes : (d : Store) (r : ℕ) → (tr_next_at d.memory.trs (r - 1) ≡ 0 → ⊥) → r < d.used.trs → next_in d r ≡ suc r
unfolding next_in
next_goes d r e l = rw (lt-ltb r d.used.trs l, ne_eqb (tr_next_at d.memory.trs (r - 1)) 0 e) (omega arith)

first_is : (d : Store) (n : ℕ) → first_at d.memory.states n ≤ d.used.trs → first_in d n ≡ first_at d.memory.states n
unfolding first_in
first_is d n l = rw (le-leb _ _ l)

-- the records along the links are consecutive, as many as the words' links lead to
along_interval : (d : Store) (S1 S2 : ℕ) → form_ok S1 S2 d ≡ true → (k j r : ℕ) → r ≤ d.used.trs → d.used.trs < k + r → (0 < r → d.used.trs < j + r)
    → along (next_in d) k r ≡ interval r (length (linked (tr_next_at d.memory.trs) j r))
unfolding along linked interval
along_interval d S1 S2 ok zero j r a b c = absurd (omega arith)
along_interval d S1 S2 ok (suc k) zero zero a b c = refl
along_interval d S1 S2 ok (suc k) (suc j) zero a b c = refl
along_interval d S1 S2 ok (suc k) zero (suc r) a b c = let z = c (omega arith) in absurd (omega (arith, z, a))
along_interval d S1 S2 ok (suc k) (suc j) (suc r) a b c = ap (λ (l : List ℕ). suc r ∷ l) (⊎_elim
    (λ e. ap (along (next_in d) k) (next_ends d (suc r) (ap (tr_next_at d.memory.trs) back ∙ e))
    ∙ (along_zero (next_in d) k ∙ sym (ap (λ (l : List ℕ). interval (suc (suc r)) (length l)) (linked_zero (tr_next_at d.memory.trs) j _ e))))
    (λ e. let v = e.0 in
    let l = e.1 in
    let g : tr_next_at d.memory.trs r ≡ suc (suc r) = omega (arith, v) in
    let h = ap (tr_next_at d.memory.trs) back ∙ g in
    let m = c (omega arith) in
    ap (along (next_in d) k) (next_goes d (suc r) (λ z. omega (arith, z, h)) (omega (arith, l)))
    ∙ (along_interval d S1 S2 ok k j (suc (suc r)) (omega (arith, l)) (omega (arith, b)) (λ z. omega (arith, m))
    ∙ sym (ap (λ x. interval (suc (suc r)) (length (linked (tr_next_at d.memory.trs) j x))) g)))
    (form_tr S1 S2 d ok r (omega arith)).next)
  where
    back : suc r - 1 ≡ r
    back = omega arith

-- a used state's list, walked along the links, is that of the machine
pub useful_list : (c : Composition) (d : Store) (S1 S2 : ℕ) → form_ok S1 S2 d ≡ true → (n : ℕ) → n < d.used.states → list_from d (first_in d n) ≡ (store_machine c d).list n
unfolding part_with list_from
useful_list c d S1 S2 ok n l =
    let f = (form_state S1 S2 d ok n l).first in
    ap (along (next_in d) (suc d.used.trs)) (first_is d n f)
    ∙ along_interval d S1 S2 ok (suc d.used.trs) d.used.trs (first_at d.memory.states n) f (omega arith) (λ z. omega (arith, z))

module _ (c : Composition) (d : Store) (S1 S2 : ℕ) (ok : form_ok S1 S2 d ≡ true) where
  -- the graph of the search
  abbrev G : Graph
  G = graph_of (links_of d) (λ r. along (next_in d) (suc d.used.trs) r) (store_machine c d).is_final

  -- what the search reaches from a used state, a walk of the machine reaches, and back
  reach_walk : (a b : ℕ) → a < d.used.states → Reach G a b → (rs : List ℕ) × Walk (store_machine c d) a rs b
  unfolding list_from
  reach_walk a b l (stay _ _ e) = ([], e)
  reach_walk a b l (go _ r _ i h) =
      let j : In r ((store_machine c d).list a) = subst (λ (l : List ℕ). In r l) (useful_list c d S1 S2 ok a l) i in
      let z = reach_walk ((store_machine c d).target r) b ((store_bounded c d S1 S2 ok).target_below a r l j) h in
      (r ∷ z.0, (j, z.1))

  walk_reach : (a b : ℕ) (rs : List ℕ) → a < d.used.states → Walk (store_machine c d) a rs b → Reach G a b
  unfolding list_from
  walk_reach a b [] l w = stay a b w
  walk_reach a b (r ∷ rs) l w =
      go a r b (subst (λ (l : List ℕ). In r l) (sym (useful_list c d S1 S2 ok a l)) w.0) (walk_reach ((store_machine c d).target r) b rs ((store_bounded c d S1 S2 ok).target_below a r l w.0) w.1)

-- the search on a store in form, which ends
store_marked : (c : Composition) (d : Store) (S1 S2 : ℕ) → form_ok S1 S2 d ≡ true → d.used.states ≤ limit → d.used.trs ≤ limit → 0 < d.used.states → (w : List ℕ) → 2 * d.used.states ≤ length w
    → ((x : ℕ) → x < d.used.states → status_in w x ≡ cond ((store_machine c d).is_final x) 4 0)
    → Marked (links_of d) (λ r. along (next_in d) (suc d.used.trs) r) (store_machine c d).is_final d.used.states (run_of (links_of d) (turns_for d) (start_of (links_of d) w))
store_marked c d S1 S2 ok ls lt pos w long marks = useful_marked (links_of d) (store_machine c d).is_final d.used.states d.used.trs (next_rises d) (first_within d)
    (λ r p q. (form_tr S1 S2 d ok (r - 1) (omega (arith, p, q))).target) (omega arith) (omega arith) pos w long marks

starts : (u : ℕ) → 0 < u → first_state u ≡ Some 0
starts zero h = absurd (omega arith)
starts (suc u) h = refl

same_test : (a b : Bool) → (a ≡ true → b ≡ true) → (b ≡ true → a ≡ true) → a ≡ b
same_test true true f g = refl
same_test true false f g = sym (f refl)
same_test false true f g = g refl
same_test false false f g = refl

-- the search marks a used state alive just where the test says that it is useful
pub search_useful : (c : Composition) (d : Store) (S1 S2 : ℕ) → form_ok S1 S2 d ≡ true → d.used.states ≤ limit → d.used.trs ≤ limit → 0 < d.used.states → (w : List ℕ) → 2 * d.used.states ≤ length w
    → ((x : ℕ) → x < d.used.states → status_in w x ≡ cond ((store_machine c d).is_final x) 4 0) → (x : ℕ) → x < d.used.states
    → eqb (status_in (run_of (links_of d) (turns_for d) (start_of (links_of d) w)).work x) 2 ≡ useful (store_machine c d) x
search_useful c d S1 S2 ok ls lt pos w long marks x l = same_test _ _
    (λ e. let z = (m.1 x l).0 (eqb-true _ _ e) in
    (useful_is M B x).1 (record {
      start = 0;
      starts = starts d.used.states pos;
      reached = reach_walk c d S1 S2 ok 0 x pos z.0;
      end = z.1.0;
      leads = reach_walk c d S1 S2 ok x z.1.0 l z.1.1;
      final = z.1.2;
    }))
    (λ e. let u = (useful_is M B x).0 e in
    let zero-start : 0 ≡ u.start = same_Some 0 u.start (sym (starts d.used.states pos) ∙ u.starts) in
    eq-eqb _ _ ((m.1 x l).1
    (walk_reach c d S1 S2 ok 0 x u.reached.0 pos (subst (λ a. Walk M a u.reached.0 x) (sym zero-start) u.reached.1))
    (u.end, walk_reach c d S1 S2 ok x u.end u.leads.0 l u.leads.1, u.final)))
  where
    M : Machine
    M = store_machine c d

    B : Bounded (store_machine c d)
    B = store_bounded c d S1 S2 ok

    m : Marked (links_of d) (λ r. along (next_in d) (suc d.used.trs) r) (store_machine c d).is_final d.used.states (run_of (links_of d) (turns_for d) (start_of (links_of d) w))
    m = store_marked c d S1 S2 ok ls lt pos w long marks

-- and turns_for is fuel enough for it to end
pub search_done : (c : Composition) (d : Store) (S1 S2 : ℕ) → form_ok S1 S2 d ≡ true → d.used.states ≤ limit → d.used.trs ≤ limit → 0 < d.used.states → (w : List ℕ) → 2 * d.used.states ≤ length w
    → ((x : ℕ) → x < d.used.states → status_in w x ≡ cond ((store_machine c d).is_final x) 4 0) → (run_of (links_of d) (turns_for d) (start_of (links_of d) w)).done ≡ true
search_done c d S1 S2 ok ls lt pos w long marks = (store_marked c d S1 S2 ok ls lt pos w long marks).0
