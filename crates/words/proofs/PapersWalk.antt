-- The walk of one machine, looked up in the other, lists just the pairs of edges whose inner labels meet, each once; and 11 just where a walked label is sigma.
use mathlib.Core.Path.{◌≡◌, refl, sym, ◌∙◌, ap, subst}
use mathlib.Core.Bool.{Bool, true, false, cond}
use mathlib.Core.List.Memᴰ
use mathlib.Core.List.Memᴰ.{head as here}
use mathlib.Core.List.Memᴰ.{tail as there}
use mathlib.Core.List.{List, [], ◌∷◌, ◌++◌, map, Memᴰ as In}
use mathlib.Core.Logic.{◌≢◌, ◌↔◌, inl, inr, ⊎_elim}
use Prim.Native.Nat.{ℕ}
use lib.Dec.{eqb}
use native.Mathlib.Decide.{ℕ_discrete}
use borrow.Author.Tests.{eq-eqb, ne_eqb}
use Rattle.lists.specs.Lists.{Distinct}
use Rattle.lists.proofs.Members.{in_flat, of_flat}
use Rattle.lists.proofs.Apart.{Apart, apart_map, apart_flat}
use Rattle.papers.specs.Filter.{MoveKind, lone1, lone2, bothEpsilon, aLabel}
use Rattle.papers.specs.Composition.{Edge, rest, along, Edges}
use Rattle.papers.specs.Sigma.{special_of2}
use Rattle.papers.proofs.Forms.{Meeting, by_form, form1, form2, formε, formx}
use Rattle.papers.proofs.Mirror.{mirror_kind}
use Rattle.words.specs.Labels.{eps_label, no_label, Checked, good, refused, refuse_if}
use Rattle.words.specs.Matches.{MatchType, inputs, outputs, Match, loop, own, viaSigma}
use Rattle.words.specs.Sigmas.{Operand, inner, sigma_matches, lookup}
use Rattle.words.specs.Steps.{Move, walked, asks, move_of, moves_of, walk, move_kind}
use Rattle.words.specs.AsPapers.{edge_of, edges_of, special_of, walked_of, match_of}
use Rattle.words.proofs.CheckedLaws.{refused_is, good≢refused, good_is}
use Rattle.words.specs.Links.{epsilons}
use Rattle.words.proofs.WalkLaws.{lookup_eps, lookup_none}
use Rattle.words.proofs.PapersLookup.{in_labelled, of_labelled, owns, lookup_label, found, find_own, find_sigma, SameEdge, apart_own, rest≢along, looked}

-- two entries of a list are alike: both are values, with one key
abbrev pub Alike : {A : Type 0} → (A → Edges) → Checked A → Checked A → Type 0
Alike key (good a) (good b) = key a ≡ key b
Alike key (good a) (refused n) = ⊥
Alike key (refused n) b = ⊥

pub alike_sym : {A : Type 0} (key : A → Edges) (a b : Checked A) → Alike key a b → Alike key b a
alike_sym key (good a) (good b) e = sym e
alike_sym key (good a) (refused n) e = e
alike_sym key (refused n) b e = absurd e

-- the edge of the machine that is walked, and of the one that is looked up
abbrev walked_edge : MatchType → Edges → Edge
walked_edge inputs m = m.first
walked_edge outputs m = m.second

abbrev other_edge_lem : MatchType → Edges → Edge
other_edge_lem inputs m = m.second
other_edge_lem outputs m = m.first

walked_edge_lem : (d : MatchType) (w m : Match) → walked_edge d (edges_of (move_of d w m)) ≡ edge_of w
walked_edge_lem inputs w m = refl
walked_edge_lem outputs w m = refl

other_edge : (d : MatchType) (w m : Match) → other_edge_lem d (edges_of (move_of d w m)) ≡ edge_of m
other_edge inputs w m = refl
other_edge outputs w m = refl

-- each once
module _ (d : MatchType) (W : Operand) (sw : ℕ) (M : Operand) (sm : ℕ) where
  apart_walked : Distinct (W.machine.list sw) → Apart SameEdge (walked W sw)
  apart_walked h = (λ m i e. let r = Memᴰ.of_map own (W.machine.list sw) i in rest≢along (e ∙ sym (ap edge_of r.2)), apart_own (W.machine.list sw) h)

  apart_moves : (w : Match) (b : Bool) (l : List Match) → (b ≡ false → Apart SameEdge l) → Apart (Alike edges_of) (moves_of d w (refuse_if b 11 (good l)))
  apart_moves w true l h = (λ y i r. r, tt)
  apart_moves w false l h = apart_map (Alike edges_of) (λ m. good (move_of d w m)) l (pairs l (h refl))
    where
      pairs : (l : List Match) → Apart SameEdge l → Apart (λ m n. edges_of (move_of d w m) ≡ edges_of (move_of d w n)) l
      pairs [] h = tt
      pairs (x ∷ xs) h = (λ y i e. h.0 y i (sym (other_edge d w x) ∙ (ap (other_edge_lem d) e ∙ other_edge d w y)), pairs xs h.1)

  -- a value among the moves of the walked edge w comes from a match
  of_moves : (w : Match) (r : Checked (List Match)) (v : Move) → In (good v) (moves_of d w r) → (m : Match) × (l : List Match) × (r ≡ good l) × In m l × (move_of d w m ≡ v)
  of_moves w (good l) v i = let r = Memᴰ.of_map (λ m. good (move_of d w m)) l i in (r.0, l, refl, r.1, good_is r.2)
  of_moves w (refused n) v i = absurd (⊎_elim good≢refused Memᴰ.not-nil (Memᴰ.cases_cons i))

  same_walked : (a b : Match) (x y : Checked Move) → In x (moves_of d a (lookup M sm (asks W a))) → In y (moves_of d b (lookup M sm (asks W b))) → Alike edges_of x y → SameEdge a b
  same_walked a b (good v) (good u) i j e =
      let p = of_moves a (lookup M sm (asks W a)) v i in
      let q = of_moves b (lookup M sm (asks W b)) u j in
      let at-v : edge_of a ≡ walked_edge d (edges_of v) = sym (walked_edge_lem d a p.0) ∙ ap (λ z. walked_edge d (edges_of z)) p.4 in
      let at-u : edge_of b ≡ walked_edge d (edges_of u) = sym (walked_edge_lem d b q.0) ∙ ap (λ z. walked_edge d (edges_of z)) q.4 in
      at-v ∙ (ap (walked_edge d) e ∙ sym at-u)
  same_walked a b (good v) (refused n) i j e = absurd e
  same_walked a b (refused n) y i j e = absurd e

  -- no pair of edges stands in the walk at two places
  pub walk_once : Distinct (W.machine.list sw) → Distinct (M.machine.list sm) → Apart (Alike edges_of) (walk d W sw M sm)
  unfolding walk
  walk_once h k =
      apart_flat SameEdge (Alike edges_of) (λ w. moves_of d w (lookup M sm (asks W w))) (walked W sw) (apart_walked h)
      (λ w. let r = looked M sm (asks W w) k in rw r.2 (apart_moves w r.0 r.1 r.3))
      same_walked

-- What stands in it: refusal 4 shuts out a sigma label 0, and MAX is never a label of a machine.
module _ (d : MatchType) (W : Operand) (sw : ℕ) (M : Operand) (sm : ℕ) (nonzero : M.sigma.label ≢ eps_label)
    (labelled1 : (t : ℕ) → In t (W.machine.list sw) → inner W t ≢ no_label) (labelled2 : (u : ℕ) → In u (M.machine.list sm) → inner M u ≢ no_label) where
  -- the walked machine and the one that is looked up as the papers' T1 and T2
  abbrev pub Pair : MoveKind → Edge → Edge → Type 0
  Pair k e1 e2 = Meeting W.machine M.machine (inner W) (inner M) (special_of2 (special_of M)) sw sm k e1 e2

  abbrev pub as_move : Edge → Edge → Move
  as_move e1 e2 = move_of d (walked_of e1) (match_of W M e1 e2)

  put_in : (w m : Match) (l : List Match) → In w (walked W sw) → lookup M sm (asks W w) ≡ good l → In m l → In (good (move_of d w m)) (walk d W sw M sm)
  unfolding walk
  put_in w m l i e j = in_flat (λ w. moves_of d w (lookup M sm (asks W w))) i (rw e (Memᴰ.map (λ m. good (move_of d w m)) j))

  at_eps : (t : ℕ) → inner W t ≡ eps_label → lookup M sm (inner W t) ≡ good (loop ∷ map own (epsilons M sm))
  at_eps t e = ap (lookup M sm) e ∙ lookup_eps M sm nonzero

  at_label : (t : ℕ) → In t (W.machine.list sw) → inner W t ≢ eps_label → inner W t ≢ M.sigma.label
      → lookup M sm (inner W t) ≡ good (map own (owns M sm (inner W t)) ++ sigma_matches M sm (inner W t))
  at_label t i n o = lookup_label M sm (inner W t) n (labelled1 t i) ∙ ap (λ b. refuse_if b 11 (good (map own (owns M sm (inner W t)) ++ sigma_matches M sm (inner W t)))) (ne_eqb _ _ o)

  taken : {t : ℕ} → In t (W.machine.list sw) → In (own t) (walked W sw)
  taken i = there (Memᴰ.map own i)

  eps_in : {u : ℕ} → In u (M.machine.list sm) → inner M u ≡ eps_label → In (own u) (map own (epsilons M sm))
  eps_in i e = Memᴰ.map own (in_labelled M.on M.machine sm eps_label i e)

  -- with equal labels the transition stands as it is, with others as sigma
  as_own : (t u : ℕ) → inner M u ≡ inner W t → as_move (along t) (along u) ≡ move_of d (own t) (own u)
  as_own t u e = rw (eq-eqb _ _ e)

  as_sigma : (t u : ℕ) → inner M u ≢ inner W t → as_move (along t) (along u) ≡ move_of d (own t) (viaSigma u)
  as_sigma t u n = rw (ne_eqb _ _ n)

  listed : {v w : Move} → v ≡ w → In (good w) (walk d W sw M sm) → In (good v) (walk d W sw M sm)
  listed e i = Memᴰ.cast (ap good e) i

  -- every pair of edges whose inner labels meet is listed
  pub in_walk : (k : MoveKind) (e1 e2 : Edge) → Pair k e1 e2 → In (good (as_move e1 e2)) (walk d W sw M sm)
  in_walk =
      by_form W.machine M.machine (inner W) (inner M) (special_of2 (special_of M)) sw sm (λ k e1 e2. In (good (as_move e1 e2)) (walk d W sw M sm))
      (λ t i e. put_in (own t) loop _ (taken i) (at_eps t e) (here refl))
      (λ u i e. put_in loop (own u) _ (here refl) (lookup_none M sm) (eps_in i e))
      (λ t u i j e h. listed (as_own t u (h ∙ sym e)) (put_in (own t) (own u) _ (taken i) (at_eps t e) (there (eps_in j h))))
      (λ t u i j n o m.
      ⊎_elim
      (λ h. listed (as_own t u h) (put_in (own t) (own u) _ (taken i) (at_label t i n m.0) (find_own M sm (inner W t) j h)))
      (λ h. listed (as_sigma t u (λ e. m.0 (sym e ∙ h.0))) (put_in (own t) (viaSigma u) _ (taken i) (at_label t i n m.0) (find_sigma M sm (inner W t) n (labelled1 t i) j h.0 (labelled2 u j) h.1)))
      m.1)

  -- what is listed is such a pair, with just these matches
  abbrev pub IsPair : Move → Type 0
  IsPair v = (k : MoveKind) × (e1 : Edge) × (e2 : Edge) × Pair k e1 e2 × (as_move e1 e2 ≡ v)

  of_eps : {m : Match} → In m (map own (epsilons M sm)) → (u : ℕ) × In u (M.machine.list sm) × (inner M u ≡ eps_label) × (own u ≡ m)
  of_eps i =
      let r = Memᴰ.of_map own (epsilons M sm) i in
      let q = of_labelled M.on M.machine sm eps_label r.1 in
      (r.0, q.0, q.1, r.2)

  made : {v : Move} (w m n : Match) → n ≡ m → move_of d w m ≡ v → move_of d w n ≡ v
  made w m n e h = ap (move_of d w) e ∙ h

  from_rest : (v : Move) → In (good v) (moves_of d loop (lookup M sm no_label)) → IsPair v
  from_rest v i =
      let r = of_moves d W sw M sm loop (lookup M sm no_label) v i in
      let q = of_eps (subst (In r.0) (sym (good_is (sym (lookup_none M sm) ∙ r.2))) r.3) in
      (lone2, rest, along q.0, form2 W.machine M.machine (inner W) (inner M) (special_of2 (special_of M)) sw sm q.0 q.1 q.2, made loop _ _ q.3 r.4)

  from_eps : (t : ℕ) (v : Move) → In t (W.machine.list sw) → inner W t ≡ eps_label → In (good v) (moves_of d (own t) (lookup M sm (inner W t))) → IsPair v
  from_eps t v h e i =
      let r = of_moves d W sw M sm (own t) (lookup M sm (inner W t)) v i in
      let l = subst (In r.0) (sym (good_is (sym (at_eps t e) ∙ r.2))) r.3 in
      ⊎_elim
      (λ o. (lone1, along t, rest, form1 W.machine M.machine (inner W) (inner M) (special_of2 (special_of M)) sw sm t h e, made (own t) r.0 loop (sym o) r.4))
      (λ j.
      let q = of_eps j in
      (bothEpsilon, along t, along q.0, formε W.machine M.machine (inner W) (inner M) (special_of2 (special_of M)) sw sm t q.0 h q.1 e q.2, as_own t q.0 (q.2 ∙ sym e) ∙ made (own t) r.0 (own q.0) q.3 r.4))
      (Memᴰ.cases_cons l)

  from_label : (t : ℕ) (v : Move) → In t (W.machine.list sw) → inner W t ≢ eps_label → inner W t ≢ M.sigma.label
      → In (good v) (moves_of d (own t) (lookup M sm (inner W t))) → IsPair v
  from_label t v h n o i =
      let r = of_moves d W sw M sm (own t) (lookup M sm (inner W t)) v i in
      let l = subst (In r.0) (sym (good_is (sym (at_label t h n o) ∙ r.2))) r.3 in
      ⊎_elim
      (λ q. (
        aLabel,
        along t,
        along q.0,
        formx W.machine M.machine (inner W) (inner M) (special_of2 (special_of M)) sw sm t q.0 h q.1 n (λ e. n (sym q.2 ∙ e)) (o, inl q.2),
        as_own t q.0 q.2 ∙ made (own t) r.0 (own q.0) q.3 r.4,
      ))
      (λ q. (
        aLabel,
        along t,
        along q.0,
        formx W.machine M.machine (inner W) (inner M) (special_of2 (special_of M)) sw sm t q.0 h q.1 n (λ e. nonzero (sym q.2 ∙ e)) (o, inr (q.2, q.3)),
        as_sigma t q.0 (λ e. o (sym e ∙ q.2)) ∙ made (own t) r.0 (viaSigma q.0) q.4 r.4,
      ))
      (found M sm (inner W t) l)

  at_sigma : (t : ℕ) → In t (W.machine.list sw) → inner W t ≡ M.sigma.label → lookup M sm (inner W t) ≡ refused 11
  at_sigma t i e =
      lookup_label M sm (inner W t) (λ z. nonzero (sym e ∙ z)) (labelled1 t i)
      ∙ ap (λ b. refuse_if b 11 (good (map own (owns M sm (inner W t)) ++ sigma_matches M sm (inner W t)))) (eq-eqb _ _ e)

  pub of_walk : (v : Move) → In (good v) (walk d W sw M sm) → IsPair v
  unfolding walk
  of_walk v i = let r = of_flat (λ w. moves_of d w (lookup M sm (asks W w))) (walked W sw) i in by_edge r.0 r.1 r.2
    where
      by_tr : (t : ℕ) → In t (W.machine.list sw) → In (good v) (moves_of d (own t) (lookup M sm (inner W t))) → Dec (inner W t ≡ eps_label) → Dec (inner W t ≡ M.sigma.label) → IsPair v
      by_tr t h j (yes e) b = from_eps t v h e j
      by_tr t h j (no n) (yes e) = let r = of_moves d W sw M sm (own t) (lookup M sm (inner W t)) v j in absurd (good≢refused (sym r.2 ∙ at_sigma t h e))
      by_tr t h j (no n) (no o) = from_label t v h n o j

      by_edge : (w : Match) → In w (walked W sw) → In (good v) (moves_of d w (lookup M sm (asks W w))) → IsPair v
      by_edge w h j =
          ⊎_elim
          (λ e. from_rest v (subst (λ z. In (good v) (moves_of d z (lookup M sm (asks W z)))) e j))
          (λ k.
          let r = Memᴰ.of_map own (W.machine.list sw) k in
          by_tr r.0 r.1 (subst (λ z. In (good v) (moves_of d z (lookup M sm (asks W z)))) (sym r.2) j) (ℕ_discrete _ _) (ℕ_discrete _ _))
          (Memᴰ.cases_cons h)

  -- the row of the filters' table, whichever machine is walked
  pub kind_walked : (k : MoveKind) (e1 e2 : Edge) → Pair k e1 e2 → move_kind W (walked_of e1) (match_of W M e1 e2) ≡ k
  kind_walked =
      by_form W.machine M.machine (inner W) (inner M) (special_of2 (special_of M)) sw sm (λ k e1 e2. move_kind W (walked_of e1) (match_of W M e1 e2) ≡ k)
      (λ t i e. refl) (λ u i e. refl)
      (λ t u i j e h. rw (eq-eqb (inner M u) (inner W t) (h ∙ sym e), eq-eqb (inner W t) eps_label e))
      (λ t u i j n o m. go t u n (eqb (inner M u) (inner W t)))
    where
      go : (t u : ℕ) → inner W t ≢ eps_label → (b : Bool) → move_kind W (own t) (cond b (own u) (viaSigma u)) ≡ aLabel
      go t u n true = rw (ne_eqb (inner W t) eps_label n)
      go t u n false = refl

  pub kind_other : (k : MoveKind) (e1 e2 : Edge) → Pair k e1 e2 → move_kind M (match_of W M e1 e2) (walked_of e1) ≡ mirror_kind k
  kind_other =
      by_form W.machine M.machine (inner W) (inner M) (special_of2 (special_of M)) sw sm (λ k e1 e2. move_kind M (match_of W M e1 e2) (walked_of e1) ≡ mirror_kind k)
      (λ t i e. refl) (λ u i e. refl)
      (λ t u i j e h. rw (eq-eqb (inner M u) (inner W t) (h ∙ sym e), eq-eqb (inner M u) eps_label h))
      (λ t u i j n o m. go t u o (eqb (inner M u) (inner W t)))
    where
      go : (t u : ℕ) → inner M u ≢ eps_label → (b : Bool) → move_kind M (cond b (own u) (viaSigma u)) (own t) ≡ aLabel
      go t u n true = rw (ne_eqb (inner M u) eps_label n)
      go t u n false = refl

  -- the refusals: 11, just where a walked transition has the other machine's sigma label
  abbrev pub WalksSigma : Type 0
  WalksSigma = (t : ℕ) × In t (W.machine.list sw) × (inner W t ≡ M.sigma.label)

  none_refused : (w : Match) {r : Checked (List Match)} {l : List Match} (n : ℕ) → r ≡ good l → In (refused n) (moves_of d w r) → ⊥
  none_refused w {r} {l} n e i = good≢refused (Memᴰ.of_map (λ m. good (move_of d w m)) l (subst (λ z. In (refused n) (moves_of d w z)) e i)).2

  pub refused_walk : (n : ℕ) → In (refused n) (walk d W sw M sm) ↔ ((n ≡ 11) × WalksSigma)
  unfolding walk
  refused_walk n = (
    λ i. let r = of_flat (λ w. moves_of d w (lookup M sm (asks W w))) (walked W sw) i in by_edge r.0 r.1 r.2,
    λ h. in_flat (λ w. moves_of d w (lookup M sm (asks W w))) (taken h.1.1) (rw (at_sigma h.1.0 h.1.1 h.1.2) (here (ap refused h.0))),
  )
    where
      by_tr : (t : ℕ) → In t (W.machine.list sw) → In (refused n) (moves_of d (own t) (lookup M sm (inner W t))) → Dec (inner W t ≡ eps_label) → Dec (inner W t ≡ M.sigma.label) → (n ≡ 11) × WalksSigma
      by_tr t h j (yes e) b = absurd (none_refused (own t) n (at_eps t e) j)
      by_tr t h j (no o) (yes e) = (⊎_elim refused_is (λ z. absurd (Memᴰ.not-nil z)) (Memᴰ.cases_cons (rw (at_sigma t h e) at j)), (t, h, e))
      by_tr t h j (no o) (no p) = absurd (none_refused (own t) n (at_label t h o p) j)

      by_edge : (w : Match) → In w (walked W sw) → In (refused n) (moves_of d w (lookup M sm (asks W w))) → (n ≡ 11) × WalksSigma
      by_edge w h j =
          ⊎_elim
          (λ e. absurd (none_refused loop n (lookup_none M sm) (subst (λ z. In (refused n) (moves_of d z (lookup M sm (asks W z)))) e j)))
          (λ k.
          let r = Memᴰ.of_map own (W.machine.list sw) k in
          by_tr r.0 r.1 (subst (λ z. In (refused n) (moves_of d z (lookup M sm (asks W z)))) (sym r.2) j) (ℕ_discrete _ _) (ℕ_discrete _ _))
          (Memᴰ.cases_cons h)
