-- Every composed accepting path is the merge of its own two paths, so that no two have the same pair. By induction along the composed path, from its end: a filter that obeys
-- the laws, having let the rest pass, let no other move be the first than the one that `pick` names.
use mathlib.Core.Path.{◌≡◌, refl, ◌∙◌, ap}
use mathlib.Core.Bool.{Bool, true, false, not, false≢true}
use mathlib.Core.List.{List, [], ◌∷◌, ◌++◌, flat_map}
use Prim.Native.Nat.{ℕ, zero, suc, ◌+◌, ◌≤◌}
use native.Mathlib.Omega.{arith}
use lib.Dec.{eqb}
use lib.ListN.{length}
use borrow.Author.Tests.{eq-eqb, ne_eqb}
use Rattle.lists.specs.Lists.{every}
use Rattle.lists.specs.Finite.{implies}
use Rattle.lists.proofs.Finite.{join}
use Rattle.lists.proofs.Members.{and_left, and_right, every_in}
use Rattle.papers.specs.Machine.{ε, Machine}
use Rattle.papers.specs.Weight.{Semiring, CommutativeSemiring}
use Rattle.papers.specs.Filter.{MoveKind, lone1, lone2, bothEpsilon, aLabel, no_epsilon, only_epsilons, facts_of}
use Rattle.papers.specs.Composition.{Edge, Composed, Triple, Edges, Enabled, reached}
use Rattle.papers.specs.Paths.{taken, path1, path2, Accepting, AcceptingMoves}
use Rattle.papers.specs.Laws.{fits, begins, then1, then2, Lawful}
use Rattle.papers.proofs.Forms.{by_form}
use Rattle.papers.proofs.PathLaws.{accepting1, accepting2}
use Rattle.readings.specs.Merge.{beginsε, move, front, merge_up_to}

implies_of : (a b : Bool) → (a ≡ true → b ≡ true) → implies a b ≡ true
unfolding implies
implies_of true b h = h refl
implies_of false b h = refl

not_both : (b : Bool) → b ≡ true → not b ≡ true → ⊥
not_both true e d = false≢true d
not_both false e d = false≢true e

-- An accepting path from a state begins as the state's two facts allow: with ε only if ε leaves the state, and without only if something else leaves it or it is final.
-- So "none" and "all" change nothing for accepting paths.
pub path_fits : (K : Semiring) (value : ℕ → K.Element) (label_of : ℕ → ℕ) (M : Machine) (q : ℕ) (p : List ℕ) → Accepting K value M q p
    → fits (no_epsilon label_of M q) (only_epsilons label_of M q) (beginsε label_of p) ≡ true
unfolding no_epsilon only_epsilons
path_fits K value label_of M q [] h =
    join _ _ (implies_of _ _ (λ e. refl))
    (implies_of _ _ (λ e. absurd (not_both (M.is_final q) h.0 (and_right (every (λ t. eqb (label_of t) ε) (M.list q)) _ e))))
path_fits K value label_of M q (t ∷ p) h =
    join _ _ (implies_of _ _ (λ e. every_in (λ t. not (eqb (label_of t) ε)) e h.0))
    (implies_of _ _ (λ e. every_in (λ t. eqb (label_of t) ε) (and_left _ (not (M.is_final q)) e) h.0))

-- nothing is made of two paths at their ends
pub front_nil : (k : MoveKind) (go : List ℕ → List ℕ → List Edges) → front k [] [] go ≡ []
front_nil lone1 go = refl
front_nil lone2 go = refl
front_nil bothEpsilon go = refl
front_nil aLabel go = refl

module _ (C : Composed) (live : ℕ → Bool → Bool → Bool) (pick : Bool → Bool → MoveKind) where
  abbrev pub b1 : List ℕ → Bool
  b1 p = beginsε C.first.output p

  abbrev pub b2 : List ℕ → Bool
  b2 p = beginsε C.second.input p

  -- from this filter state the two paths can be taken to their ends
  abbrev pub Live : ℕ → List ℕ → List ℕ → Type 0
  Live f p1 p2 = live f (b1 p1) (b2 p2) ≡ true

  -- What a move of kind k before the paths p1 and p2 says of the longer two: they can begin so; a machine that rests begins as before; they are longer; the move is their front.
  abbrev pub Opens : List ℕ → List ℕ → MoveKind → Edge → Edge → Type 0
  Opens p1 p2 k e1 e2 =
      (begins k (b1 (taken e1 ++ p1)) (b2 (taken e2 ++ p2)) ≡ true)
      × ((g : ℕ) → live g (then1 k (b1 (taken e1 ++ p1)) (b1 p1)) (then2 k (b2 (taken e2 ++ p2)) (b2 p2)) ≡ live g (b1 p1) (b2 p2))
      × (suc (length p1 + length p2) ≤ length (taken e1 ++ p1) + length (taken e2 ++ p2))
      × ((go : List ℕ → List ℕ → List Edges) → front k (taken e1 ++ p1) (taken e2 ++ p2) go ≡ move e1 e2 ∷ go p1 p2)

  pub opens : (q1 q2 : ℕ) (p1 p2 : List ℕ) (k : MoveKind) (m : Edges) → Enabled C q1 q2 k m → Opens p1 p2 k m.first m.second
  opens q1 q2 p1 p2 k m en =
      by_form C.first C.second C.first.output C.second.input C.meets q1 q2 (Opens p1 p2)
      (λ t l e. (eq-eqb _ ε e, λ g. refl, omega arith, λ go. refl))
      (λ u l e. (eq-eqb _ ε e, λ g. refl, omega arith, λ go. refl))
      (λ t u l l' e d. (join _ _ (eq-eqb _ ε e) (eq-eqb _ ε d), λ g. refl, omega arith, λ go. refl))
      (λ t u l l' n n' r. (join _ _ (ap not (ne_eqb _ ε n)) (ap not (ne_eqb _ ε n')), λ g. refl, omega arith, λ go. refl))
      k m.first m.second en

  module _ (K : Semiring) (value : ℕ → K.Element) (laws : CommutativeSemiring K) (L : Lawful C.filter live pick) where
    -- the first move is the picked one
    pub picked : (s : Triple) (m : Edges) (ms : List Edges) (h : AcceptingMoves K value C s (m ∷ ms)) → Live h.0 (path1 ms) (path2 ms)
        → Live s.f (path1 (m ∷ ms)) (path2 (m ∷ ms)) × (pick (b1 (path1 (m ∷ ms))) (b2 (path2 (m ∷ ms))) ≡ h.1.0)
    unfolding flat_map
    picked s m ms h l =
        let o = opens s.s1 s.s2 (path1 ms) (path2 ms) h.1.0 m h.1.1 in
        L.backwards h.1.0 (facts_of C.first C.second s.s1 s.s2) s.f h.0
        (b1 (path1 (m ∷ ms))) (b2 (path2 (m ∷ ms))) (b1 (path1 ms)) (b2 (path2 ms))
        (path_fits K value C.first.output C.first s.s1 (path1 (m ∷ ms)) (accepting1 K laws value C s (m ∷ ms) h))
        (path_fits K value C.second.input C.second s.s2 (path2 (m ∷ ms)) (accepting2 K laws value C s (m ∷ ms) h))
        o.0 h.1.2 (o.1 h.0 ∙ l)

    pub lives : (s : Triple) (ms : List Edges) → AcceptingMoves K value C s ms → Live s.f (path1 ms) (path2 ms)
    unfolding flat_map
    lives s [] h = L.end s.f
    lives s (m ∷ ms) h = (picked s m ms h (lives (reached C s m h.0) ms h.2)).0

    pub rebuilt : (n : ℕ) (s : Triple) (ms : List Edges) → length (path1 ms) + length (path2 ms) ≤ n → AcceptingMoves K value C s ms
        → merge_up_to pick C.first C.second n (path1 ms) (path2 ms) ≡ ms
    unfolding flat_map merge_up_to
    rebuilt zero s [] b h = refl
    rebuilt (suc n) s [] b h = front_nil (pick false false) _
    rebuilt zero s (m ∷ ms) b h =
        let o = (opens s.s1 s.s2 (path1 ms) (path2 ms) h.1.0 m h.1.1).2 in
        absurd (omega (arith, o, b))
    rebuilt (suc n) s (m ∷ ms) b h =
        let o = opens s.s1 s.s2 (path1 ms) (path2 ms) h.1.0 m h.1.1 in
        let go : List ℕ → List ℕ → List Edges = λ r1 r2. merge_up_to pick C.first C.second n r1 r2 in
        let e = (picked s m ms h (lives (reached C s m h.0) ms h.2)).1 in
        let c = o.2 in
        ap (λ k. front k (path1 (m ∷ ms)) (path2 (m ∷ ms)) go) e
        ∙ o.3 go
        ∙ ap (λ (r : List Edges). m ∷ r) (rebuilt n (reached C s m h.0) ms (omega (arith, c, b)) h.2)
