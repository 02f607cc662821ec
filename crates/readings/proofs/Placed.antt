-- Paths as places in lists and paths as moves correspond one to one, where the lists hold the kept moves, each once: a place names its move, and a move has one place.
-- Nothing is asked of the order in the lists, so it is the same whichever side is walked.
use mathlib.Core.Path.{◌≡◌, refl, sym, ◌∙◌, ap, subst}
use mathlib.Core.Bool.{Bool, true, false, cond, false≢true}
use mathlib.Core.List.{List, [], ◌∷◌}
use Rattle.std.specs.Prelude.{Some}
use Rattle.std.proofs.lemmas.Option.{none-some, same_Some}
use Prim.Native.Nat.{ℕ, zero, suc}
use native.Mathlib.Omega.{arith}
use lib.Dec.{eqb}
use borrow.Author.Tests.{eqb-true, eq-eqb, ne_eqb}
use Rattle.lists.specs.Lists.{At, Enumerates}
use Rattle.lists.proofs.Members.{and_left, and_right}
use Rattle.lists.proofs.Places.{at_in, in_at}
use Rattle.lists.proofs.Once.{one_place}
use Rattle.papers.specs.Machine.{ε}
use Rattle.papers.specs.Weight.{Semiring}
use Rattle.papers.specs.Filter.{MoveKind, lone1, lone2, bothEpsilon, aLabel, facts_of}
use Rattle.papers.specs.Composition.{Edge, rest, along, Composed, Triple, Edges, Enabled, KeptMove, reached}
use Rattle.papers.specs.Paths.{AcceptingMoves}
use Rattle.papers.proofs.Forms.{by_form}
use Rattle.readings.specs.Correspondence.{OneToOne}
use Rattle.readings.specs.Readings.{at, pair_of, PairFrom, Readings}
use Rattle.readings.specs.Places.{MoveLists, Lists, then_moves, same_edge, same_move, place_or, place_among, then_places, moves_at, places_of, AcceptingPlaces}
use Rattle.readings.proofs.Correspondences.{turned, chained}

-- the kind of a move can be told from it
abbrev kind_from : Composed → Edge → Edge → MoveKind
kind_from C (along t) rest = lone1
kind_from C rest e2 = lone2
kind_from C (along t) (along u) = cond (eqb (C.first.output t) ε) bothEpsilon aLabel

kind_is : (C : Composed) (q1 q2 : ℕ) (k : MoveKind) (m : Edges) → Enabled C q1 q2 k m → k ≡ kind_from C m.first m.second
kind_is C q1 q2 k m en =
    by_form C.first C.second C.first.output C.second.input C.meets q1 q2 (λ k e1 e2. k ≡ kind_from C e1 e2)
    (λ t l e. refl) (λ u l e. refl) (λ t u l l' e d. rw (eq-eqb _ ε e)) (λ t u l l' n n' r. rw (ne_eqb _ ε n))
    k m.first m.second en

-- so a kept move has one next filter state, and a list of moves from a state passes one list of states
pub one_next : (C : Composed) (s : Triple) (m : Edges) (g h : ℕ) → KeptMove C s m g → KeptMove C s m h → g ≡ h
one_next C s m g h a b =
    let e : a.0 ≡ b.0 = kind_is C s.s1 s.s2 a.0 m a.1 ∙ sym (kind_is C s.s1 s.s2 b.0 m b.1) in
    same_Some _ _ (sym a.2 ∙ (ap (λ k. C.filter k (facts_of C.first C.second s.s1 s.s2) s.f) e ∙ b.2))

same_edge_lem : (e : Edge) → same_edge e e ≡ true
same_edge_lem rest = refl
same_edge_lem (along t) = eq-eqb t t refl

edge_same : (d e : Edge) → same_edge d e ≡ true → d ≡ e
edge_same rest rest h = refl
edge_same rest (along u) h = absurd (false≢true h)
edge_same (along t) rest h = absurd (false≢true h)
edge_same (along t) (along u) h = ap along (eqb-true t u h)

same_move_lem : (m : Edges) → same_move m m ≡ true
same_move_lem m = rw (same_edge_lem m.first, same_edge_lem m.second)

move_same : (m n : Edges) → same_move m n ≡ true → m ≡ n
move_same m n h =
    let a = edge_same m.first n.first (and_left (same_edge m.first n.first) _ h) in
    let b = edge_same m.second n.second (and_right (same_edge m.first n.first) _ h) in
    λ i. record { first = a i; second = b i }

-- a move that stands at one place alone is found there
place_found : (l : List (Edges × ℕ)) (m : Edges) (g k : ℕ) → ((j h : ℕ) → At l j (m, h) → j ≡ k) → At l k (m, g) → place_among m l ≡ Some (k, g)
unfolding place_among
place_found [] m g k only a = absurd (none-some _ a)
place_found (e ∷ es) m g zero only a =
    let d : e ≡ (m, g) = same_Some _ _ a in
    ap (λ (z : Edges × ℕ). place_or (same_move m z.0) z.1 (place_among m es)) d ∙ ap (λ b. place_or b g (place_among m es)) (same_move_lem m)
place_found (e ∷ es) m g (suc k) only a =
    other (same_move m e.0) refl (place_found es m g k (λ j h i. let q : suc j ≡ suc k = only (suc j) h i in omega arith) a)
  where
    other : (b : Bool) → same_move m e.0 ≡ b → place_among m es ≡ Some (k, g) → place_or (same_move m e.0) e.1 (place_among m es) ≡ Some (suc k, g)
    other true h r =
        let d : m ≡ e.0 = move_same m e.0 h in
        let z : 0 ≡ suc k = only 0 e.1 (ap (λ (n : Edges). Some (n, e.1)) (sym d)) in
        absurd (omega arith)
    other false h r = rw (h, r)

-- so is each move of a list that holds the kept moves, each once
pub place_of : (C : Composed) (s : Triple) (l : List (Edges × ℕ)) → Enumerates l (λ e. KeptMove C s e.0 e.1) → (k : ℕ) (m : Edges) (g : ℕ) → At l k (m, g)
    → place_among m l ≡ Some (k, g)
place_of C s l E k m g a =
    place_found l m g k
    (λ j h i.
    let e = one_next C s m h g ((E.exactly (m, h)).0 (at_in l j i)) ((E.exactly (m, g)).0 (at_in l k a)) in
    one_place l E.once j k (subst (λ x. At l j (m, x)) e i) a)
    a

module _ (C : Composed) (Found : Triple → Type 0) (listed : MoveLists) (L : Lists C Found listed) where
  found_at : (s : Triple) → Found s → (k : ℕ) (m : Edges) (g : ℕ) → At (listed s) k (m, g) → KeptMove C s m g
  found_at s f k m g a = (L.exactly s f m g).0 (at_in (listed s) k a)

  place_is : (s : Triple) → Found s → (k : ℕ) (m : Edges) (g : ℕ) → At (listed s) k (m, g) → place_among m (listed s) ≡ Some (k, g)
  place_is s f = place_of C s (listed s) (record { once = L.once s f; exactly = λ e. L.exactly s f e.0 e.1 })

  pub moves_step : (s : Triple) (k : ℕ) (ks : List ℕ) (m : Edges) (g : ℕ) → At (listed s) k (m, g) → moves_at C listed s (k ∷ ks) ≡ m ∷ moves_at C listed (reached C s m g) ks
  unfolding moves_at
  moves_step s k ks m g a = ap (λ o. then_moves o (λ m g. moves_at C listed (reached C s m g) ks)) a

  places_step : (s : Triple) → Found s → (k : ℕ) (ms : List Edges) (m : Edges) (g : ℕ) → At (listed s) k (m, g) → places_of C listed s (m ∷ ms) ≡ k ∷ places_of C listed (reached C s m g) ms
  unfolding places_of
  places_step s f k ms m g a = ap (λ o. then_places o (λ g. places_of C listed (reached C s m g) ms)) (place_is s f k m g a)

  module _ (K : Semiring) (value : ℕ → K.Element) where
    moves_accept : (ks : List ℕ) (s : Triple) → Found s → AcceptingPlaces C listed K value s ks → AcceptingMoves K value C s (moves_at C listed s ks)
    unfolding moves_at
    moves_accept [] s f h = h
    moves_accept (k ∷ ks) s f h =
        let m = h.0 in
        let g = h.1 in
        let c = found_at s f k m g h.2 in
        subst (AcceptingMoves K value C s) (sym (moves_step s k ks m g h.2)) (g, c, moves_accept ks (reached C s m g) (L.onward s f m g c) h.3)

    places_accept : (ms : List Edges) (s : Triple) → Found s → AcceptingMoves K value C s ms → AcceptingPlaces C listed K value s (places_of C listed s ms)
    unfolding places_of
    places_accept [] s f h = h
    places_accept (m ∷ ms) s f h =
        let g = h.0 in
        let p = in_at ((L.exactly s f m g).1 h.1) in
        subst (AcceptingPlaces C listed K value s) (sym (places_step s f p.0 ms m g p.1)) (m, g, p.1, places_accept ms (reached C s m g) (L.onward s f m g h.1) h.2)

    places_back : (ks : List ℕ) (s : Triple) → Found s → AcceptingPlaces C listed K value s ks → places_of C listed s (moves_at C listed s ks) ≡ ks
    unfolding moves_at places_of
    places_back [] s f h = refl
    places_back (k ∷ ks) s f h =
        let m = h.0 in
        let g = h.1 in
        ap (places_of C listed s) (moves_step s k ks m g h.2)
        ∙ places_step s f k (moves_at C listed (reached C s m g) ks) m g h.2
        ∙ ap (λ (r : List ℕ). k ∷ r) (places_back ks (reached C s m g) (L.onward s f m g (found_at s f k m g h.2)) h.3)

    moves_back : (ms : List Edges) (s : Triple) → Found s → AcceptingMoves K value C s ms → moves_at C listed s (places_of C listed s ms) ≡ ms
    unfolding moves_at places_of
    moves_back [] s f h = refl
    moves_back (m ∷ ms) s f h =
        let g = h.0 in
        let p = in_at ((L.exactly s f m g).1 h.1) in
        ap (moves_at C listed s) (places_step s f p.0 ms m g p.1)
        ∙ moves_step s p.0 (places_of C listed (reached C s m g) ms) m g p.1
        ∙ ap (λ (r : List Edges). m ∷ r) (moves_back ms (reached C s m g) (L.onward s f m g h.1) h.2)

    -- accepting paths as places and as moves
    pub placed : (s : Triple) → Found s → OneToOne (AcceptingPlaces C listed K value s) (AcceptingMoves K value C s) (moves_at C listed s) (places_of C listed s)
    placed s f = record { goes = λ ks h. moves_accept ks s f h; comes = λ ms h. places_accept ms s f h; from_to = λ ks h. places_back ks s f h; to_from = λ ms h. moves_back ms s f h }

    -- 3c, for lists: accepting paths as places correspond one to one with the pairs of accepting paths that match
    pub placed_readings : (R : ℕ → ℕ → Type 0) (join : List ℕ → List ℕ → List Edges) → Readings K value R C join → (q1 q2 : ℕ) → Found (at q1 q2)
        → OneToOne (AcceptingPlaces C listed K value (at q1 q2)) (PairFrom K value R C q1 q2)
        (λ ks. pair_of (moves_at C listed (at q1 q2) ks)) (λ p. places_of C listed (at q1 q2) (join p.0 p.1))
    placed_readings R join r q1 q2 f = chained (placed (at q1 q2) f) (r.paths_from q1 q2)

-- Whichever side is walked: two listings of one composition, in whatever orders, have the same accepting paths.
pub either_listing : (C : Composed) (K : Semiring) (value : ℕ → K.Element) (Found Found' : Triple → Type 0) (listed listed' : MoveLists) → Lists C Found listed → Lists C Found' listed'
    → (s : Triple) → Found s → Found' s
    → OneToOne (AcceptingPlaces C listed K value s) (AcceptingPlaces C listed' K value s)
    (λ ks. places_of C listed' s (moves_at C listed s ks)) (λ ks. places_of C listed s (moves_at C listed' s ks))
either_listing C K value Found Found' listed listed' L L' s f f' = chained (placed C Found listed L K value s f) (turned (placed C Found' listed' L' K value s f'))
