-- The two paths in an accepting list of moves are accepting and match; its outer labels are theirs; its weight is the product of theirs. No filter is looked at.
use mathlib.Core.Path.{◌≡◌, refl, sym, ◌∙◌, ap, ap₂}
use mathlib.Core.Bool.{not}
use mathlib.Core.List.{List, [], ◌∷◌, ◌++◌, map, flat_map, nil≢cons, head-eq_of_cons-eq, tail-eq_of_cons-eq}
use mathlib.Core.Logic.{◌≢◌, ◌↔◌, inl, inr, ⊎_elim}
use Prim.Native.Nat.{ℕ}
use lib.Dec.{eqb}
use borrow.Author.Tests.{eq-eqb, ne_eqb}
use Rattle.lists.specs.Lists.{put_if, keep_if}
use Rattle.papers.specs.Machine.{ε, Machine}
use Rattle.papers.specs.Weight.{Semiring, CommutativeSemiring}
use Rattle.papers.specs.Filter.{MoveKind}
use Rattle.papers.specs.Composition.{Edge, rest, along, Leaves, next_state, outer, Composed, Triple, Edges, Enabled, reached, edge_weight, move_weight}
use Rattle.papers.specs.Paths.{word, taken, path1, path2, Agree, Matching, input_word, output_word, Ends, Accepting, AcceptingPath, path_weight, EndsBoth, AcceptingMoves, AcceptingRun, moves_weight}
use Rattle.papers.proofs.Forms.{by_form}

-- ε goes, another label stays
pub word_ε : (x : ℕ) (l : List ℕ) → x ≡ ε → word (x ∷ l) ≡ word l
unfolding word keep_if
word_ε x l e = rw (eq-eqb x ε e)

pub word_label : (x : ℕ) (l : List ℕ) → x ≢ ε → word (x ∷ l) ≡ x ∷ word l
unfolding word keep_if
word_label x l n = rw (ne_eqb x ε n)

pub word_same : (x : ℕ) (k l : List ℕ) → word k ≡ word l → word (x ∷ k) ≡ word (x ∷ l)
unfolding word keep_if
word_same x k l e = ap (put_if (not (eqb x ε)) x) e

-- by equality two lists agree just where they are one
pub agree_equal : (xs ys : List ℕ) → Agree (λ x y. x ≡ y) xs ys ↔ (xs ≡ ys)
agree_equal [] [] = (λ h. refl, λ e. tt)
agree_equal [] (y ∷ ys) = (λ h. absurd h, λ e. absurd (nil≢cons e))
agree_equal (x ∷ xs) [] = (λ h. absurd h, λ e. absurd (nil≢cons (sym e)))
agree_equal (x ∷ xs) (y ∷ ys) =
    let r = agree_equal xs ys in
    (λ h. ap₂ ◌∷◌ h.0 (r.0 h.1), λ e. (head-eq_of_cons-eq e, r.1 (tail-eq_of_cons-eq e)))

-- one move before two paths that match
pub matching_move : (R : ℕ → ℕ → Type 0) (C : Composed) → ((q1 q2 x y : ℕ) → C.meets q1 q2 x y → R x y)
    → (q1 q2 : ℕ) (p1 p2 : List ℕ) (k : MoveKind) (e1 e2 : Edge) → Enabled C q1 q2 k (record { first = e1; second = e2 })
    → Matching R C.first C.second p1 p2 → Matching R C.first C.second (taken e1 ++ p1) (taken e2 ++ p2)
matching_move R C meets q1 q2 p1 p2 k e1 e2 h g =
    by_form C.first C.second C.first.output C.second.input C.meets q1 q2 (λ k e1 e2. Matching R C.first C.second (taken e1 ++ p1) (taken e2 ++ p2))
    (λ t i e. rw (word_ε _ _ e) g)
    (λ u i e. rw (word_ε _ _ e) g)
    (λ t u i j e d. rw (word_ε (C.first.output t) (map C.first.output p1) e, word_ε (C.second.input u) (map C.second.input p2) d) g)
    (λ t u i j n o m. rw (word_label (C.first.output t) (map C.first.output p1) n, word_label (C.second.input u) (map C.second.input p2) o) (meets q1 q2 _ _ m, g))
    k e1 e2 h

-- the outer labels
outer_word : (label : ℕ → ℕ) (edge : Edges → Edge) (ms : List Edges) → word (map (λ m. outer label (edge m)) ms) ≡ word (map label (flat_map (λ m. taken (edge m)) ms))
unfolding flat_map
outer_word label edge [] = refl
outer_word label edge (m ∷ ms) = go (edge m) (outer_word label edge ms)
  where
    go : (e : Edge) → word (map (λ m. outer label (edge m)) ms) ≡ word (map label (flat_map (λ m. taken (edge m)) ms))
        → word (outer label e ∷ map (λ m. outer label (edge m)) ms) ≡ word (map label (taken e ++ flat_map (λ m. taken (edge m)) ms))
    go rest h = word_ε ε _ refl ∙ h
    go (along t) h = word_same (label t) _ _ h

pub input_word_lem : (C : Composed) (ms : List Edges) → input_word C ms ≡ word (map C.first.input (path1 ms))
input_word_lem C ms = outer_word C.first.input (λ m. m.first) ms

pub output_word_lem : (C : Composed) (ms : List Edges) → output_word C ms ≡ word (map C.second.output (path2 ms))
output_word_lem C ms = outer_word C.second.output (λ m. m.second) ms

module _ (K : Semiring) (L : CommutativeSemiring K) (value : ℕ → K.Element) where
  -- a composed state ends a path just where both of its states do
  pub ends_both : (C : Composed) (q1 q2 : ℕ) → EndsBoth K value C q1 q2 ↔ (Ends K value C.first q1 × Ends K value C.second q2)
  ends_both C q1 q2 = (
    λ h. ((h.0.0, λ z. h.1 ((L.zero_product _ _).1 (inl z))), (h.0.1, λ z. h.1 ((L.zero_product _ _).1 (inr z)))),
    λ h. ((h.0.0, h.1.0), λ z. ⊎_elim h.0.1 h.1.1 ((L.zero_product _ _).0 z)),
  )

  pub accepting_edge : (M : Machine) (q : ℕ) (e : Edge) (p : List ℕ) → Leaves M q e → Accepting K value M (next_state M q e) p → Accepting K value M q (taken e ++ p)
  accepting_edge M q rest p l a = a
  accepting_edge M q (along t) p l a = (l, a)

  -- the paths in an accepting list of moves
  pub accepting1 : (C : Composed) (s : Triple) (ms : List Edges) → AcceptingMoves K value C s ms → Accepting K value C.first s.s1 (path1 ms)
  unfolding flat_map
  accepting1 C s [] h = ((ends_both C s.s1 s.s2).0 h).0
  accepting1 C s (m ∷ ms) h = accepting_edge C.first s.s1 m.first (path1 ms) h.1.1.0 (accepting1 C (reached C s m h.0) ms h.2)

  pub accepting2 : (C : Composed) (s : Triple) (ms : List Edges) → AcceptingMoves K value C s ms → Accepting K value C.second s.s2 (path2 ms)
  unfolding flat_map
  accepting2 C s [] h = ((ends_both C s.s1 s.s2).0 h).1
  accepting2 C s (m ∷ ms) h = accepting_edge C.second s.s2 m.second (path2 ms) h.1.1.1 (accepting2 C (reached C s m h.0) ms h.2)

  -- match, by any relation that holds wherever labels meet
  pub matching : (R : ℕ → ℕ → Type 0) (C : Composed) → ((q1 q2 x y : ℕ) → C.meets q1 q2 x y → R x y) → (s : Triple) (ms : List Edges)
      → AcceptingMoves K value C s ms → Matching R C.first C.second (path1 ms) (path2 ms)
  unfolding flat_map word keep_if
  matching R C meets s [] h = tt
  matching R C meets s (m ∷ ms) h = matching_move R C meets s.s1 s.s2 (path1 ms) (path2 ms) h.1.0 m.first m.second h.1.1 (matching R C meets (reached C s m h.0) ms h.2)

  -- from the start
  pub run_paths : (C : Composed) (ms : List Edges) → AcceptingRun K value C ms → AcceptingPath K value C.first (path1 ms) × AcceptingPath K value C.second (path2 ms)
  run_paths C ms h = ((h.0.s1, h.1.0, accepting1 C h.0 ms h.2), (h.0.s2, h.1.1, accepting2 C h.0 ms h.2))

  -- weights
  left_comm : (a b c : K.Element) → K.times a (K.times b c) ≡ K.times b (K.times a c)
  left_comm a b c = sym (L.times_assoc a b c) ∙ (ap (λ (x : K.Element). K.times x c) (L.times_comm a b) ∙ L.times_assoc b a c)

  shuffle : (a b c d : K.Element) → K.times (K.times a b) (K.times c d) ≡ K.times (K.times a c) (K.times b d)
  shuffle a b c d = L.times_assoc a b (K.times c d) ∙ (ap (K.times a) (left_comm b c d) ∙ sym (L.times_assoc a c (K.times b d)))

  pub weight_edge : (M : Machine) (q : ℕ) (e : Edge) (p : List ℕ) → K.times (edge_weight K value M e) (path_weight K value M (next_state M q e) p) ≡ path_weight K value M q (taken e ++ p)
  weight_edge M q rest p = L.one_times _
  weight_edge M q (along t) p = refl

  pub moves_weigh : (C : Composed) (q1 q2 : ℕ) (ms : List Edges)
      → moves_weight K value C q1 q2 ms ≡ K.times (path_weight K value C.first q1 (path1 ms)) (path_weight K value C.second q2 (path2 ms))
  unfolding flat_map
  moves_weigh C q1 q2 [] = refl
  moves_weigh C q1 q2 (m ∷ ms) =
      ap (K.times (move_weight K value C m)) (moves_weigh C (next_state C.first q1 m.first) (next_state C.second q2 m.second) ms)
      ∙ (shuffle _ _ _ _
      ∙ ap₂ K.times (weight_edge C.first q1 m.first (path1 ms)) (weight_edge C.second q2 m.second (path2 ms)))
