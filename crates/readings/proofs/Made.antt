-- Two accepting paths whose inner labels agree have a composed path: their merge. By induction on the number of their transitions: the picked move is there, the filter keeps
-- it, and what is left of the two paths can be taken to its ends from the next filter state.
use mathlib.Core.Path.{◌≡◌, refl, ap}
use mathlib.Core.Bool.{Bool, true, false, not, false≢true}
use mathlib.Core.List.{List, [], ◌∷◌, map, flat_map}
use mathlib.Core.Logic.{◌≢◌}
use Rattle.std.specs.Prelude.{Some}
use Prim.Native.Nat.{ℕ, zero, suc, ◌+◌, ◌≤◌}
use native.Mathlib.Omega.{arith}
use lib.Dec.{eqb}
use lib.ListN.{length}
use borrow.Author.Tests.{eqb-true, eqb-false, not-true}
use Rattle.lists.proofs.Finite.{left, right}
use Rattle.papers.specs.Machine.{ε}
use Rattle.papers.specs.Weight.{Semiring, CommutativeSemiring}
use Rattle.papers.specs.Filter.{MoveKind, lone1, lone2, bothEpsilon, aLabel, facts_of}
use Rattle.papers.specs.Composition.{rest, along, Composed, Triple, Edges, reached}
use Rattle.papers.specs.Paths.{path1, path2, Matching, Accepting, AcceptingMoves}
use Rattle.papers.specs.Laws.{begins, then1, then2, Lawful}
use Rattle.papers.proofs.Forms.{form1, form2, formε, formx}
use Rattle.papers.proofs.PathLaws.{word_ε, word_label, ends_both}
use Rattle.readings.specs.Merge.{beginsε, move, front, merge_up_to}
use Rattle.readings.specs.Readings.{MeetBy}
use Rattle.readings.proofs.Labels.{none_agree, agree_none}
use Rattle.readings.proofs.Rebuilt.{Live, path_fits}

-- a label that is not ε, by the test
label_of : (x : ℕ) → not (eqb x ε) ≡ true → x ≢ ε
label_of x e = eqb-false x ε (not-true (eqb x ε) e)

module _ (C : Composed) (R : ℕ → ℕ → Type 0) (meet : MeetBy R C) (live : ℕ → Bool → Bool → Bool) (pick : Bool → Bool → MoveKind)
    (K : Semiring) (value : ℕ → K.Element) (laws : CommutativeSemiring K) where
  abbrev o : ℕ → ℕ
  o = C.first.output

  abbrev i : ℕ → ℕ
  i = C.second.input

  abbrev Joins : Triple → List ℕ → List ℕ → List Edges → Type 0
  Joins s p1 p2 ms = AcceptingMoves K value C s ms × (path1 ms ≡ p1) × (path2 ms ≡ p2)

  abbrev Makes : ℕ → Type 0
  Makes n = (p1 p2 : List ℕ) (s : Triple) → length p1 + length p2 ≤ n → Accepting K value C.first s.s1 p1 → Accepting K value C.second s.s2 p2
      → Matching R C.first C.second p1 p2 → Live C live pick s.f p1 p2 → Joins s p1 p2 (merge_up_to pick C.first C.second n p1 p2)

  -- the first move, of kind k, before what the rests give
  make : (n : ℕ) (k : MoveKind) (p1 p2 : List ℕ) (s : Triple) → length p1 + length p2 ≤ suc n → Accepting K value C.first s.s1 p1
      → Accepting K value C.second s.s2 p2 → Matching R C.first C.second p1 p2 → begins k (beginsε o p1) (beginsε i p2) ≡ true
      → (g : ℕ) → C.filter k (facts_of C.first C.second s.s1 s.s2) s.f ≡ Some g
      → ((x y : Bool) → live g (then1 k (beginsε o p1) x) (then2 k (beginsε i p2) y) ≡ true) → Makes n
      → Joins s p1 p2 (front k p1 p2 (λ r1 r2. merge_up_to pick C.first C.second n r1 r2))
  unfolding flat_map
  make n lone1 [] p2 s l a b w h g e v rec = absurd (false≢true h)
  make n lone1 (t ∷ p1) p2 s l a b w h g e v rec =
      let z = eqb-true (o t) ε h in
      let r = rec p1 p2 (reached C s (move (along t) rest) g) (omega arith) a.1 b (rw (word_ε (o t) (map o p1) z) at w) (v (beginsε o p1) false) in
      ((g, (lone1, form1 C.first C.second o i C.meets s.s1 s.s2 t a.0 z, e), r.0), ap (λ (x : List ℕ). t ∷ x) r.1, r.2)
  make n lone2 p1 [] s l a b w h g e v rec = absurd (false≢true h)
  make n lone2 p1 (u ∷ p2) s l a b w h g e v rec =
      let z = eqb-true (i u) ε h in
      let r = rec p1 p2 (reached C s (move rest (along u)) g) (omega arith) a b.1 (rw (word_ε (i u) (map i p2) z) at w) (v false (beginsε i p2)) in
      ((g, (lone2, form2 C.first C.second o i C.meets s.s1 s.s2 u b.0 z, e), r.0), r.1, ap (λ (x : List ℕ). u ∷ x) r.2)
  make n bothEpsilon [] p2 s l a b w h g e v rec = absurd (false≢true (left _ _ h))
  make n bothEpsilon (t ∷ p1) [] s l a b w h g e v rec = absurd (false≢true (right _ _ h))
  make n bothEpsilon (t ∷ p1) (u ∷ p2) s l a b w h g e v rec =
      let z = eqb-true (o t) ε (left _ _ h) in
      let y = eqb-true (i u) ε (right _ _ h) in
      let r = rec p1 p2 (reached C s (move (along t) (along u)) g) (omega arith) a.1 b.1 (rw (word_ε (o t) (map o p1) z, word_ε (i u) (map i p2) y) at w) (v (beginsε o p1) (beginsε i p2)) in
      ((g, (bothEpsilon, formε C.first C.second o i C.meets s.s1 s.s2 t u a.0 b.0 z y, e), r.0), ap (λ (x : List ℕ). t ∷ x) r.1, ap (λ (x : List ℕ). u ∷ x) r.2)
  make n aLabel [] [] s l a b w h g e v rec = ((ends_both K laws value C s.s1 s.s2).1 (a, b), refl, refl)
  make n aLabel [] (u ∷ p2) s l a b w h g e v rec = absurd (none_agree R (i u) (map i p2) (label_of (i u) (right _ _ h)) w)
  make n aLabel (t ∷ p1) [] s l a b w h g e v rec = absurd (agree_none R (o t) (map o p1) (label_of (o t) (left _ _ h)) w)
  make n aLabel (t ∷ p1) (u ∷ p2) s l a b w h g e v rec =
      let z = label_of (o t) (left _ _ h) in
      let y = label_of (i u) (right _ _ h) in
      let m : R (o t) (i u) × Matching R C.first C.second p1 p2 = rw (word_label (o t) (map o p1) z, word_label (i u) (map i p2) y) at w in
      let r = rec p1 p2 (reached C s (move (along t) (along u)) g) (omega arith) a.1 b.1 m.1 (v (beginsε o p1) (beginsε i p2)) in (
        (g, (aLabel, formx C.first C.second o i C.meets s.s1 s.s2 t u a.0 b.0 z y ((meet s.s1 s.s2 t u a.0 b.0 z y).1 m.0), e), r.0),
        ap (λ (x : List ℕ). t ∷ x) r.1,
        ap (λ (x : List ℕ). u ∷ x) r.2,
      )

  pub made : Lawful C.filter live pick → (n : ℕ) → Makes n
  unfolding flat_map merge_up_to
  made L zero [] [] s l a b w v = ((ends_both K laws value C s.s1 s.s2).1 (a, b), refl, refl)
  made L zero [] (u ∷ p2) s l a b w v = absurd (omega arith)
  made L zero (t ∷ p1) p2 s l a b w v = absurd (omega arith)
  made L (suc n) p1 p2 s l a b w v =
      let x = beginsε o p1 in
      let y = beginsε i p2 in
      let f = L.forwards (facts_of C.first C.second s.s1 s.s2) s.f x y (path_fits K value o C.first s.s1 p1 a) (path_fits K value i C.second s.s2 p2 b) v in
      make n (pick x y) p1 p2 s l a b w (L.picks x y) f.0 f.1 f.2 (made L n)
