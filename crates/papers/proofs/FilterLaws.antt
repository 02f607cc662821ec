-- The laws of a filter (specs/Laws) as a test that the checker computes: the laws follow from the test.
use mathlib.Core.Path.{◌≡◌, refl, sym, ◌∙◌, ap₂}
use mathlib.Core.Bool.{Bool, true, false, beq, false≢true}
use Rattle.std.specs.Prelude.{Option, None, Some}
use Prim.Native.Nat.{ℕ}
use Rattle.lists.specs.Finite.{both, implies, all_b}
use Rattle.lists.proofs.Finite.{left, right, join, apply, at_b}
use Rattle.papers.specs.Filter.{MoveKind, lone1, lone2, bothEpsilon, aLabel, Facts, Filter}
use Rattle.papers.specs.Laws.{fits, begins, then1, then2, Lawful}

unfoldable pub all_k : (MoveKind → Bool) → Bool
all_k P = both (both (P lone1) (P lone2)) (both (P bothEpsilon) (P aLabel))

pub at_k : (P : MoveKind → Bool) → all_k P ≡ true → (k : MoveKind) → P k ≡ true
unfolding all_k
at_k P e lone1 = left _ _ (left _ _ e)
at_k P e lone2 = right _ _ (left _ _ e)
at_k P e bothEpsilon = left _ _ (right _ _ e)
at_k P e aLabel = right _ _ (right _ _ e)

-- a kind as two tests, and back: so that two kinds are compared by their tests
abbrev tests : MoveKind → Bool × Bool
tests lone1 = (true, true)
tests lone2 = (true, false)
tests bothEpsilon = (false, true)
tests aLabel = (false, false)

abbrev kind_by : Bool → Bool → MoveKind
kind_by true true = lone1
kind_by true false = lone2
kind_by false true = bothEpsilon
kind_by false false = aLabel

kind_tests : (k : MoveKind) → kind_by (tests k).0 (tests k).1 ≡ k
kind_tests lone1 = refl
kind_tests lone2 = refl
kind_tests bothEpsilon = refl
kind_tests aLabel = refl

beq_eq : (a b : Bool) → beq a b ≡ true → a ≡ b
beq_eq true true e = refl
beq_eq true false e = sym e
beq_eq false true e = e
beq_eq false false e = refl

unfoldable pub same_k : MoveKind → MoveKind → Bool
same_k j k = both (beq (tests j).0 (tests k).0) (beq (tests j).1 (tests k).1)

same_k_eq : (j k : MoveKind) → same_k j k ≡ true → j ≡ k
unfolding same_k
same_k_eq j k e =
    let p = beq_eq (tests j).0 (tests k).0 (left _ _ e) in
    let q = beq_eq (tests j).1 (tests k).1 (right _ _ e) in
    sym (kind_tests j) ∙ ap₂ kind_by p q ∙ kind_tests k

-- the test of a result: it must be there; or, if it is there
abbrev holds : (ℕ → Bool) → Option ℕ → Bool
holds P None = false
holds P (Some g) = P g

abbrev fails : (ℕ → Bool) → Option ℕ → Bool
fails P None = true
fails P (Some g) = P g

module _ (filter : Filter) (live : ℕ → Bool → Bool → Bool) (pick : Bool → Bool → MoveKind) where
  abbrev forward : ℕ → Bool → Bool → Bool → Bool → Bool → Bool → Bool → Bool → Bool
  forward f n1 a1 n2 a2 x y x' y' =
      implies (both (both (fits n1 a1 x) (fits n2 a2 y)) (live f x y))
      (holds (λ g. live g (then1 (pick x y) x x') (then2 (pick x y) y y')) (filter (pick x y) (record { none1 = n1; all1 = a1; none2 = n2; all2 = a2 }) f))

  abbrev backward : ℕ → MoveKind → Bool → Bool → Bool → Bool → Bool → Bool → Bool → Bool → Bool
  backward f k n1 a1 n2 a2 x y x' y' =
      implies (both (both (fits n1 a1 x) (fits n2 a2 y)) (begins k x y))
      (fails (λ g. implies (live g (then1 k x x') (then2 k y y')) (both (live f x y) (same_k (pick x y) k))) (filter k (record { none1 = n1; all1 = a1; none2 = n2; all2 = a2 }) f))

  abbrev all8 : (Bool → Bool → Bool → Bool → Bool → Bool → Bool → Bool → Bool) → Bool
  all8 P = all_b λ n1. all_b λ a1. all_b λ n2. all_b λ a2. all_b λ x. all_b λ y. all_b λ x'. all_b λ y'. P n1 a1 n2 a2 x y x' y'

  at8 : (P : Bool → Bool → Bool → Bool → Bool → Bool → Bool → Bool → Bool) → all8 P ≡ true
      → (n1 a1 n2 a2 x y x' y' : Bool) → P n1 a1 n2 a2 x y x' y' ≡ true
  at8 P e n1 a1 n2 a2 x y x' y' = at_b _ (at_b _ (at_b _ (at_b _ (at_b _ (at_b _ (at_b _ (at_b _ e n1) a1) n2) a2) x) y) x') y'

  -- all laws at the filter state f
  unfoldable pub lawful : ℕ → Bool
  lawful f =
      both
      (both (all_b λ x. all_b λ y. both (begins (pick x y) x y) (live 0 x y)) (live f false false))
      (both (all8 (forward f)) (all_k λ k. all8 (backward f k)))

  module _ (pass : (f : ℕ) → lawful f ≡ true) where
    start_of : (x y : Bool) → both (begins (pick x y) x y) (live 0 x y) ≡ true
    unfolding lawful
    start_of x y = at_b _ (at_b _ (left _ _ (left _ _ (pass 0))) x) y

    end_of : (f : ℕ) → live f false false ≡ true
    unfolding lawful
    end_of f = right _ _ (left _ _ (pass f))

    forward_of : (f : ℕ) (φ : Facts) (x y x' y' : Bool) → forward f φ.none1 φ.all1 φ.none2 φ.all2 x y x' y' ≡ true
    unfolding lawful
    forward_of f φ x y x' y' = at8 (forward f) (left _ _ (right _ _ (pass f))) φ.none1 φ.all1 φ.none2 φ.all2 x y x' y'

    backward_of : (f : ℕ) (k : MoveKind) (φ : Facts) (x y x' y' : Bool) → backward f k φ.none1 φ.all1 φ.none2 φ.all2 x y x' y' ≡ true
    unfolding lawful
    backward_of f k φ x y x' y' = at8 (backward f k) (at_k _ (right _ _ (right _ _ (pass f))) k) φ.none1 φ.all1 φ.none2 φ.all2 x y x' y'

    forwards_of : (φ : Facts) (f : ℕ) (x y : Bool) → fits φ.none1 φ.all1 x ≡ true → fits φ.none2 φ.all2 y ≡ true → live f x y ≡ true
        → (o : Option ℕ) → filter (pick x y) φ f ≡ o
        → (g : ℕ) × (filter (pick x y) φ f ≡ Some g) × ((x' y' : Bool) → live g (then1 (pick x y) x x') (then2 (pick x y) y y') ≡ true)
    forwards_of φ f x y h1 h2 h3 o e = go o e
      where
        test : (x' y' : Bool) → holds (λ g. live g (then1 (pick x y) x x') (then2 (pick x y) y y')) (filter (pick x y) φ f) ≡ true
        test x' y' = apply _ _ (forward_of f φ x y x' y') (join _ _ (join _ _ h1 h2) h3)

        go : (o : Option ℕ) → filter (pick x y) φ f ≡ o
            → (g : ℕ) × (filter (pick x y) φ f ≡ Some g) × ((x' y' : Bool) → live g (then1 (pick x y) x x') (then2 (pick x y) y y') ≡ true)
        go None e = let z : false ≡ true = rw e at (test true true) in absurd (false≢true z)
        go (Some g) e = (g, e, λ x' y'. rw e at (test x' y'))

    backwards_of : (k : MoveKind) (φ : Facts) (f g : ℕ) (x y x' y' : Bool) → fits φ.none1 φ.all1 x ≡ true → fits φ.none2 φ.all2 y ≡ true → begins k x y ≡ true
        → filter k φ f ≡ Some g → live g (then1 k x x') (then2 k y y') ≡ true → (live f x y ≡ true) × (pick x y ≡ k)
    backwards_of k φ f g x y x' y' h1 h2 h3 e h4 =
        let t = apply _ _ (backward_of f k φ x y x' y') (join _ _ (join _ _ h1 h2) h3) in
        let u : both (live f x y) (same_k (pick x y) k) ≡ true = apply _ _ (rw e at t) h4 in
        (left _ _ u, same_k_eq (pick x y) k (right _ _ u))

    pub laws : Lawful filter live pick
    laws = record {
      picks = λ x y. left _ _ (start_of x y);
      start = λ x y. right _ _ (start_of x y);
      end = end_of;
      forwards = λ φ f x y h1 h2 h3. forwards_of φ f x y h1 h2 h3 _ refl;
      backwards = backwards_of;
    }
