-- The weight of a pair of words, and what composition means. MPR: Mohri, Pereira, Riley 2002: a transducer T gives the words (x, y) the ⊕-sum of the weights of its
-- accepting paths x:y, and (T1 ∘ T2)(x, y) = ⊕ over z of T1(x, z) ⊗ T2(z, y). Ours: no sum is infinite; a sum is spoken of where what is summed over can be listed.
use Rattle.std.specs.Prelude.{◌≡◌, List, [], ◌∷◌, map, ℕ, Option, None, Some}
use Rattle.lists.specs.Lists.{Enumerates}
use Rattle.papers.specs.Machine.{Machine}
use Rattle.papers.specs.Weight.{Semiring}
use Rattle.papers.specs.Paths.{word, AcceptingPath, path_weight}

module _ (K : Semiring) where
  -- MPR, ⊕ of w a over the a of a list
  unfoldable pub total : {A : Type 0} → (A → K.Element) → List A → K.Element
  total w [] = K.zero
  total w (a ∷ l) = K.plus (w a) (total w l)

  -- The ⊕-sum of w a over all a with P is e: some list holds each of them once, and its sum is e. No other element is: `sum_unique` in proofs/SumLaws.
  abbrev pub SumIs : {A : Type 0} → (A → Type 0) → (A → K.Element) → K.Element → Type 0
  SumIs {A} P w e = (l : List A) × Enumerates l P × (total w l ≡ e)

  -- Ours: e is the least of the w a over all a with P, in the order of ⊕: it is one of them, and ⊕ with another leaves it as it is. In the tropical semiring, where ⊕ is min, the
  -- least cost (`least_cost` in proofs/SumLaws). Under counts, where ⊕ adds, there is none but where all are 0. No other element is: `least_unique` in proofs/SumLaws.
  abbrev pub LeastIs : {A : Type 0} → (A → Type 0) → (A → K.Element) → K.Element → Type 0
  LeastIs {A} P w e = (a : A) × P a × (w a ≡ e) × ((b : A) → P b → K.plus e (w b) ≡ e)

module _ (K : Semiring) (value : ℕ → K.Element) where
  -- MPR, P(I, x, y, F): p is an accepting path with the input label x and the output label y, "x:y" for short
  abbrev pub PathOf : Machine → List ℕ → List ℕ → List ℕ → Type 0
  PathOf M x y p = AcceptingPath K value M p × (word (map M.input p) ≡ x) × (word (map M.output p) ≡ y)

  -- the weight of a path that begins in this initial state; without one there is no path
  abbrev pub weight_from : Option ℕ → Machine → List ℕ → K.Element
  weight_from None M p = K.zero
  weight_from (Some q) M p = path_weight K value M q p

  abbrev pub weight_of_path : Machine → List ℕ → K.Element
  weight_of_path M p = weight_from M.start M p

  -- MPR: T(x, y) = e, the ⊕-sum of the weights of T's accepting paths x:y
  abbrev pub Weighs : Machine → List ℕ → List ℕ → K.Element → Type 0
  Weighs M x y e = SumIs K (PathOf M x y) (weight_of_path M) e

  -- a path x:z of T1 and a path z:y of T2, for some z; the weight of the two
  abbrev pub PairOf : Machine → Machine → List ℕ → List ℕ → List ℕ × List ℕ → Type 0
  PairOf A B x y p = (z : List ℕ) × PathOf A x z p.0 × PathOf B z y p.1

  abbrev pub weight_of_pair : Machine → Machine → List ℕ × List ℕ → K.Element
  weight_of_pair A B p = K.times (weight_of_path A p.0) (weight_of_path B p.1)

  -- the middle words z of x and y: T1 has a path x:z, and T2 a path z:y
  abbrev pub Middle : Machine → Machine → List ℕ → List ℕ → List ℕ → Type 0
  Middle A B x y z = (p : List ℕ) × PathOf A x z p × ((q : List ℕ) × PathOf B z y q)

  -- MPR, the definition of composition: e = ⊕ over z of T1(x, z) ⊗ T2(z, y), over the middle words z: for any other z one of both is 0̄, an empty sum, and adds nothing.
  -- That there is such an e says that the middle words are finite in number, and so are the paths x:z and z:y of each.
  pub record ComposedWeighs (A B : Machine) (x y : List ℕ) (e : K.Element) : Type 0 where
    pub weight1 : List ℕ → K.Element
    pub weight2 : List ℕ → K.Element
    pub first : (z : List ℕ) → Middle A B x y z → Weighs A x z (weight1 z)
    pub second : (z : List ℕ) → Middle A B x y z → Weighs B z y (weight2 z)
    pub sum : SumIs K (Middle A B x y) (λ z. K.times (weight1 z) (weight2 z)) e
