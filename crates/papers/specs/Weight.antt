-- Weights. MPR: Mohri, Pereira, Riley 2002, the definition of a semiring, and two of them.
use Rattle.std.specs.Prelude.{◌≡◌, ◌↔◌, ◌⊎◌, ℕ, ◌+◌, ◌*◌, min}

-- MPR, (K, ⊕, ⊗, 0̄, 1̄): a path weighs the ⊗-product of its transitions, several paths together weigh their ⊕-sum.
pub record Semiring : Type 1 where
  pub Element : Type 0
  pub plus : Element → Element → Element
  pub times : Element → Element → Element
  pub zero : Element
  pub one : Element

-- MPR: the laws of a semiring; and, as composition asks, ⊗ is commutative. Both semirings below obey them: proofs/SemiringLaws.antt.
pub record CommutativeSemiring (K : Semiring) : Type 0 where
  pub times_assoc : (a b c : K.Element) → K.times (K.times a b) c ≡ K.times a (K.times b c)
  pub times_comm : (a b : K.Element) → K.times a b ≡ K.times b a
  pub one_times : (a : K.Element) → K.times K.one a ≡ a
  pub zero_times : (a : K.Element) → K.times K.zero a ≡ K.zero
  pub plus_assoc : (a b c : K.Element) → K.plus (K.plus a b) c ≡ K.plus a (K.plus b c)
  pub plus_comm : (a b : K.Element) → K.plus a b ≡ K.plus b a
  pub zero_plus : (a : K.Element) → K.plus K.zero a ≡ a
  pub times_plus : (a b c : K.Element) → K.times a (K.plus b c) ≡ K.plus (K.times a b) (K.times a c)
  -- ours: no two others have the product zero
  pub zero_product : (a b : K.Element) → (K.times a b ≡ K.zero) ↔ ((a ≡ K.zero) ⊎ (b ≡ K.zero))

-- ℕ ∪ {∞}, with the least of two and the sum of two
pub data Cost : Type 0 where
  finite : ℕ → Cost
  infinite : Cost

abbrev pub least : Cost → Cost → Cost
least (finite a) (finite b) = finite (min a b)
least (finite a) infinite = finite a
least infinite b = b

abbrev pub sum : Cost → Cost → Cost
sum (finite a) (finite b) = finite (a + b)
sum (finite a) infinite = infinite
sum infinite b = infinite

-- MPR, the tropical semiring (min, +, ∞, 0), here over ℕ ∪ {∞}
abbrev pub tropical : Semiring
tropical = record { Element = Cost; plus = least; times = sum; zero = infinite; one = finite 0 }

-- the semiring of counts (ℕ, +, ×, 0, 1): a path that is taken twice is counted twice
abbrev pub naturals : Semiring
naturals = record { Element = ℕ; plus = λ a b. a + b; times = λ a b. a * b; zero = 0; one = 1 }

-- these two
pub data Kind : Type 0 where
  cost count : Kind

abbrev pub semiring : Kind → Semiring
semiring cost = tropical
semiring count = naturals
