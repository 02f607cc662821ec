-- A special label, an addition to the papers' composition: OpenFst's documentation of matchers, sigma.
use Rattle.std.specs.Prelude.{◌≡◌, ◌≢◌, ◌⊎◌, ℕ}
use Rattle.papers.specs.Composition.{Meets}

-- The label σ of one machine, and for which labels a transition with σ may serve. OpenFst: every label is allowed.
pub record Special : Type 1 where
  pub sigma : ℕ
  pub allowed : ℕ → Type 0

-- OpenFst: the label x of the other machine meets the label y of a transition where y is x, or y is σ and may serve for x. Ours: where x is σ, it meets nothing.
abbrev pub Serves : Special → ℕ → ℕ → Type 0
Serves σ x y = (x ≢ σ.sigma) × ((y ≡ x) ⊎ ((y ≡ σ.sigma) × σ.allowed x))

-- which labels meet where T2, and where T1, has a special label
abbrev pub special_of2 : Special → Meets
special_of2 σ q1 q2 x y = Serves σ x y

abbrev pub special_of1 : Special → Meets
special_of1 σ q1 q2 x y = Serves σ y x
