-- Walks through a machine of the papers, and its useful states. MPR: Mohri, Pereira, Riley 2002, the definition of a path.
use Rattle.std.specs.Prelude.{◌≡◌, Bool, true, false, ◌&&◌, ◌||◌, ℕ, zero, suc, ◌<◌, eqb, Option, None, Some}
use mathlib.Core.List.{List, [], ◌∷◌, Memᴰ}
use Rattle.papers.specs.Machine.{Machine}

-- MPR, a path from a to b: consecutive transitions, by their numbers
abbrev pub Walk : Machine → ℕ → List ℕ → ℕ → Type 0
Walk M a [] b = a ≡ b
Walk M a (r ∷ rs) b = Memᴰ r (M.list a) × Walk M (M.target r) rs b

abbrev pub Reach : Machine → ℕ → ℕ → Type 0
Reach M a b = (rs : List ℕ) × Walk M a rs b

-- 02, 2.2: "the states on some path from start to a final state". Weights are not looked at: a transition of weight zero counts.
pub record Useful (M : Machine) (n : ℕ) : Type 0 where
  pub start : ℕ
  pub starts : M.start ≡ Some start
  pub reached : Reach M start n
  pub end : ℕ
  pub leads : Reach M n end
  pub final : M.is_final end ≡ true

-- P holds for one of l
unfoldable pub exists : {A : Type 0} → (A → Bool) → List A → Bool
exists P [] = false
exists P (x ∷ xs) = P x || exists P xs

-- at most k transitions lead from a to a state with P
unfoldable pub leads_within : Machine → (ℕ → Bool) → ℕ → ℕ → Bool
leads_within M P zero a = P a
leads_within M P (suc k) a = P a || exists (λ r. leads_within M P k (M.target r)) (M.list a)

abbrev pub starts_with : Option ℕ → (ℕ → Bool) → Bool
starts_with None P = false
starts_with (Some a) P = P a

-- The same as a test: as many transitions as there are states lead wherever any number leads (`useful_is` in proofs/Useful).
unfoldable pub useful : Machine → ℕ → Bool
useful M n = starts_with M.start (leads_within M (λ b. eqb b n) M.states) && leads_within M M.is_final M.states n

-- what the test asks of a machine: start and targets are states
pub record Bounded (M : Machine) : Type 0 where
  pub start_below : (a : ℕ) → M.start ≡ Some a → a < M.states
  pub target_below : (a r : ℕ) → a < M.states → Memᴰ r (M.list a) → M.target r < M.states
