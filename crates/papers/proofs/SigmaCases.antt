-- A special label at numbers: what it serves for and what not; the two sides are mirror images.
use mathlib.Core.Path.{◌≡◌, refl}
use mathlib.Core.Logic.{◌⊎◌, inl, inr, ⊎_elim}
use Prim.Native.Nat.{ℕ}
use native.Mathlib.Omega.{arith}
use Rattle.papers.specs.Sigma.{Special, Serves, special_of1, special_of2}
use Rattle.papers.proofs.Mirror.{mirror_meets}

-- the label 9 serves for 3 and 4
abbrev nine : Special
nine = record { sigma = 9; allowed = λ x. (x ≡ 3) ⊎ (x ≡ 4) }

pub serves :
    -- a label meets itself, also where 9 would not serve, and where it would
    Serves nine 5 5
    × Serves nine 3 3
    -- 9 serves for 3, not for 5
    × Serves nine 3 9
    × (Serves nine 5 9 → ⊥)
    -- another label does not serve
    × (Serves nine 3 4 → ⊥)
    -- 9 itself meets nothing
    × (Serves nine 9 9 → ⊥)
serves = (
  (λ e. omega arith, inl refl),
  (λ e. omega arith, inl refl),
  (λ e. omega arith, inr (refl, inl refl)),
  λ h. ⊎_elim (λ e. omega arith) (λ r. ⊎_elim (λ e. omega arith) (λ e. omega arith) r.1) h.1,
  λ h. ⊎_elim (λ e. omega arith) (λ r. let z : ◌≡◌ {A = ℕ} 4 9 = r.0 in omega arith) h.1,
  λ h. h.0 refl,
)

-- it stands on its own machine's side, for the other machine's label
pub sides : special_of2 nine 0 0 3 9 × special_of1 nine 0 0 9 3 × (special_of2 nine 0 0 9 3 → ⊥) × (special_of1 nine 0 0 3 9 → ⊥)
sides = (serves.2, serves.2, λ h. h.0 refl, λ h. h.0 refl)

pub specials_mirror : (σ : Special) → mirror_meets (special_of1 σ) ≡ special_of2 σ
specials_mirror σ = refl
