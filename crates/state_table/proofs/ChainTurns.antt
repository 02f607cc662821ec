-- The first along a chain that passes a test: a turn looks at the state in hand, and the walk goes on from its own link.
use mathlib.Core.Path.{◌≡◌, refl, ◌∙◌, ap}
use mathlib.Core.Bool.{Bool}
use mathlib.Core.List.{List}
use Rattle.std.specs.Prelude.{Some}
use Prim.Native.Nat.{ℕ, zero, suc, ◌-◌, ◌≤◌, ◌<◌}
use native.Mathlib.Omega.{arith}
use Rattle.lists.specs.Lists.{first_if, first, linked}
use Rattle.lists.proofs.Links.{linked_same, linked_turn}
use Rattle.state_table.specs.Meaning.{link_means}

pub first_turn : (P : ℕ → Bool) (next : ℕ → ℕ) (k link : ℕ) → 0 < k → (link ≡ 0 → ⊥)
    → first P (linked next k link) ≡ first_if (P (link - 1)) (link - 1) (first P (linked next (k - 1) (next (link - 1))))
unfolding first
first_turn P next k link h e = ap (first P) (linked_turn next k link h e)

-- the same where the links fall, with the link itself for fuel
pub falling_turn : (P : ℕ → Bool) (next : ℕ → ℕ) (link : ℕ) → (link ≡ 0 → ⊥) → ((n : ℕ) → n < link → next n ≤ n)
    → first P (linked next link link) ≡ first_if (P (link - 1)) (link - 1) (first P (linked next (next (link - 1)) (next (link - 1))))
falling_turn P next link e f =
    let low = f (link - 1) (omega (arith, e)) in
    first_turn P next link link (omega (arith, e)) e
    ∙ ap (λ (l : List ℕ). first_if (P (link - 1)) (link - 1) (first P l)) (linked_same next next (link - 1) (link - 1) (next (link - 1)) (next (link - 1)) (λ n h. f n (omega arith)) (λ n h. refl) low low (omega arith))

-- a link that is not 0 leads to the state before its number
pub link_some : (link : ℕ) → (link ≡ 0 → ⊥) → link_means link ≡ Some (link - 1)
link_some zero e = absurd (e refl)
link_some (suc n) e = let z : suc n - 1 ≡ n = omega arith in rw z
