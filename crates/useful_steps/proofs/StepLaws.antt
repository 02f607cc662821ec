-- The definitions that go by the depth, where it is not 0.
use mathlib.Core.Path.{◌≡◌, refl}
use mathlib.Core.Bool.{false}
use mathlib.Core.List.{List}
use Prim.Native.Nat.{ℕ, zero, suc, ◌-◌}
use native.Mathlib.Omega.{arith}
use Rattle.searches.specs.UsefulSearch.{cursor_in, Links, Place, state_at, back}

pub state_on : (L : Links) (w : List ℕ) (d : ℕ) → (d ≡ 0 → ⊥) → state_at L w d ≡ L.target (cursor_in w (d - 1))
unfolding state_at
state_on L w zero n = absurd (n refl)
state_on L w (suc k) n = let z : suc k - 1 ≡ k = omega arith in rw z refl

pub back_on : (L : Links) (w : List ℕ) (p : Place) (d : ℕ) → (d ≡ 0 → ⊥)
    → back L w p d ≡ record { work = w; at = record { d = d - 1; s = state_at L w (d - 1); r = L.next (cursor_in w (d - 1)); o = p.o; b = p.b }; done = false }
unfolding back
back_on L w p zero n = absurd (n refl)
back_on L w p (suc k) n = let z : suc k - 1 ≡ k = omega arith in rw z refl
