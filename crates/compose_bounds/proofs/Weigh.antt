-- The product of two weights that are small enough.
use mathlib.Core.Path.{◌≡◌, refl}
use mathlib.Core.Bool.{Bool, true, false, ◌||◌, cond}
use mathlib.Core.Logic.{◌⊎◌, inl, inr}
use Rattle.std.specs.Prelude.{None, Some}
use Prim.Native.Nat.{ℕ, ◌+◌, ◌*◌, ◌≤◌, ◌<◌}
use native.Mathlib.Nat.{mul-le-mul, one-mul, mul-one, le_trans}
use native.Mathlib.Omega.{arith}
use lib.Dec.{eqb, ltb}
use borrow.Author.Tests.{eq-eqb, ne_eqb, lt-ltb, le-leb, ltb-true, leb-true}
use Rattle.words.specs.Labels.{MAX}
use Rattle.words.specs.Weights.{Kind, cost, count, one, zero_of, times}
use Rattle.compose_bounds.specs.Serving.{weights_fit}

-- zero, one, or at most `most`
abbrev pub Small : Kind → ℕ → ℕ → Type 0
Small k most w = (w ≡ zero_of k) ⊎ ((w ≡ one k) ⊎ (w ≤ most))

cost_zero : (a b : ℕ) → (a ≡ MAX) ⊎ (b ≡ MAX) → times cost a b ≡ Some MAX
unfolding times
cost_zero a b (inl e) = rw (eq-eqb a MAX e)
cost_zero a b (inr e) = rw (eq-eqb b MAX e) (go (eqb a MAX))
  where
    go : (x : Bool) → cond (x || true) (Some MAX) (cond (ltb (a + b) MAX) (Some (a + b)) None) ≡ Some MAX
    go true = refl
    go false = refl

cost_sum : (a b p q : ℕ) → p + q < MAX → a ≤ p → b ≤ q → times cost a b ≡ Some (a + b)
unfolding times
cost_sum a b p q h x y = rw (ne_eqb a MAX (λ e. omega (arith, e, h, x)), ne_eqb b MAX (λ e. omega (arith, e, h, y)), lt-ltb (a + b) MAX (omega (arith, h, x, y)))

count_product : (a b : ℕ) → a * b ≤ MAX → times count a b ≡ Some (a * b)
unfolding times
count_product a b h = rw (le-leb (a * b) MAX h)

-- one part of a cost is zero, or it is at most p
cost_part : (w p : ℕ) → Small cost p w → (w ≡ MAX) ⊎ (w ≤ p)
cost_part w p (inl e) = inl e
cost_part w p (inr (inl e)) = inr (omega (arith, e))
cost_part w p (inr (inr h)) = inr h

count_part : (w p : ℕ) → Small count p w → (w ≡ 1) ⊎ (w ≤ p)
count_part w p (inl e) = inr (omega (arith, e))
count_part w p (inr (inl e)) = inl e
count_part w p (inr (inr h)) = inr h

pub times_fit : (k : Kind) (a b p q : ℕ) → weights_fit k p q ≡ true → a ≤ MAX → b ≤ MAX → Small k p a → Small k q b → (w : ℕ) × (times k a b ≡ Some w)
times_fit cost a b p q h ma mb x y = go (cost_part a p x) (cost_part b q y)
  where
    go : (a ≡ MAX) ⊎ (a ≤ p) → (b ≡ MAX) ⊎ (b ≤ q) → (w : ℕ) × (times cost a b ≡ Some w)
    go (inl e) y = (MAX, cost_zero a b (inl e))
    go (inr e) (inl f) = (MAX, cost_zero a b (inr f))
    go (inr e) (inr f) = (a + b, cost_sum a b p q (ltb-true _ _ h) e f)
times_fit count a b p q h ma mb x y = (a * b, count_product a b (go (count_part a p x) (count_part b q y)))
  where
    go : (a ≡ 1) ⊎ (a ≤ p) → (b ≡ 1) ⊎ (b ≤ q) → a * b ≤ MAX
    go (inl e) y = rw (e, one-mul) mb
    go (inr e) (inl f) = rw (f, mul-one) ma
    go (inr e) (inr f) = le_trans (mul-le-mul e f) (leb-true _ _ h)
