-- Any kind but 0 is count; MAX absorbs; and what a checked sum and a checked product are in `times`.
use Rattle.std.specs.Prelude.{◌≡◌, ℕ, zero, suc, ◌+◌, ◌*◌, ◌^◌, ◌<◌, ◌≤◌, Option, None, Some, SomeIff, eqb}
use mathlib.Core.Path.{refl, sym, ◌∙◌}
use mathlib.Core.Logic.{◌⊎◌, inl, inr}
use Rattle.std.proofs.Math.Bool.{or-true}
use native.Mathlib.Omega.{arith}
use borrow.Author.Tests.{eq-eqb, ne_eqb, lt-leb, le-leb, lt-ltb, le-ltb}
use Rattle.std.proofs.lemmas.Option.{none-some, same_Some}
use Rattle.words.specs.Labels.{MAX}
use Rattle.words.specs.Weights.{cost, count, kind_of, times}

pub kind_count : (k : ℕ) → (k ≡ 0 → ⊥) → kind_of k ≡ count
kind_count zero e = absurd (e refl)
kind_count (suc k) e = refl

pub absorbs : (a b : ℕ) → (a ≡ MAX) ⊎ ((a ≡ MAX → ⊥) × (b ≡ MAX)) → Some MAX ≡ times cost a b
unfolding times
absorbs a b (inl e) = simp (eq-eqb a MAX e)
absorbs a b (inr e) = simp (eq-eqb b MAX e.1, or-true (eqb a MAX))

pub product_found : (a b : ℕ) (r : Option ℕ) → SomeIff r (a * b < 2 ^ 32) (a * b) → r ≡ times count a b
unfolding times
product_found a b None h = simp (lt-leb (a * b) MAX (large (a * b) h)) where
  large : (n : ℕ) → (n < 2 ^ 32 → ⊥) → MAX < n
  large n h = omega (arith, h)
product_found a b (Some x) h = simp (le-leb (a * b) MAX (small (a * b) h.0), h.1) where
  small : (n : ℕ) → n < 2 ^ 32 → n ≤ MAX
  small n h = omega (arith, h)

module _ (a b : ℕ) (A : a ≡ MAX → ⊥) (B : b ≡ MAX → ⊥) where
  -- no sum of 32 bits
  pub sum_lacks : (r : Option ℕ) → SomeIff r (a + b < 2 ^ 32) (a + b) → r ≡ None → None ≡ times cost a b
  unfolding times
  sum_lacks None h e = simp (ne_eqb a MAX A, ne_eqb b MAX B, le-ltb (a + b) MAX (omega (arith, h)))
  sum_lacks (Some x) h e = absurd (none-some _ (sym e))

  -- a sum below MAX
  pub sum_small : (r : Option ℕ) (s : ℕ) → SomeIff r (a + b < 2 ^ 32) (a + b) → r ≡ Some s → s < MAX → Some s ≡ times cost a b
  unfolding times
  sum_small None s h e l = absurd (none-some _ e)
  sum_small (Some x) s h e l = let z : s ≡ a + b = sym (same_Some _ _ e) ∙ h.1 in
      rw z (simp (ne_eqb a MAX A, ne_eqb b MAX B, lt-ltb (a + b) MAX (omega (arith, l, z))))

  -- the sum MAX, or one above
  pub sum_large : (r : Option ℕ) (s : ℕ) → SomeIff r (a + b < 2 ^ 32) (a + b) → r ≡ Some s → MAX ≤ s → None ≡ times cost a b
  unfolding times
  sum_large None s h e l = absurd (none-some _ e)
  sum_large (Some x) s h e l = let z : s ≡ a + b = sym (same_Some _ _ e) ∙ h.1 in
      simp (ne_eqb a MAX A, ne_eqb b MAX B, le-ltb (a + b) MAX (omega (arith, l, z)))
