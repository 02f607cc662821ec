-- The sum of a bound for each number of an interval: the lists of an interval, put together, are no longer than the sum of their bounds.
use mathlib.Core.Path.{◌≡◌, refl, ◌∙◌, ap}
use mathlib.Core.List.{List, flat_map}
use Prim.Native.Nat.{ℕ, zero, suc, ◌+◌, ◌≤◌, ◌<◌}
use native.Mathlib.Omega.{arith}
use lib.ListN.{length, length-append}
use Rattle.lists.specs.Lists.{interval}

-- f s + f (s + 1) + .., n of them
unfoldable pub total : (ℕ → ℕ) → ℕ → ℕ → ℕ
total f s zero = 0
total f s (suc n) = f s + total f (suc s) n

-- one more
total_on : (f : ℕ → ℕ) (s n : ℕ) → total f s (suc n) ≡ total f s n + f (s + n)
unfolding total
total_on f s zero = let e : s + 0 ≡ s = omega arith in rw e (omega arith)
total_on f s (suc n) =
    let r = total_on f (suc s) n in
    let e : f (s + suc n) ≡ f (suc s + n) = ap f (omega arith) in
    omega (arith, r, e)

pub total_end : (f : ℕ → ℕ) (n : ℕ) → total f 0 (suc n) ≡ total f 0 n + f n
total_end f n = let e : f (0 + n) ≡ f n = ap f (omega arith) in total_on f 0 n ∙ ap (λ k. total f 0 n + k) e

pub total_same : (f g : ℕ → ℕ) (s n : ℕ) → ((i : ℕ) → i < s + n → f i ≡ g i) → total f s n ≡ total g s n
unfolding total
total_same f g s zero h = refl
total_same f g s (suc n) h = let a = h s (omega arith) in let b = total_same f g (suc s) n (λ i k. h i (omega arith)) in omega (arith, a, b)

pub length_interval : (s n : ℕ) → length (interval s n) ≡ n
unfolding interval
length_interval s zero = refl
length_interval s (suc n) = ap suc (length_interval (suc s) n)

-- one more than its bound at most in each of the lists
pub parts_length : {A : Type 0} (f : ℕ → List A) (g : ℕ → ℕ) (s n : ℕ) → ((i : ℕ) → i < s + n → length (f i) ≤ 1 + g i)
    → length (flat_map f (interval s n)) ≤ n + total g s n
unfolding interval flat_map total
parts_length f g s zero h = omega arith
parts_length f g s (suc n) h =
    let r = parts_length f g (suc s) n (λ i k. h i (omega arith)) in
    let b = h s (omega arith) in
    omega (arith, r, b, length-append (f s) (flat_map f (interval (suc s) n)))
