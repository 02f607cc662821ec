-- Both semirings are commutative semirings, in which a product is zero just where a factor is; the tropical one is idempotent, so that a path taken twice alters no sum there.
use mathlib.Core.Path.{◌≡◌, refl, sym, ◌∙◌, ap}
use mathlib.Core.Logic.{◌↔◌, ◌⊎◌, inl, inr, ⊎_elim}
use Prim.Native.Nat.{ℕ, zero, suc, ◌+◌, ◌*◌, ◌≤◌, ◌<◌, min}
use native.Mathlib.Nat.{mul_comm, mul_assoc, one-mul, zero-mul, mul-zero, mul-add, add_comm, min_comm, min-le_left, min-le_right, min-eq_left, le-min, add-min-add_right, mul-pos}
use native.Mathlib.Omega.{arith}
use Rattle.papers.specs.Weight.{CommutativeSemiring, Cost, finite, infinite, least, sum, tropical, Kind, cost, count, semiring}

min_assoc : (a b c : ℕ) → min (min a b) c ≡ min a (min b c)
min_assoc a b c =
    let l : min (min a b) c ≤ min a (min b c) = le-min (omega (arith, min-le_left (min a b) c, min-le_left a b)) (le-min (omega (arith, min-le_left (min a b) c, min-le_right a b)) (min-le_right (min a b) c)) in
    let r : min a (min b c) ≤ min (min a b) c = le-min (le-min (min-le_left a (min b c)) (omega (arith, min-le_right a (min b c), min-le_left b c))) (omega (arith, min-le_right a (min b c), min-le_right b c)) in
    omega arith

add_min : (a b c : ℕ) → a + min b c ≡ min (a + b) (a + c)
add_min a b c = add_comm a (min b c) ∙ (sym (add-min-add_right b c a) ∙ (ap (λ (x : ℕ). min x (c + a)) (add_comm b a) ∙ ap (λ (x : ℕ). min (a + b) x) (add_comm c a)))

sum_assoc : (a b c : Cost) → sum (sum a b) c ≡ sum a (sum b c)
sum_assoc (finite a) (finite b) (finite c) = ap finite (omega arith)
sum_assoc (finite a) (finite b) infinite = refl
sum_assoc (finite a) infinite c = refl
sum_assoc infinite b c = refl

sum_comm : (a b : Cost) → sum a b ≡ sum b a
sum_comm (finite a) (finite b) = ap finite (add_comm a b)
sum_comm (finite a) infinite = refl
sum_comm infinite (finite b) = refl
sum_comm infinite infinite = refl

none_sum : (a : Cost) → sum (finite 0) a ≡ a
none_sum (finite a) = ap finite (omega arith)
none_sum infinite = refl

least_assoc : (a b c : Cost) → least (least a b) c ≡ least a (least b c)
least_assoc (finite a) (finite b) (finite c) = ap finite (min_assoc a b c)
least_assoc (finite a) (finite b) infinite = refl
least_assoc (finite a) infinite c = refl
least_assoc infinite b c = refl

least_comm : (a b : Cost) → least a b ≡ least b a
least_comm (finite a) (finite b) = ap finite (min_comm a b)
least_comm (finite a) infinite = refl
least_comm infinite (finite b) = refl
least_comm infinite infinite = refl

sum_least : (a b c : Cost) → sum a (least b c) ≡ least (sum a b) (sum a c)
sum_least (finite a) (finite b) (finite c) = ap finite (add_min a b c)
sum_least (finite a) (finite b) infinite = refl
sum_least (finite a) infinite (finite c) = refl
sum_least (finite a) infinite infinite = refl
sum_least infinite b c = refl

sum_infinite : (a b : Cost) → (sum a b ≡ infinite) ↔ ((a ≡ infinite) ⊎ (b ≡ infinite))
sum_infinite (finite a) (finite b) = (λ e. inl cc, λ h. ⊎_elim (λ e. cc) (λ e. cc) h)
sum_infinite (finite a) infinite = (λ e. inr refl, λ h. refl)
sum_infinite infinite b = (λ e. inl refl, λ h. refl)

product_zero : (a b : ℕ) → (a * b ≡ 0) ↔ ((a ≡ 0) ⊎ (b ≡ 0))
product_zero zero b = (λ e. inl refl, λ h. zero-mul b)
product_zero (suc a) zero = (λ e. inr refl, λ h. mul-zero (suc a))
product_zero (suc a) (suc b) =
    let p : 0 < suc a * suc b = mul-pos (omega arith) (omega arith) in
    (λ e. absurd (omega arith), λ h. ⊎_elim (λ e. absurd (omega arith)) (λ e. absurd (omega arith)) h)

-- the least of a weight and itself is that weight
pub idempotent : (a : Cost) → tropical.plus a a ≡ a
idempotent (finite a) = ap finite (min-eq_left (omega arith))
idempotent infinite = refl

pub semiring_laws : (k : Kind) → CommutativeSemiring (semiring k)
semiring_laws cost = record {
  times_assoc = sum_assoc;
  times_comm = sum_comm;
  one_times = none_sum;
  zero_times = λ a. refl;
  plus_assoc = least_assoc;
  plus_comm = least_comm;
  zero_plus = λ a. refl;
  times_plus = sum_least;
  zero_product = sum_infinite;
}
semiring_laws count = record {
  times_assoc = mul_assoc;
  times_comm = mul_comm;
  one_times = one-mul;
  zero_times = zero-mul;
  plus_assoc = λ a b c. omega arith;
  plus_comm = λ a b. omega arith;
  zero_plus = λ a. omega arith;
  times_plus = mul-add;
  zero_product = product_zero;
}
