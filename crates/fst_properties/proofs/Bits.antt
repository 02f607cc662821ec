-- Bits of a word: setting one sets no other. A record is seen that was seen before, or that was seen now.
use mathlib.Core.Path.{◌≡◌, refl, sym, ◌∙◌, ap}
use mathlib.Core.Bool.{Bool, true, false, cond}
use mathlib.Core.List.{List, [], ◌∷◌}
use mathlib.Core.Logic.{◌⊎◌, inl, inr, ⊎_elim}
use Prim.Native.Nat.{ℕ, zero, suc, ◌+◌, ◌*◌, ◌/◌, ◌%◌, ◌^◌, ◌≤◌, ◌<◌, max}
use native.Mathlib.Nat.{pow-suc, pow-succ', pow-le-pow_right, div-eq_of_lt, div-le_self, div-eq_of_eq-mul_left, div-div-eq-div-mul, div-add-mod, div-lt_iff_lt-mul, mod-eq_of_lt}
use native.Mathlib.Omega.{arith}
use lib.Bits.{bit_or, or_shr, or_step}
use lib.Dec.{eqb, ltb}
use lib.ListN.{get_or, set, replicate}
use borrow.Author.Tests.{eqb-true, eq-eqb, ltb-true}
use Rattle.lists.proofs.Places.{zeros}
use Rattle.lists.proofs.Members.{and_left, and_right}
use Rattle.fst_properties.specs.Seen.{seen_bits, step_of, bit_of, bit_in, bit_with, seen_in, seen_with}

-- the code's `1 << (t % 32)` loses nothing
pub shifted : (t : ℕ) → 1 * 2 ^ (t % 32) % 4294967296 ≡ 2 ^ (t % 32)
shifted t =
    let i : t % 32 ≤ 31 = omega arith in
    let h : 2 ^ (t % 32) ≤ 2 ^ 31 = pow-le-pow_right (omega arith) i in
    let e : 1 * 2 ^ (t % 32) ≡ 2 ^ (t % 32) = omega arith in
    rw e (mod-eq_of_lt (omega (arith, h)))

positive : (b : ℕ) → 1 ≤ 2 ^ b
positive b = let i : 0 ≤ b = omega arith in pow-le-pow_right (omega arith) i

-- a power of two has one bit
one_bit : (b c : ℕ) → 2 ^ b / 2 ^ c % 2 ≡ 1 → c ≡ b
one_bit zero zero h = refl
one_bit zero (suc c) h =
    let e : 2 ^ zero / 2 ^ suc c ≡ 0 = div-eq_of_lt (omega (arith, pow-suc 2 c, positive c)) in
    let z : 0 % 2 ≡ 1 = rw e at h in
    absurd (omega arith)
one_bit (suc b) zero h = let e = pow-suc 2 b in absurd (omega (arith, e, h))
one_bit (suc b) (suc c) h =
    let e : 2 ^ suc b / 2 ≡ 2 ^ b = div-eq_of_eq-mul_left (omega arith) (pow-suc 2 b) in
    let q : 2 ^ suc b / 2 ^ suc c ≡ 2 ^ b / 2 ^ c =
    ap (λ (x : ℕ). 2 ^ suc b / x) (pow-succ' 2 c) ∙ sym (div-div-eq-div-mul (2 ^ suc b) 2 (2 ^ c)) ∙ ap (λ (x : ℕ). x / 2 ^ c) e in
    ap suc (one_bit b c (ap (λ (x : ℕ). x % 2) (sym q) ∙ h))

-- a bit of a word with bit b set is that bit, or was set
or_bit : (x b c : ℕ) → bit_or x (2 ^ b) / 2 ^ c % 2 ≡ 1 → (c ≡ b) ⊎ (x / 2 ^ c % 2 ≡ 1)
or_bit x b c h =
    let e = or_shr x (2 ^ b) c ∙ or_step (x / 2 ^ c) (2 ^ b / 2 ^ c) in
    go (x / 2 ^ c % 2) (2 ^ b / 2 ^ c % 2) (bit_or (x / 2 ^ c / 2) (2 ^ b / 2 ^ c / 2)) refl refl (ap (λ (y : ℕ). y % 2) (sym e) ∙ h)
  where
    go : (p q y : ℕ) → x / 2 ^ c % 2 ≡ p → 2 ^ b / 2 ^ c % 2 ≡ q → (y * 2 + max p q) % 2 ≡ 1 → (c ≡ b) ⊎ (p ≡ 1)
    go p zero y d f g = inr (omega arith)
    go p (suc zero) y d f g = inl (one_bit b c f)
    go p (suc (suc q)) y d f g = absurd (omega arith)

-- a word of a list in which one was set
set_cases : (l : List ℕ) (i v j : ℕ) → (get_or (set l i v) j 0 ≡ get_or l j 0) ⊎ ((j ≡ i) × (get_or (set l i v) j 0 ≡ v))
set_cases [] i v j = inl refl
set_cases (x ∷ xs) zero v zero = inr (refl, refl)
set_cases (x ∷ xs) zero v (suc j) = inl refl
set_cases (x ∷ xs) (suc i) v zero = inl refl
set_cases (x ∷ xs) (suc i) v (suc j) = ⊎_elim inl (λ r. inr (ap suc r.0, r.1)) (set_cases xs i v j)

-- what is set after bit i was: bit i, or what was set before
bit_with_lem : (seen : List ℕ) (i j : ℕ) → bit_in (bit_with seen i) j ≡ true → (j ≡ i) ⊎ (bit_in seen j ≡ true)
unfolding bit_in bit_with
bit_with_lem seen i j h = go (ltb i seen_bits) h
  where
    v : ℕ
    v = bit_or (get_or seen (i / 32) 0) (2 ^ (i % 32))

    same : get_or (set seen (i / 32) v) (j / 32) 0 ≡ get_or seen (j / 32) 0 → bit_in (set seen (i / 32) v) j ≡ true → bit_in seen j ≡ true
    same e p = rw e at p

    changed : j / 32 ≡ i / 32 → get_or (set seen (i / 32) v) (j / 32) 0 ≡ v → bit_in (set seen (i / 32) v) j ≡ true → (j ≡ i) ⊎ (bit_in seen j ≡ true)
    changed d e p =
        let b : v / 2 ^ (j % 32) % 2 ≡ 1 = eqb-true _ _ (rw e at (and_right (ltb j seen_bits) _ p)) in
        ⊎_elim
        (λ (q : j % 32 ≡ i % 32). inl (omega (arith, d, q)))
        (λ q. inr (rw (and_left (ltb j seen_bits) _ p, d) (eq-eqb _ _ q)))
        (or_bit (get_or seen (i / 32) 0) (i % 32) (j % 32) b)

    go : (b : Bool) → bit_in (cond b (set seen (i / 32) v) seen) j ≡ true → (j ≡ i) ⊎ (bit_in seen j ≡ true)
    go false p = inr p
    go true p = ⊎_elim (λ e. inr (same e p)) (λ r. changed r.0 r.1 p) (set_cases seen (i / 32) v (j / 32))

-- of n records every multiple of the step has a bit
pub has_bit : (n t : ℕ) → t ≤ n → t % step_of n ≡ 0 → bit_of n t < seen_bits
unfolding bit_of step_of
has_bit n t h e = rw (eq-eqb _ _ e) ((div-lt_iff_lt-mul {k = step_of n} {x = t} {y = seen_bits} (omega arith)).1 (omega arith))

-- such a record, by the number of its bit
by_bit : (n t : ℕ) → bit_of n t < seen_bits → t ≡ step_of n * bit_of n t
unfolding bit_of
by_bit n t h = go (eqb (t % step_of n) 0) refl h
  where
    go : (b : Bool) → eqb (t % step_of n) 0 ≡ b → cond b (t / step_of n) seen_bits < seen_bits → t ≡ step_of n * cond b (t / step_of n) seen_bits
    go true e l = let z : t % step_of n ≡ 0 = eqb-true _ _ e in omega (arith, div-add-mod t (step_of n), z)
    go false e l = absurd (omega arith)

-- what is seen after record t was: t, or what was seen before
pub seen_with_lem : (n : ℕ) (seen : List ℕ) (t u : ℕ) → seen_in n (seen_with n seen t) u ≡ true → (u ≡ t) ⊎ (seen_in n seen u ≡ true)
unfolding seen_in seen_with bit_in
seen_with_lem n seen t u h =
    let l = ltb-true _ _ (and_left (ltb (bit_of n u) seen_bits) _ h) in
    ⊎_elim (λ e. inl (by_bit n u l ∙ ap (λ i. step_of n * i) e ∙ sym (by_bit n t (rw e at l)))) inr (bit_with_lem seen (bit_of n t) (bit_of n u) h)

-- at first nothing is seen
pub none_seen : (n k u : ℕ) → seen_in n (replicate k 0) u ≡ true → ⊥
unfolding seen_in bit_in
none_seen n k u h =
    let i = bit_of n u in
    let e : 0 / 2 ^ (i % 32) % 2 ≡ 1 = eqb-true _ _ (rw (zeros k (i / 32)) at (and_right (ltb i seen_bits) _ h)) in
    let z = div-le_self 0 (2 ^ (i % 32)) in
    absurd (omega (arith, e, z))
