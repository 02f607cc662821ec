-- A run of numbers that are tested one by one: a turn, the end, and a run that is cut short where all the rest passes.
use mathlib.Core.Path.{◌≡◌, refl, sym, ap}
use mathlib.Core.Bool.{Bool, true, false, ◌&&◌}
use Prim.Native.Nat.{ℕ, zero, suc, ◌+◌, ◌-◌, ◌≤◌, ◌<◌, min}
use native.Mathlib.Numerals.{add-one}
use native.Mathlib.Omega.{arith}
use lib.Dec.{leb}
use borrow.Author.Tests.{leb-true, leb-false}
use Rattle.lists.specs.Lists.{every, interval}
use Rattle.lists.proofs.Members.{every_of, of_interval}

-- with n - i numbers left, from `at` on
pub run_turn : (P : ℕ → Bool) (at i n : ℕ) → i < n → every P (interval at (n - i)) ≡ P at && every P (interval (at + 1) (n - (i + 1)))
unfolding every interval
run_turn P at i n h = let e : n - i ≡ suc (n - (i + 1)) = omega arith in rw (e, add-one at)

pub run_end : (P : ℕ → Bool) (at i n : ℕ) → n ≤ i → every P (interval at (n - i)) ≡ true
unfolding every interval
run_end P at i n h = let e : n - i ≡ 0 = omega arith in rw e

cut : (P : ℕ → Bool) (at n k : ℕ) → k ≤ n → ((i : ℕ) → at + k ≤ i → P i ≡ true) → every P (interval at k) ≡ every P (interval at n)
unfolding every interval
cut P at n zero h p = sym (every_of P (interval at n) (λ i l. p i (omega (arith, (of_interval at n l).0))))
cut P at zero (suc k) h p = absurd (omega arith)
cut P at (suc n) (suc k) h p = ap (λ (b : Bool). P at && b) (cut P (suc at) n k (omega arith) (λ i l. p i (omega arith)))

pub run_cut : (P : ℕ → Bool) (at n k : ℕ) → ((i : ℕ) → at + k ≤ i → P i ≡ true) → every P (interval at (min n k)) ≡ every P (interval at n)
run_cut P at n k p = go (leb n k) refl
  where
    go : (b : Bool) → leb n k ≡ b → every P (interval at (min n k)) ≡ every P (interval at n)
    go true e = let h : min n k ≡ n = omega (arith, leb-true n k e) in rw h
    go false e = let l = leb-false n k e in let h : min n k ≡ k = omega arith in rw h (cut P at n k (omega arith) p)
