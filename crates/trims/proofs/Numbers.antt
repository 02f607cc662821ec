-- The new number of a useful state is its place among the useful states.
use mathlib.Core.Path.{◌≡◌, ◌∙◌, ap, subst}
use mathlib.Core.Bool.{Bool, true, false}
use Rattle.std.specs.Prelude.{Some}
use Prim.Native.Nat.{ℕ, zero, suc, ◌+◌, ◌<◌, ◌≤◌}
use native.Mathlib.Omega.{arith}
use lib.ListN.{length}
use Rattle.lists.specs.Lists.{At, Distinct, put_if, keep_if, interval}
use Rattle.lists.proofs.Members.{of_keep, of_interval, keep_length}
use Rattle.lists.proofs.Once.{one_place, distinct_keep, distinct_interval}
use Rattle.lists.proofs.Places.{at_in, at_length, at_place}
use Rattle.lists.proofs.Totals.{length_interval}
use Rattle.papers.specs.Machine.{Machine}
use Rattle.graphs.specs.Walks.{useful}
use Rattle.trims.specs.Trims.{useful_states, number}

-- a kept number of an interval stands behind as many as are kept before it
kept_place : (P : ℕ → Bool) (s n k : ℕ) → P (s + k) ≡ true → k < n → At (keep_if P (interval s n)) (length (keep_if P (interval s k))) (s + k)
unfolding keep_if interval
kept_place P s zero k e h = absurd (omega arith)
kept_place P s (suc n) zero e h =
    let z : P s ≡ true = ap P (omega arith) ∙ e in
    let i : s ≡ s + 0 = omega arith in
    rw z (ap Some i)
kept_place P s (suc n) (suc k) e h =
    let i : suc s + k ≡ s + suc k = omega arith in
    go (P s) (subst (λ (x : ℕ). At (keep_if P (interval (suc s) n)) (length (keep_if P (interval (suc s) k))) x) i (kept_place P (suc s) n k (ap P i ∙ e) (omega arith)))
  where
    go : (b : Bool) → At (keep_if P (interval (suc s) n)) (length (keep_if P (interval (suc s) k))) (s + suc k)
        → At (put_if b s (keep_if P (interval (suc s) n))) (length (put_if b s (keep_if P (interval (suc s) k)))) (s + suc k)
    go true r = r
    go false r = r

-- a state that trimming keeps
pub record Kept (M : Machine) (n : ℕ) : Type 0 where
  pub is_useful : useful M n ≡ true
  pub is_state : n < M.states

module _ (M : Machine) where
  -- no state is kept twice
  pub states_once : Distinct (useful_states M)
  states_once = distinct_keep (useful M) (interval 0 M.states) (distinct_interval 0 M.states)

  -- no more are kept than there are
  pub states_few : length (useful_states M) ≤ M.states
  states_few = omega (arith, keep_length (useful M) (interval 0 M.states), length_interval 0 M.states)

  -- a kept state stands at the place of its new number
  pub number_at : (n : ℕ) → Kept M n → At (useful_states M) (number M n) n
  unfolding number
  number_at n k =
      let z : 0 + n ≡ n = omega arith in
      subst (λ (x : ℕ). At (useful_states M) (length (keep_if (useful M) (interval 0 n))) x) z
      (kept_place (useful M) 0 M.states n (ap (useful M) z ∙ k.is_useful) k.is_state)

  -- what stands among them is kept, and its place is its number
  pub of_number : (k n : ℕ) → At (useful_states M) k n → Kept M n × (k ≡ number M n)
  of_number k n h =
      let i = of_keep (useful M) (interval 0 M.states) (at_in (useful_states M) k h) in
      let kept : Kept M n = record { is_useful = i.1; is_state = omega (arith, (of_interval 0 M.states i.0).1) } in
      (kept, one_place (useful_states M) states_once k (number M n) h (number_at n kept))

  -- a new number is below the new state count
  pub number_below : (n : ℕ) → Kept M n → number M n < length (useful_states M)
  number_below n k = at_length (useful_states M) (number M n) (number_at n k)

  -- two kept states have two numbers
  pub number_injective : (a b : ℕ) → Kept M a → Kept M b → number M a ≡ number M b → a ≡ b
  number_injective a b k l e = cc (number_at a k, number_at b l)

  -- each new number is the number of a kept state
  pub numbered : (k : ℕ) → k < length (useful_states M) → (n : ℕ) × Kept M n × (k ≡ number M n)
  numbered k h = let p = at_place (useful_states M) k h in let q = of_number k p.0 p.1 in (p.0, q.0, q.1)
