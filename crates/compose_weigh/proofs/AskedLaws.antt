-- What one asking says of the steps that a cursor has still to give; and one turn of each walk over them.
use mathlib.Core.Path.{◌≡◌, refl}
use mathlib.Core.Bool.{false, ◌||◌}
use mathlib.Core.List.{List, [], ◌∷◌}
use Prim.Native.Nat.{ℕ, zero, suc, ◌-◌, ◌≤◌, ◌<◌}
use native.Mathlib.Omega.{arith}
use Rattle.words.specs.Labels.{Checked, good, refused}
use Rattle.words.specs.Steps.{Triple, Step}
use Rattle.calls.specs.Store.{same_triple}
use Rattle.compose_moves.specs.Walks.{gives, ends, refuses, asked}
use Rattle.compose_moves.proofs.Asking.{asked_ends}
use Rattle.compose_weigh.specs.Weigh.{reached_within}

pub step_left : (l : List (Checked Step)) (s : Step) (others : List (Checked Step)) → gives s others ≡ asked l → l ≡ good s ∷ others
step_left [] s others e = cc
step_left (good r ∷ l) s others e = cc
step_left (refused n ∷ l) s others e = cc

-- after a refusal nothing counts
pub refusal_left : (l : List (Checked Step)) (n : ℕ) → refuses n ≡ asked l → (others : List (Checked Step)) × (l ≡ refused n ∷ others)
refusal_left [] n e = ([], cc)
refusal_left (good r ∷ l) n e = ([], cc)
refusal_left (refused m ∷ l) n e = (l, cc)

-- no step is reached where none is given
pub within_none : (t : Triple) (k : ℕ) (l : List (Checked Step)) → ends ≡ asked l → reached_within t k l ≡ false
unfolding reached_within
within_none t zero l e = refl
within_none t (suc k) l e = rw (asked_ends l e)

pub within_refused : (t : Triple) (k : ℕ) (l : List (Checked Step)) (n : ℕ) → refuses n ≡ asked l → reached_within t k l ≡ false
unfolding reached_within
within_refused t zero l n e = refl
within_refused t (suc k) l n e = rw (refusal_left l n e).1

pub within_step : (t : Triple) (k : ℕ) (l : List (Checked Step)) (s : Step) (others : List (Checked Step)) → 0 < k → gives s others ≡ asked l
    → reached_within t k l ≡ (same_triple s.to t || reached_within t (k - 1) others)
unfolding reached_within
within_step t zero l s others h e = absurd (omega arith)
within_step t (suc k) l s others h e = let z : suc k - 1 ≡ k = omega arith in rw (step_left l s others e, z)

pub within_zero : (t : Triple) (k : ℕ) (l : List (Checked Step)) → k ≤ 0 → reached_within t k l ≡ false
unfolding reached_within
within_zero t zero l h = refl
within_zero t (suc k) l h = absurd (omega arith)
