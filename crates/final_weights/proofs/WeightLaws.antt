-- Final weights taken in number order: one more at each turn.
use mathlib.Core.Path.{◌≡◌, refl, sym, ap, ◌∙◌}
use mathlib.Core.List.{List, ◌∷◌, map}
use Rattle.std.specs.Prelude.{Option}
use Prim.Native.Nat.{ℕ, suc, ◌+◌, ◌-◌, ◌≤◌, ◌<◌}
use native.Mathlib.Omega.{arith}
use Rattle.lists.specs.Lists.{interval}
use Rattle.words.specs.Labels.{Checked, good, refused, and_then, collect}
use Rattle.words.specs.Settings.{Lent}
use Rattle.calls.specs.Store.{Memory}
use Rattle.calls.specs.Checks.{Session}
use Rattle.calls.specs.Calls.{final_weight_of}
use Rattle.calls.specs.Owned.{weights_from}
use Rattle.final_weights.specs.Weights.{verdict}

-- the first refusal of two counts
abbrev pub then_verdict : Checked (Unit {0}) → Checked (Unit {0}) → Checked (Unit {0})
then_verdict (good answered) v = v
then_verdict (refused n) v = refused n

pub verdict_cons : {A : Type 0} (x : Checked A) (xs : List (Checked A)) → verdict (collect (x ∷ xs)) ≡ then_verdict (verdict x) (verdict (collect xs))
unfolding collect
verdict_cons (refused n) xs = refl
verdict_cons {A = A} (good a) xs = go (collect xs)
  where
    go : (y : Checked (List A)) → verdict (and_then y (λ l. good (a ∷ l))) ≡ verdict y
    go (good l) = refl
    go (refused n) = refl

-- an interval that is not at its end
pub interval_on : (n k : ℕ) → n < k → interval n (k - n) ≡ n ∷ interval (n + 1) (k - (n + 1))
unfolding interval
interval_on n k h =
    let e : k - n ≡ suc (k - (n + 1)) = omega arith in
    let f : suc n ≡ n + 1 = omega arith in
    ap (interval n) e ∙ ap (λ (i : ℕ). n ∷ interval i (k - (n + 1))) f

module _ (l : Lent) (s : Session) (m : Memory) where
  abbrev weight : ℕ → Checked (Option ℕ)
  weight n = (final_weight_of l s m n).answer

  module _ (n k : ℕ) (v : Checked (Unit {0})) (rest : verdict (weights_from l s m n (k - n)) ≡ v) where
    turn : n < k → then_verdict (verdict (weight n)) (verdict (weights_from l s m (n + 1) (k - (n + 1)))) ≡ v
    unfolding weights_from
    turn h = sym (verdict_cons (weight n) (map weight (interval (n + 1) (k - (n + 1))))) ∙ sym (ap (λ (i : List ℕ). verdict (collect (map weight i))) (interval_on n k h)) ∙ rest

    -- state n's weight is answered, and the rest gives the same
    pub weights_again : n < k → good tt ≡ verdict (weight n) → verdict (weights_from l s m (n + 1) (k - (n + 1))) ≡ v
    weights_again h e = rw (← e) at (turn h)

    -- it is refused, and so are all
    pub weights_stop : (j : ℕ) → n < k → refused j ≡ verdict (weight n) → refused j ≡ v
    weights_stop j h e = rw (← e) at (turn h)

    pub weights_done : k ≤ n → good tt ≡ v
    unfolding weights_from interval collect
    weights_done h = let z : k - n ≡ 0 = omega arith in rw z at rest
