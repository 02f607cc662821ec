-- What an accepted value says of the checks before it.
use mathlib.Core.Path.{◌≡◌, refl, sym, ap}
use mathlib.Core.Bool.{Bool, true, false, true≢false}
use mathlib.Core.Logic.{◌⊎◌, inl, inr}
use Prim.Native.Nat.{ℕ}
use Rattle.words.specs.Labels.{Checked, good, refused, refuse_if, and_then}

abbrev is_good : {A : Type 0} → Checked A → Bool
is_good (good a) = true
is_good (refused n) = false

-- no value is a refusal
pub good≢refused : {A : Type 0} {a : A} {n : ℕ} → good a ≡ refused n → ⊥
good≢refused e = true≢false (ap is_good e)

pub good_is : {A : Type 0} {a b : A} → good a ≡ good b → a ≡ b
good_is e = cc

pub refused_is : {A : Type 0} {m n : ℕ} → ◌≡◌ {A = Checked A} (refused m) (refused n) → m ≡ n
refused_is e = cc

-- a value behind a check: the check did not stand, and the value is what comes after it
pub past_check : {A : Type 0} (b : Bool) (n : ℕ) (rest : Checked A) (a : A) → refuse_if b n rest ≡ good a → (b ≡ false) × (rest ≡ good a)
past_check true n rest a e = absurd (good≢refused (sym e))
past_check false n rest a e = (refl, e)

-- a value taken further: the first part has one
pub past_then : {A B : Type 0} (x : Checked A) (g : A → Checked B) (b : B) → and_then x g ≡ good b → (a : A) × (x ≡ good a) × (g a ≡ good b)
past_then (good a) g b e = (a, refl, e)
past_then (refused n) g b e = absurd (good≢refused (sym e))

-- where a refusal comes from: the check, or what comes after it; the first part, or the second
pub stop_if : {A : Type 0} (b : Bool) (n : ℕ) (rest : Checked A) (k : ℕ) → refuse_if b n rest ≡ refused k → (k ≡ n) ⊎ (rest ≡ refused k)
stop_if true n rest k e = inl (refused_is (sym e))
stop_if false n rest k e = inr e

pub stop_then : {A B : Type 0} (x : Checked A) (g : A → Checked B) (k : ℕ) → and_then x g ≡ refused k → (x ≡ refused k) ⊎ ((a : A) × (x ≡ good a) × (g a ≡ refused k))
stop_then (good a) g k e = inr (a, refl, e)
stop_then (refused n) g k e = inl (ap refused (refused_is e))
