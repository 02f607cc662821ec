-- Places in a list.
use mathlib.Core.Path.{◌≡◌, refl, sym, ap}
use mathlib.Core.Bool.{Bool, true, and-eq-true_iff}
use mathlib.Core.List.Memᴰ.{head as here}
use mathlib.Core.List.Memᴰ.{tail as there}
use mathlib.Core.List.{List, [], ◌∷◌, ◌++◌, map, Memᴰ as In}
use Rattle.std.specs.Prelude.{Some}
use Rattle.std.proofs.lemmas.Option.{none-some, same_Some}
use Prim.Native.Nat.{ℕ, zero, suc, ◌+◌, ◌<◌}
use native.Mathlib.Omega.{arith}
use lib.ListN.{length, get_or, replicate}
use Rattle.lists.specs.Lists.{At, every, interval}
use Rattle.lists.proofs.Members.{and_left, and_right}

pub at_in : {A : Type 0} (l : List A) (k : ℕ) {a : A} → At l k a → In a l
at_in [] k h = absurd (none-some _ h)
at_in (x ∷ xs) zero h = here (sym (same_Some _ _ h))
at_in (x ∷ xs) (suc k) h = there (at_in xs k h)

pub in_at : {A : Type 0} {a : A} {l : List A} → In a l → (k : ℕ) × At l k a
in_at (here e) = (0, ap Some (sym e))
in_at (there h) = let r = in_at h in (suc r.0, r.1)

pub at_length : {A : Type 0} (l : List A) (k : ℕ) {a : A} → At l k a → k < length l
at_length [] k h = absurd (none-some _ h)
at_length (x ∷ xs) zero h = omega arith
at_length (x ∷ xs) (suc k) h = let i = at_length xs k h in omega arith

pub at_map : {A B : Type 0} (g : A → B) (l : List A) (k : ℕ) {a : A} → At l k a → At (map g l) k (g a)
at_map g [] k h = absurd (none-some _ h)
at_map g (x ∷ xs) zero h = cc
at_map g (x ∷ xs) (suc k) h = at_map g xs k h

pub of_at_map : {A B : Type 0} (g : A → B) (l : List A) (k : ℕ) {b : B} → At (map g l) k b → (a : A) × At l k a × (b ≡ g a)
of_at_map g [] k h = absurd (none-some _ h)
of_at_map g (x ∷ xs) zero h = (x, refl, cc)
of_at_map g (x ∷ xs) (suc k) h = of_at_map g xs k h

pub at_left : {A : Type 0} (xs ys : List A) (k : ℕ) {a : A} → At xs k a → At (xs ++ ys) k a
at_left [] ys k h = absurd (none-some _ h)
at_left (x ∷ xs) ys zero h = h
at_left (x ∷ xs) ys (suc k) h = at_left xs ys k h

pub at_end : {A : Type 0} (xs : List A) (a : A) → At (xs ++ (a ∷ [])) (length xs) a
at_end [] a = refl
at_end (x ∷ xs) a = at_end xs a

-- every place of a list is taken
pub at_place : {A : Type 0} (l : List A) (k : ℕ) → k < length l → (a : A) × At l k a
at_place [] k h = absurd (omega arith)
at_place (x ∷ xs) zero h = (x, refl)
at_place (x ∷ xs) (suc k) h = at_place xs k (omega arith)

-- what holds for all of a list, by places
pub every_get : {A : Type 0} (P : A → Bool) (l : List A) (k : ℕ) (d : A) → every P l ≡ true → k < length l → P (get_or l k d) ≡ true
unfolding every
every_get P [] k d e h = absurd (omega arith)
every_get P (x ∷ xs) zero d e h = and_left (P x) _ e
every_get P (x ∷ xs) (suc k) d e h = every_get P xs k d (and_right (P x) _ e) (omega arith)

pub every_by : {A : Type 0} (P : A → Bool) (l : List A) (d : A) → ((k : ℕ) → k < length l → P (get_or l k d) ≡ true) → every P l ≡ true
unfolding every
every_by P [] d h = refl
every_by P (x ∷ xs) d h = (and-eq-true_iff (P x) (every P xs)).1 (h 0 (omega arith), every_by P xs d (λ k i. h (suc k) (omega arith)))

-- a list of zeros reads as 0 everywhere
pub zeros : (k i : ℕ) → get_or {A = ℕ} (replicate k 0) i 0 ≡ 0
zeros zero i = refl
zeros (suc k) zero = refl
zeros (suc k) (suc i) = zeros k i

-- the number at a place of an interval
pub at_interval : (s k n : ℕ) {i : ℕ} → At (interval s k) n i → i ≡ s + n
unfolding interval
at_interval s zero n h = absurd (none-some _ h)
at_interval s (suc k) zero h = omega (arith, same_Some _ _ h)
at_interval s (suc k) (suc n) h = omega (arith, at_interval (suc s) k n h)
