-- Lists in which no refusal stands, and lengths of lists put together.
use mathlib.Core.Path.{◌≡◌, refl}
use mathlib.Core.List.Memᴰ.{head as here}
use mathlib.Core.List.Memᴰ.{tail as there}
use mathlib.Core.List.{List, [], ◌∷◌, ◌++◌, map, flat_map, Memᴰ as In}
use Prim.Native.Nat.{ℕ, suc, ◌+◌, ◌*◌, ◌≤◌}
use native.Mathlib.Nat.{suc-mul}
use native.Mathlib.Omega.{arith}
use lib.ListN.{length, length-append}
use Rattle.words.specs.Labels.{Checked, good, refused}
use Rattle.stored_steps.specs.Storing.{All}

pub all_join : {A : Type 0} (P : A → Type 0) (l r : List (Checked A)) → All P l → All P r → All P (l ++ r)
all_join P [] r a b = b
all_join P (good x ∷ l) r a b = (a.0, all_join P l r a.1 b)
all_join P (refused n ∷ l) r a b = absurd a

pub all_flat : {A B : Type 0} (P : B → Type 0) (g : A → List (Checked B)) (l : List A) → ((a : A) → In a l → All P (g a)) → All P (flat_map g l)
unfolding flat_map
all_flat P g [] h = tt
all_flat P g (x ∷ l) h = all_join P (g x) (flat_map g l) (h x (here refl)) (all_flat P g l (λ a i. h a (there i)))

pub all_map : {A B : Type 0} (P : B → Type 0) (g : A → B) (l : List A) → ((a : A) → In a l → P (g a)) → All P (map (λ a. good (g a)) l)
all_map P g [] h = tt
all_map P g (x ∷ l) h = (h x (here refl), all_map P g l (λ a i. h a (there i)))

pub flat_length : {A B : Type 0} (g : A → List B) (l : List A) (n : ℕ) → ((a : A) → In a l → length (g a) ≤ n) → length (flat_map g l) ≤ length l * n
unfolding flat_map
flat_length g [] n h = omega arith
flat_length g (x ∷ l) n h =
    let p = h x (here refl) in
    let q = flat_length g l n (λ a i. h a (there i)) in
    let z : suc (length l) * n ≡ length l * n + n = suc-mul (length l) n in
    omega (arith, length-append (g x) (flat_map g l), p, q, z)
