-- Lists that are built alike from what agrees on their members.
use mathlib.Core.Path.{◌≡◌, refl, ◌∙◌}
use mathlib.Core.Bool.{Bool, cond}
use mathlib.Core.List.Memᴰ.{head as here}
use mathlib.Core.List.Memᴰ.{tail as there}
use mathlib.Core.List.{List, [], ◌∷◌, map, Memᴰ as In}
use Prim.Native.Nat.{ℕ, zero, suc, ◌+◌}
use native.Mathlib.Omega.{arith}
use lib.ListN.{length}
use Rattle.lists.specs.Lists.{put_if, keep_if, interval}
use Rattle.lists.proofs.Members.{put_length}

pub keep_same : {A : Type 0} (P Q : A → Bool) (l : List A) → ((a : A) → In a l → P a ≡ Q a) → keep_if P l ≡ keep_if Q l
unfolding keep_if
keep_same P Q [] h = refl
keep_same P Q (x ∷ xs) h = rw (h x (here refl), keep_same P Q xs (λ a i. h a (there i))) refl

pub map_same : {A B : Type 0} (f g : A → B) (l : List A) → ((a : A) → In a l → f a ≡ g a) → map f l ≡ map g l
map_same f g [] h = refl
map_same f g (x ∷ xs) h = rw (h x (here refl), map_same f g xs (λ a i. h a (there i))) refl

-- how many of the numbers below n + 1 are kept
keep_on : (P : ℕ → Bool) (s n : ℕ) → length (keep_if P (interval s (suc n))) ≡ length (keep_if P (interval s n)) + cond (P (s + n)) 1 0
unfolding keep_if interval
keep_on P s zero = let e : s + 0 ≡ s = omega arith in rw e (put_length (P s) s [] ∙ omega arith)
keep_on P s (suc n) =
    let e : s + suc n ≡ suc s + n = omega arith in
    let r : length (keep_if P (interval (suc s) (suc n))) ≡ length (keep_if P (interval (suc s) n)) + cond (P (s + suc n)) 1 0 = rw e (keep_on P (suc s) n) in
    let a : length (put_if (P s) s (keep_if P (interval (suc s) (suc n)))) ≡ cond (P s) 1 0 + length (keep_if P (interval (suc s) (suc n))) = put_length (P s) s _ in
    let b : length (put_if (P s) s (keep_if P (interval (suc s) n))) ≡ cond (P s) 1 0 + length (keep_if P (interval (suc s) n)) = put_length (P s) s _ in
    omega (arith, r, a, b)

pub keep_more : (P : ℕ → Bool) (n : ℕ) → length (keep_if P (interval 0 (suc n))) ≡ length (keep_if P (interval 0 n)) + cond (P n) 1 0
keep_more P n = let e : 0 + n ≡ n = omega arith in rw e at (keep_on P 0 n)
