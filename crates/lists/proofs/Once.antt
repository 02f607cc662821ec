-- Nothing twice: kept through map, keep_if, _++_ and flat_map; then a place is known by what stands there.
use mathlib.Core.Path.{◌≡◌, refl, sym, ◌∙◌, ap}
use mathlib.Core.Bool.{Bool, true, false}
use mathlib.Core.List.Memᴰ
use mathlib.Core.List.Memᴰ.{head as here}
use mathlib.Core.List.Memᴰ.{tail as there}
use mathlib.Core.List.{List, [], ◌∷◌, ◌++◌, map, flat_map, Memᴰ as In}
use mathlib.Core.Logic.{⊎_elim}
use Rattle.std.proofs.lemmas.Option.{none-some}
use Prim.Native.Nat.{ℕ, zero, suc}
use native.Mathlib.Omega.{arith}
use Rattle.lists.specs.Lists.{At, Distinct, put_if, keep_if, interval}
use Rattle.lists.proofs.Members.{of_flat, of_keep, of_interval}
use Rattle.lists.proofs.Places.{in_at, at_in}

pub one_place : {A : Type 0} (l : List A) → Distinct l → (j k : ℕ) {a : A} → At l j a → At l k a → j ≡ k
one_place [] d j k h i = absurd (none-some _ h)
one_place (x ∷ xs) d zero zero h i = refl
one_place (x ∷ xs) d zero (suc k) h i = absurd (d.0 (at_in xs k (i ∙ sym h)))
one_place (x ∷ xs) d (suc j) zero h i = absurd (d.0 (at_in xs j (h ∙ sym i)))
one_place (x ∷ xs) d (suc j) (suc k) h i = ap suc (one_place xs d.1 j k h i)

pub distinct_append : {A : Type 0} (xs ys : List A) → Distinct xs → Distinct ys → ((a : A) → In a xs → In a ys → ⊥) → Distinct (xs ++ ys)
distinct_append [] ys d e n = e
distinct_append (x ∷ xs) ys d e n =
    (λ i. ⊎_elim d.0 (n x (here refl)) (Memᴰ.append_cases xs i), distinct_append xs ys d.1 e (λ a i j. n a (there i) j))

pub distinct_map : {A B : Type 0} (g : A → B) → ((a b : A) → g a ≡ g b → a ≡ b) → (l : List A) → Distinct l → Distinct (map g l)
distinct_map g inj [] d = tt
distinct_map g inj (x ∷ xs) d = (λ i. let r = Memᴰ.of_map g xs i in d.0 (Memᴰ.cast (inj _ _ (sym r.2)) r.1), distinct_map g inj xs d.1)

pub distinct_keep : {A : Type 0} (P : A → Bool) (l : List A) → Distinct l → Distinct (keep_if P l)
unfolding keep_if
distinct_keep P [] d = tt
distinct_keep P (x ∷ xs) d = go (P x) (distinct_keep P xs d.1)
  where
    go : (b : Bool) → Distinct (keep_if P xs) → Distinct (put_if b x (keep_if P xs))
    go true r = (λ i. d.0 (of_keep P xs i).0, r)
    go false r = r

-- lists one after another, no two of which share a member
pub distinct_parts : {A B : Type 0} (g : A → List B) (l : List A) → Distinct l → ((a : A) → Distinct (g a))
    → ((a b : A) (x : B) → In a l → In b l → In x (g a) → In x (g b) → a ≡ b) → Distinct (flat_map g l)
unfolding flat_map
distinct_parts g [] d e n = tt
distinct_parts g (x ∷ xs) d e n =
    distinct_append (g x) (flat_map g xs) (e x) (distinct_parts g xs d.1 e (λ a b y i j. n a b y (there i) (there j)))
    (λ b i j. let r = of_flat g xs j in d.0 (Memᴰ.cast (n x r.0 b (here refl) (there r.1) i r.2) r.1))

pub distinct_flat : {A B : Type 0} (g : A → List B) (l : List A) → Distinct l → ((a : A) → Distinct (g a))
    → ((a b : A) (x : B) → In x (g a) → In x (g b) → a ≡ b) → Distinct (flat_map g l)
distinct_flat g l d e n = distinct_parts g l d e (λ a b x i j. n a b x)

-- what stands at one place alone stands there once
pub distinct_of : {A : Type 0} (l : List A) → ((j k : ℕ) (a : A) → At l j a → At l k a → j ≡ k) → Distinct l
distinct_of [] h = tt
distinct_of (x ∷ xs) h = (
  λ i. let p = in_at i in let z : 0 ≡ suc p.0 = h 0 (suc p.0) x refl p.1 in absurd (omega arith),
  distinct_of xs (λ j k a u v. let z : suc j ≡ suc k = h (suc j) (suc k) a u v in omega arith),
)

-- numbers in a row
pub distinct_interval : (s n : ℕ) → Distinct (interval s n)
unfolding interval
distinct_interval s zero = tt
distinct_interval s (suc n) = (λ i. let b = of_interval (suc s) n i in omega (arith, b.0), distinct_interval (suc s) n)
