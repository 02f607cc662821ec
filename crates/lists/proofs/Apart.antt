-- No two places hold things that are alike: `Distinct` for a likeness that need not be equality. Kept through map, _++_ and flat_map; then likeness gives the place.
use mathlib.Core.Path.{◌≡◌, refl, sym, ap, subst}
use mathlib.Core.List.Memᴰ
use mathlib.Core.List.Memᴰ.{head as here}
use mathlib.Core.List.Memᴰ.{tail as there}
use mathlib.Core.List.{List, [], ◌∷◌, ◌++◌, map, flat_map, Memᴰ as In}
use mathlib.Core.Logic.{⊎_elim}
use Rattle.std.proofs.lemmas.Option.{none-some, same_Some}
use Prim.Native.Nat.{ℕ, zero, suc}
use Rattle.lists.specs.Lists.{At, Distinct}
use Rattle.lists.proofs.Members.{of_flat}
use Rattle.lists.proofs.Places.{at_in}

abbrev pub Apart : {A : Type 0} → (A → A → Type 0) → List A → Type 0
Apart R [] = Unit {0}
Apart {A} R (x ∷ xs) = ((y : A) → In y xs → R x y → ⊥) × Apart R xs

-- two places that hold alike things are one
pub apart_place : {A : Type 0} (R : A → A → Type 0) → ((a b : A) → R a b → R b a) → (l : List A) → Apart R l → (j k : ℕ) {a b : A} → At l j a → At l k b → R a b → j ≡ k
apart_place R sy [] d j k h i r = absurd (none-some _ h)
apart_place R sy (x ∷ xs) d zero zero h i r = refl
apart_place R sy (x ∷ xs) d zero (suc k) {a} {b} h i r = absurd (d.0 b (at_in xs k i) (subst (λ z. R z b) (sym (same_Some _ _ h)) r))
apart_place R sy (x ∷ xs) d (suc j) zero {a} {b} h i r = absurd (d.0 a (at_in xs j h) (subst (λ z. R z a) (sym (same_Some _ _ i)) (sy _ _ r)))
apart_place R sy (x ∷ xs) d (suc j) (suc k) h i r = ap suc (apart_place R sy xs d.1 j k h i r)

-- where likeness gives equality, nothing twice is enough
pub apart_distinct : {A : Type 0} (R : A → A → Type 0) → ((a b : A) → R a b → a ≡ b) → (l : List A) → Distinct l → Apart R l
apart_distinct R inj [] d = tt
apart_distinct R inj (x ∷ xs) d = (λ y i r. d.0 (Memᴰ.cast (inj x y r) i), apart_distinct R inj xs d.1)

-- what is told apart by what it gives gives nothing twice
pub apart_once : {A B : Type 0} (g : A → B) (l : List A) → Apart (λ a b. g a ≡ g b) l → Distinct (map g l)
apart_once g [] d = tt
apart_once g (x ∷ xs) d = (λ i. let m = Memᴰ.of_map g xs i in d.0 m.0 m.1 (sym m.2), apart_once g xs d.1)

pub apart_append : {A : Type 0} (R : A → A → Type 0) (xs ys : List A) → Apart R xs → Apart R ys → ((a b : A) → In a xs → In b ys → R a b → ⊥) → Apart R (xs ++ ys)
apart_append R [] ys d e n = e
apart_append R (x ∷ xs) ys d e n =
    (λ y i r. ⊎_elim (λ j. d.0 y j r) (λ j. n x y (here refl) j r) (Memᴰ.append_cases xs i), apart_append R xs ys d.1 e (λ a b i j. n a b (there i) j))

pub apart_map : {A B : Type 0} (R : B → B → Type 0) (g : A → B) (l : List A) → Apart (λ a b. R (g a) (g b)) l → Apart R (map g l)
apart_map R g [] d = tt
apart_map R g (x ∷ xs) d = (λ y i r. let m = Memᴰ.of_map g xs i in d.0 m.0 m.1 (subst (R (g x)) (sym m.2) r), apart_map R g xs d.1)

pub apart_flat : {A B : Type 0} (Q : A → A → Type 0) (R : B → B → Type 0) (g : A → List B) (l : List A) → Apart Q l → ((a : A) → Apart R (g a))
    → ((a b : A) (x y : B) → In x (g a) → In y (g b) → R x y → Q a b) → Apart R (flat_map g l)
unfolding flat_map
apart_flat Q R g [] d e n = tt
apart_flat Q R g (x ∷ xs) d e n =
    apart_append R (g x) (flat_map g xs) (e x) (apart_flat Q R g xs d.1 e n)
    (λ a b i j r. let m = of_flat g xs j in d.0 m.0 m.1 (n x m.0 a b i m.2 r))
