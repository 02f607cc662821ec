-- flat_map of a joined, a mapped and a flattened list.
use mathlib.Core.Path.{◌≡◌, refl, sym, ap, ap₂, ◌∙◌}
use mathlib.Core.List.Memᴰ.{head as here}
use mathlib.Core.List.Memᴰ.{tail as there}
use mathlib.Core.List.{List, [], ◌∷◌, ◌++◌, map, flat_map, append_assoc, map-append, Memᴰ as In}

module _ {A B : Type 0} where
  pub flat_append : (f : A → List B) (k l : List A) → flat_map f (k ++ l) ≡ flat_map f k ++ flat_map f l
  unfolding flat_map
  flat_append f [] l = refl
  flat_append f (x ∷ xs) l = ap (λ (r : List B). f x ++ r) (flat_append f xs l) ∙ sym (append_assoc (f x) (flat_map f xs) (flat_map f l))

  pub flat_same : (f g : A → List B) (l : List A) → ((x : A) → In x l → f x ≡ g x) → flat_map f l ≡ flat_map g l
  unfolding flat_map
  flat_same f g [] h = refl
  flat_same f g (x ∷ xs) h = ap₂ ◌++◌ (h x (here refl)) (flat_same f g xs (λ y i. h y (there i)))

module _ {A B C : Type 0} where
  pub flat_map_lem : (f : B → List C) (g : A → B) (l : List A) → flat_map f (map g l) ≡ flat_map (λ x. f (g x)) l
  unfolding flat_map
  flat_map_lem f g [] = refl
  flat_map_lem f g (x ∷ xs) = ap (λ (r : List C). f (g x) ++ r) (flat_map_lem f g xs)

  pub flat_flat : (f : B → List C) (g : A → List B) (l : List A) → flat_map f (flat_map g l) ≡ flat_map (λ x. flat_map f (g x)) l
  unfolding flat_map
  flat_flat f g [] = refl
  flat_flat f g (x ∷ xs) = flat_append f (g x) (flat_map g xs) ∙ ap (λ (r : List C). flat_map f (g x) ++ r) (flat_flat f g xs)

  pub map_flat : (f : B → C) (g : A → List B) (l : List A) → map f (flat_map g l) ≡ flat_map (λ x. map f (g x)) l
  unfolding flat_map
  map_flat f g [] = refl
  map_flat f g (x ∷ xs) = map-append f (g x) (flat_map g xs) ∙ ap (λ (r : List C). map f (g x) ++ r) (map_flat f g xs)
