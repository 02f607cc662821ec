-- Lists that hold each member once: what stands in a list, each once, and the pairs of two lists.
use mathlib.Core.Path.{◌≡◌, refl, sym, ◌∙◌, ap}
use mathlib.Core.Bool.{Bool, true, false, not, false≢true}
use mathlib.Core.List.Memᴰ
use mathlib.Core.List.Memᴰ.{head as here}
use mathlib.Core.List.Memᴰ.{tail as there}
use mathlib.Core.List.{List, [], ◌∷◌, map, flat_map, Memᴰ as In}
use mathlib.Core.Logic.{◌↔◌, ⊎_elim}
use Prim.Native.Nat.{ℕ}
use Rattle.lists.specs.Lists.{Distinct, keep_if}
use Rattle.lists.proofs.Members.{in_keep, of_keep, in_flat, of_flat}
use Rattle.lists.proofs.Once.{distinct_keep, distinct_map, distinct_flat}
use Rattle.lists.proofs.Compare.{eq_list, eq_list_eq, eq_eq_list}

-- each of l once
unfoldable pub once : List (List ℕ) → List (List ℕ)
once [] = []
once (x ∷ xs) = x ∷ keep_if (λ y. not (eq_list x y)) (once xs)

pub once_distinct : (l : List (List ℕ)) → Distinct (once l)
unfolding once
once_distinct [] = tt
once_distinct (x ∷ xs) = (
  λ i. let e = (of_keep (λ y. not (eq_list x y)) (once xs) i).1 in false≢true (rw (eq_eq_list x x refl) at e),
  distinct_keep (λ y. not (eq_list x y)) (once xs) (once_distinct xs),
)

pub in_once : (l : List (List ℕ)) (a : List ℕ) → In a (once l) ↔ In a l
unfolding once
in_once [] a = (λ i. i, λ i. i)
in_once (x ∷ xs) a = (
  λ i. ⊎_elim (λ e. here e) (λ j. there ((in_once xs a).0 (of_keep (λ y. not (eq_list x y)) (once xs) j).0)) (Memᴰ.cases_cons i),
  λ i. ⊎_elim (λ e. here e) (λ j. go (eq_list x a) refl ((in_once xs a).1 j)) (Memᴰ.cases_cons i),
)
  where
    go : (b : Bool) → eq_list x a ≡ b → In a (once xs) → In a (x ∷ keep_if (λ y. not (eq_list x y)) (once xs))
    go true e j = here (sym (eq_list_eq x a e))
    go false e j = there (in_keep (λ y. not (eq_list x y)) j (rw e))

-- the pairs of two lists
unfoldable pub pairs_of : {A B : Type 0} → List A → List B → List (A × B)
pairs_of xs ys = flat_map (λ x. map (λ y. (x, y)) ys) xs

pub in_pairs : {A B : Type 0} (xs : List A) (ys : List B) (p : A × B) → In p (pairs_of xs ys) ↔ (In p.0 xs × In p.1 ys)
unfolding pairs_of
in_pairs {A} {B} xs ys p = (
  λ i.
      let r = of_flat (λ x. map (λ y. (x, y)) ys) xs i in
      let q = Memᴰ.of_map (λ y. (r.0, y)) ys r.2 in
      (Memᴰ.cast (sym (ap (λ (z : A × B). z.0) q.2)) r.1, Memᴰ.cast (sym (ap (λ (z : A × B). z.1) q.2)) q.1),
  λ h. in_flat (λ x. map (λ y. (x, y)) ys) h.0 (Memᴰ.map (λ y. (p.0, y)) h.1),
)

pub distinct_pairs : {A B : Type 0} (xs : List A) (ys : List B) → Distinct xs → Distinct ys → Distinct (pairs_of xs ys)
unfolding pairs_of
distinct_pairs {A} {B} xs ys d e =
    distinct_flat (λ x. map (λ y. (x, y)) ys) xs d
    (λ x. distinct_map (λ y. (x, y)) (λ y z h. ap (λ (p : A × B). p.1) h) ys e)
    (λ a b p i j. let r = Memᴰ.of_map (λ y. (a, y)) ys i in let q = Memᴰ.of_map (λ y. (b, y)) ys j in ap (λ (z : A × B). z.0) (r.2 ∙ sym q.2))
