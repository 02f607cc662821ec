-- Finite ⊕-sums: they do not depend on the order of the list, so that a sum over what has a property is one element; and the product of two sums is the sum over the pairs. The least of weights.
use mathlib.Core.Path.{◌≡◌, refl, sym, ◌∙◌, ap, ap₂, subst}
use mathlib.Core.List.Memᴰ
use mathlib.Core.List.Memᴰ.{head as here}
use mathlib.Core.List.Memᴰ.{tail as there}
use mathlib.Core.List.{List, [], ◌∷◌, ◌++◌, map, flat_map, Memᴰ as In}
use mathlib.Core.Logic.{⊎_elim}
use Prim.Native.Nat.{ℕ, ◌≤◌, min}
use native.Mathlib.Omega.{arith}
use Rattle.lists.specs.Lists.{Distinct}
use Rattle.lists.proofs.Listed.{pairs_of}
use Rattle.papers.specs.Weight.{Semiring, CommutativeSemiring, Cost, finite, least, tropical}
use Rattle.papers.specs.Sums.{total, SumIs, LeastIs}

-- a member splits its list
splits : {A : Type 0} (a : A) (l : List A) → In a l → (xs : List A) × (ys : List A) × (l ≡ xs ++ (a ∷ ys))
splits a [] i = absurd (Memᴰ.not-nil i)
splits {A} a (x ∷ l) i =
    ⊎_elim (λ e. ([], l, ap (λ (z : A). z ∷ l) (sym e))) (λ j. let r = splits a l j in (x ∷ r.0, r.1, ap (λ (z : List A). x ∷ z) r.2)) (Memᴰ.cases_cons i)

once_split : {A : Type 0} (xs : List A) (a : A) (ys : List A) → Distinct (xs ++ (a ∷ ys)) → Distinct (xs ++ ys) × (In a (xs ++ ys) → ⊥)
once_split [] a ys d = (d.1, d.0)
once_split (x ∷ xs) a ys d =
    let r = once_split xs a ys d.1 in (
      (λ i. d.0 (⊎_elim (λ j. Memᴰ.append_left (a ∷ ys) j) (λ j. Memᴰ.append_right xs (there j)) (Memᴰ.append_cases xs i)), r.0),
      λ i. ⊎_elim (λ e. d.0 (Memᴰ.append_right xs (here (sym e)))) r.1 (Memᴰ.cases_cons i),
    )

module _ (K : Semiring) (L : CommutativeSemiring K) where
  left_comm : (a b c : K.Element) → K.plus a (K.plus b c) ≡ K.plus b (K.plus a c)
  left_comm a b c = sym (L.plus_assoc a b c) ∙ (ap (λ (x : K.Element). K.plus x c) (L.plus_comm a b) ∙ L.plus_assoc b a c)

  total_split : {A : Type 0} (w : A → K.Element) (xs : List A) (a : A) (ys : List A) → total K w (xs ++ (a ∷ ys)) ≡ K.plus (w a) (total K w (xs ++ ys))
  unfolding total
  total_split w [] a ys = refl
  total_split w (x ∷ xs) a ys = ap (K.plus (w x)) (total_split w xs a ys) ∙ left_comm (w x) (w a) (total K w (xs ++ ys))

  -- two lists of the same members, nothing twice in either, have one sum
  same_total : {A : Type 0} (w : A → K.Element) (l m : List A) → Distinct l → Distinct m → ((a : A) → In a l → In a m) → ((a : A) → In a m → In a l) → total K w l ≡ total K w m
  unfolding total
  same_total w [] [] d e f g = refl
  same_total w [] (y ∷ m) d e f g = absurd (Memᴰ.not-nil (g y (here refl)))
  same_total {A} w (x ∷ l) m d e f g =
      let r = splits x m (f x (here refl)) in
      let o = once_split r.0 x r.1 (subst Distinct r.2 e) in
      let t = same_total w l (r.0 ++ r.1) d.1 o.0 (λ a i. onward a i r.0 r.1 r.2 (f a (there i))) (λ a i. back a r.0 r.1 i r.2 o.1) in
      ap (K.plus (w x)) t ∙ (sym (total_split w r.0 x r.1) ∙ ap (total K w) (sym r.2))
    where
      onward : (a : A) → In a l → (xs ys : List A) → m ≡ xs ++ (x ∷ ys) → In a m → In a (xs ++ ys)
      onward a i xs ys q j =
          ⊎_elim (λ k. Memᴰ.append_left ys k)
          (λ k. ⊎_elim (λ z. absurd (d.0 (Memᴰ.cast (sym z) i))) (λ z. Memᴰ.append_right xs z) (Memᴰ.cases_cons k))
          (Memᴰ.append_cases xs (subst (λ z. In a z) q j))

      back : (a : A) → (xs ys : List A) → In a (xs ++ ys) → m ≡ xs ++ (x ∷ ys) → (In x (xs ++ ys) → ⊥) → In a l
      back a xs ys i q n =
          ⊎_elim (λ z. absurd (n (Memᴰ.cast (sym z) i))) (λ z. z)
          (Memᴰ.cases_cons (g a (subst (λ z. In a z) (sym q) (⊎_elim (λ k. Memᴰ.append_left (x ∷ ys) k) (λ k. Memᴰ.append_right xs (there k)) (Memᴰ.append_cases xs i)))))

  -- a sum over what has a property is one element
  pub sum_unique : {A : Type 0} (P : A → Type 0) (w : A → K.Element) (d e : K.Element) → SumIs K P w d → SumIs K P w e → d ≡ e
  sum_unique P w d e (l, f, p) (m, g, q) =
      sym p ∙ (same_total w l m f.once g.once (λ a i. (g.exactly a).1 ((f.exactly a).0 i)) (λ a i. (f.exactly a).1 ((g.exactly a).0 i)) ∙ q)

  -- equal weights have equal sums
  pub total_equal : {A : Type 0} (v w : A → K.Element) (l : List A) → ((a : A) → In a l → v a ≡ w a) → total K v l ≡ total K w l
  unfolding total
  total_equal v w [] h = refl
  total_equal v w (x ∷ l) h = ap₂ K.plus (h x (here refl)) (total_equal v w l (λ a i. h a (there i)))

  pub total_map : {A B : Type 0} (g : A → B) (w : B → K.Element) (l : List A) → total K w (map g l) ≡ total K (λ a. w (g a)) l
  unfolding total
  total_map g w [] = refl
  total_map g w (x ∷ l) = ap (K.plus (w (g x))) (total_map g w l)

  pub total_append : {A : Type 0} (w : A → K.Element) (xs ys : List A) → total K w (xs ++ ys) ≡ K.plus (total K w xs) (total K w ys)
  unfolding total
  total_append w [] ys = sym (L.zero_plus (total K w ys))
  total_append w (x ∷ xs) ys = ap (K.plus (w x)) (total_append w xs ys) ∙ sym (L.plus_assoc (w x) (total K w xs) (total K w ys))

  times_zero : (a : K.Element) → K.times a K.zero ≡ K.zero
  times_zero a = L.times_comm a K.zero ∙ L.zero_times a

  plus_times : (a b c : K.Element) → K.times (K.plus a b) c ≡ K.plus (K.times a c) (K.times b c)
  plus_times a b c = L.times_comm (K.plus a b) c ∙ (L.times_plus c a b ∙ ap₂ K.plus (L.times_comm c a) (L.times_comm c b))

  total_scaled : {A : Type 0} (a : K.Element) (w : A → K.Element) (l : List A) → total K (λ x. K.times a (w x)) l ≡ K.times a (total K w l)
  unfolding total
  total_scaled a w [] = sym (times_zero a)
  total_scaled a w (x ∷ l) = ap (K.plus (K.times a (w x))) (total_scaled a w l) ∙ sym (L.times_plus a (w x) (total K w l))

  -- the product of two sums is the sum over the pairs
  pub total_pairs : {A B : Type 0} (v : A → K.Element) (w : B → K.Element) (xs : List A) (ys : List B)
      → total K (λ p. K.times (v p.0) (w p.1)) (pairs_of xs ys) ≡ K.times (total K v xs) (total K w ys)
  unfolding total pairs_of flat_map
  total_pairs v w [] ys = sym (L.zero_times (total K w ys))
  total_pairs {A} {B} v w (x ∷ xs) ys =
      total_append (λ (p : A × B). K.times (v p.0) (w p.1)) (map (λ y. (x, y)) ys) (pairs_of xs ys)
      ∙ (ap₂ K.plus (total_map (λ y. (x, y)) (λ (p : A × B). K.times (v p.0) (w p.1)) ys ∙ total_scaled (v x) w ys) (total_pairs v w xs ys)
      ∙ sym (plus_times (v x) (total K v xs) (total K w ys)))

  -- the least is one element, too
  pub least_unique : {A : Type 0} (P : A → Type 0) (w : A → K.Element) (d e : K.Element) → LeastIs K P w d → LeastIs K P w e → d ≡ e
  least_unique P w d e x y =
      sym (x.3 y.0 y.1) ∙ (ap (K.plus d) y.2 ∙ (L.plus_comm d e ∙ (ap (K.plus e) (sym x.2) ∙ y.3 x.0 x.1)))

-- under costs no other is below it
pub least_cost : {A : Type 0} (P : A → Type 0) (w : A → Cost) (n m : ℕ) → LeastIs tropical P w (finite n) → (b : A) → P b → w b ≡ finite m → n ≤ m
least_cost P w n m x b p e = let h : finite (min n m) ≡ finite n = ap (least (finite n)) (sym e) ∙ x.3 b p in let z : min n m ≡ n = cc in omega (arith, z)
