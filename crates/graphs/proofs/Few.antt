-- Distinct numbers below n are at most n.
use mathlib.Core.Path.{◌≡◌, refl, sym, ◌∙◌, ap}
use mathlib.Core.List.Memᴰ
use mathlib.Core.List.Memᴰ.{head as here}
use mathlib.Core.List.Memᴰ.{tail as there}
use mathlib.Core.List.{List, [], ◌∷◌, Memᴰ as In}
use mathlib.Core.Logic.{◌⊎◌, inl, inr, ⊎_elim}
use Prim.Native.Nat.{ℕ, zero, suc, ◌≤◌, ◌<◌}
use native.Mathlib.Omega.{arith}
use native.Mathlib.Decide.{ℕ_discrete}
use lib.ListN.{length}
use Rattle.lists.specs.Lists.{Distinct}

-- membership of a list of numbers is decided
pub seek : (a : ℕ) (l : List ℕ) → In a l ⊎ (In a l → ⊥)
seek a [] = inr (λ i. Memᴰ.not-nil i)
seek a (x ∷ xs) = go (ℕ_discrete a x) (seek a xs)
  where
    go : Dec (a ≡ x) → In a xs ⊎ (In a xs → ⊥) → In a (x ∷ xs) ⊎ (In a (x ∷ xs) → ⊥)
    go (yes e) r = inl (here e)
    go (no e) (inl i) = inl (there i)
    go (no e) (inr n) = inr (λ i. ⊎_elim e n (Memᴰ.cases_cons i))

-- a list with one member taken out
without : (a : ℕ) (l : List ℕ) → Distinct l → In a l → (m : List ℕ) × (length l ≡ suc (length m)) × Distinct m × ((x : ℕ) → In x m → In x l × (x ≡ a → ⊥))
without a [] d i = absurd (Memᴰ.not-nil i)
without a (y ∷ ys) d i = ⊎_elim
    (λ e. (ys, refl, d.1, λ x j. (there j, λ z. d.0 (Memᴰ.cast (sym (z ∙ e)) j))))
    (λ j. rest (without a ys d.1 j) j)
    (Memᴰ.cases_cons i)
  where
    rest : (m : List ℕ) × (length ys ≡ suc (length m)) × Distinct m × ((x : ℕ) → In x m → In x ys × (x ≡ a → ⊥)) → In a ys
        → (m : List ℕ) × (suc (length ys) ≡ suc (length m)) × Distinct m × ((x : ℕ) → In x m → In x (y ∷ ys) × (x ≡ a → ⊥))
    rest (m, e, u, h) j = (
      y ∷ m,
      ap suc e,
      (λ k. d.0 (h y k).0, u),
      λ x k. ⊎_elim
          (λ z. (here z, λ q. d.0 (Memᴰ.cast (sym z ∙ q) j)))
          (λ z. (there (h x z).0, (h x z).1))
          (Memᴰ.cases_cons k),
    )

-- distinct numbers below n are at most n
pub few : (n : ℕ) (l : List ℕ) → Distinct l → ((x : ℕ) → In x l → x < n) → length l ≤ n
few zero [] d h = omega arith
few zero (x ∷ xs) d h = absurd (omega (arith, h x (here refl)))
few (suc n) l d h = ⊎_elim
    (λ i. let m = without n l d i in
    let r = few n m.0 m.2 (λ x j. let p = m.3 x j in let q = h x p.0 in let z = p.1 in omega (arith, q, z)) in
    omega (arith, m.1, r))
    (λ u. let r = few n l d (λ x j. let q = h x j in let z : x ≡ n → ⊥ = λ e. u (Memᴰ.cast (sym e) j) in omega (arith, q, z)) in omega (arith, r))
    (seek n l)
