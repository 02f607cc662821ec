-- Links that lead to the next place or end: only the links below the last place count. And a part of a list by its words.
use mathlib.Core.Path.{◌≡◌, refl, sym, ◌∙◌, ap}
use mathlib.Core.List.{List, ◌∷◌}
use mathlib.Core.Logic.{◌⊎◌, inl, inr}
use Prim.Native.Nat.{ℕ, zero, suc, ◌+◌, ◌-◌, ◌≤◌, ◌<◌}
use native.Mathlib.Omega.{arith}
use lib.ListN.{length, take, drop, get_or, length-take, length-drop}
use lib.Seq.{ext_get_or, get_or-take, get_or-drop}
use Rattle.lists.specs.Lists.{linked}

-- the link of a place below `last` ends, or leads to the next place, which is below `last` too
abbrev pub Rises : (ℕ → ℕ) → ℕ → Type 0
Rises next last = (i : ℕ) → i < last → (next i ≡ 0) ⊎ ((next i ≡ i + 2) × (i + 1 < last))

-- fuel for the places from the link up to `last` is enough
pub risen_same : (next other : ℕ → ℕ) (last k j link : ℕ) → Rises next last → ((n : ℕ) → n < last → other n ≡ next n) → link ≤ last → (0 < link → last < k + link) → (0 < link → last < j + link)
    → linked other k link ≡ linked next j link
unfolding linked
risen_same next other last zero zero zero f e h a b = refl
risen_same next other last zero (suc j) zero f e h a b = refl
risen_same next other last zero j (suc p) f e h a b = let r = a (omega arith) in absurd (omega arith)
risen_same next other last (suc k) zero zero f e h a b = refl
risen_same next other last (suc k) zero (suc p) f e h a b = let r = b (omega arith) in absurd (omega arith)
risen_same next other last (suc k) (suc j) zero f e h a b = refl
risen_same next other last (suc k) (suc j) (suc p) f e h a b =
    let q = a (omega arith) in
    let r = b (omega arith) in
    ap (λ (l : List ℕ). p ∷ l) (ap (linked other k) (e p (omega arith)) ∙ go (next p) refl (f p (omega arith)) q r (λ link x y z. risen_same next other last k j link f e x y z))
  where
    go : (link : ℕ) → next p ≡ link → (next p ≡ 0) ⊎ ((next p ≡ p + 2) × (p + 1 < last)) → last < suc k + suc p → last < suc j + suc p
        → ((link : ℕ) → link ≤ last → (0 < link → last < k + link) → (0 < link → last < j + link) → linked other k link ≡ linked next j link)
        → linked other k (next p) ≡ linked next j (next p)
    go link s (inl z) q r rec = rec (next p) (omega (arith, z)) (λ x. absurd (omega (arith, x, z))) (λ x. absurd (omega (arith, x, z)))
    go link s (inr z) q r rec = rec (next p) (omega (arith, z.0, z.1)) (λ x. omega (arith, z.0, q)) (λ x. omega (arith, z.0, r))

-- the places along rising links stay below `last`
pub risen_within : (next : ℕ → ℕ) (last k link : ℕ) → Rises next last → link ≤ last → length (linked next k link) + (link - 1) ≤ last
unfolding linked
risen_within next last zero link f h = omega arith
risen_within next last (suc k) zero f h = omega arith
risen_within next last (suc k) (suc p) f h = go (f p (omega arith)) (λ link x. risen_within next last k link f x)
  where
    none' : (k : ℕ) → length (linked next k 0) ≡ 0
    none' zero = refl
    none' (suc k) = refl

    go : (next p ≡ 0) ⊎ ((next p ≡ p + 2) × (p + 1 < last)) → ((link : ℕ) → link ≤ last → length (linked next k link) + (link - 1) ≤ last) → suc (length (linked next k (next p))) + (suc p - 1) ≤ last
    go (inl z) rec = let q : length (linked next k (next p)) ≡ 0 = ap (λ link. length (linked next k link)) z ∙ none' k in omega (arith, q, h)
    go (inr z) rec = let q = rec (next p) (omega (arith, z.0, z.1)) in omega (arith, q, z.0)

-- a part of two lists that hold the same words up to its end
pub part_same : (l r : List ℕ) (n a k : ℕ) → a + k ≤ n → n ≤ length l → n ≤ length r → ((i : ℕ) → i < n → get_or l i 0 ≡ get_or r i 0) → take k (drop a l) ≡ take k (drop a r)
part_same l r n a k h p q e =
    let p' : length (take k (drop a l)) ≡ k = omega (arith, length-take k (drop a l), length-drop a l) in
    let q' : length (take k (drop a r)) ≡ k = omega (arith, length-take k (drop a r), length-drop a r) in
    ext_get_or 0 (take k (drop a l)) (take k (drop a r)) (p' ∙ sym q')
    (λ i u. let v : i < k = omega (arith, u, p') in
    (get_or-take k (drop a l) i 0 v ∙ get_or-drop a l i 0) ∙ (e (a + i) (omega (arith, v, h)) ∙ sym (get_or-take k (drop a r) i 0 v ∙ get_or-drop a r i 0)))
