-- Laws of the columns as stacks: what a write above the top leaves, and what stands where.
use mathlib.Core.Path.{◌≡◌, sym, ◌∙◌, ap, subst}
use mathlib.Core.List.Memᴰ
use mathlib.Core.List.Memᴰ.{head as here}
use mathlib.Core.List.Memᴰ.{tail as there}
use mathlib.Core.List.{List, [], ◌∷◌, ◌++◌, Memᴰ as In}
use mathlib.Core.Logic.{⊎_elim}
use Prim.Native.Nat.{ℕ, suc, ◌+◌, ◌≤◌, ◌<◌}
use native.Mathlib.Omega.{arith}
use native.Mathlib.Decide.{ℕ_discrete}
use lib.ListN.{length, length-append}
use Rattle.searches.proofs.Search.{flat, Along}
use Rattle.searches.specs.UsefulSearch.{Links}
use Rattle.searches.proofs.Ties.{update, settled, Opened, Bounds, Below}
use Rattle.searches.proofs.Columns.{update_other, settle_hit, settle_miss}

-- every frame holds a state
pub frames_few : (alive ps : List ℕ) (fs : List (List ℕ)) → Along alive ps fs → length fs ≤ length (flat fs)
frames_few alive ps [] a = omega arith
frames_few alive ps (f ∷ fs) (qs, x, rest, g, e, d, h, a) =
    let r = frames_few alive rest fs a in
    let l : length f ≡ length g + 1 = ap length d ∙ length-append g (x ∷ []) in
    omega (arith, length-append f (flat fs), r, l)

module _ (L : Links) (from : ℕ → List ℕ) where
  pub below_put : (cur : ℕ → ℕ) (d s i v : ℕ) (p : List (ℕ × List ℕ)) → d ≤ i → Below L from cur d s p → Below L from (update cur i v) d s p
  below_put cur d s i v [] h b = b
  below_put cur d s i v (e ∷ p) h (k, u, t, l, b) =
      let same : update cur i v k ≡ cur k = update_other cur i v k (λ z. omega arith) in
      (k, u, t ∙ ap L.target (sym same), l ∙ ap (λ z. from (L.next z)) (sym same), below_put cur k e.0 i v p (omega arith) b)

  pub depth : (cur : ℕ → ℕ) (d s : ℕ) (p : List (ℕ × List ℕ)) → Below L from cur d s p → d ≡ length p
  depth cur d s [] b = b.0
  depth cur d s (e ∷ p) (k, u, t, l, b) = u ∙ ap suc (depth cur k e.0 p b)

module _ (op pl : ℕ → ℕ) where
  pub opened_put : (o t v u : ℕ) (xs : List ℕ) → length xs ≤ o → (In t xs → ⊥) → Opened op pl xs → Opened (update op o v) (update pl t u) xs
  opened_put o t v u [] h n a = tt
  opened_put o t v u (x ∷ xs) h n (a, b, c) =
      (update_other op o v (length xs) (λ z. omega arith) ∙ a, update_other pl t u x (λ z. n (here (sym z))) ∙ b, opened_put o t v u xs (omega arith) (λ i. n (there i)) c)

  pub opened_tail : (f xs : List ℕ) → Opened op pl (f ++ xs) → Opened op pl xs
  opened_tail [] xs a = a
  opened_tail (x ∷ f) xs a = opened_tail f xs a.2

  pub opened_at : (xs : List ℕ) → Opened op pl xs → (x : ℕ) → In x xs → (op (pl x) ≡ x) × (pl x < length xs)
  opened_at [] a x i = absurd (Memᴰ.not-nil i)
  opened_at (y ∷ xs) (a, b, c) x i = ⊎_elim
      (λ e. (subst (λ z. op (pl z) ≡ z) (sym e) (ap op b ∙ a), subst (λ z. pl z < suc (length xs)) (sym e) (omega arith)))
      (λ j. let r = opened_at xs c x j in (r.0, omega (arith, r.1)))
      (Memᴰ.cases_cons i)

  pub opened_front : (f xs : List ℕ) → Opened op pl (f ++ xs) → (x : ℕ) → In x f → length xs ≤ pl x
  opened_front [] xs a x i = absurd (Memᴰ.not-nil i)
  opened_front (y ∷ f) xs (a, b, c) x i = ⊎_elim
      (λ e. subst (λ z. length xs ≤ pl z) (sym e) (omega (arith, b, length-append f xs)))
      (λ j. opened_front f xs c x j)
      (Memᴰ.cases_cons i)

  pub opened_range : (f xs : List ℕ) → Opened op pl (f ++ xs) → (k : ℕ) → length xs ≤ k → k < length (f ++ xs) → In (op k) f
  opened_range [] xs a k h l = absurd (omega arith)
  opened_range (y ∷ f) xs (a, b, c) k h l = go (ℕ_discrete k (length (f ++ xs))) (λ m. opened_range f xs c k h m)
    where
      go : Dec (k ≡ length (f ++ xs)) → (k < length (f ++ xs) → In (op k) f) → In (op k) (y ∷ f)
      go (yes e) r = here (ap op e ∙ a)
      go (no e) r = there (r (omega arith))

pub bounds_put : (bd : ℕ → ℕ) (i v : ℕ) (fs : List (List ℕ)) → length fs ≤ i → Bounds bd fs → Bounds (update bd i v) fs
bounds_put bd i v [] h a = tt
bounds_put bd i v (f ∷ fs) h (a, b) = (update_other bd i v (length fs) (λ z. omega arith) ∙ a, bounds_put bd i v fs (omega arith) b)

-- settling the places of f, above those of xs
module _ (st op pl : ℕ → ℕ) (f xs : List ℕ) (a : Opened op pl (f ++ xs)) (v p m : ℕ) (e : p ≡ length xs) (u : p + m ≡ length (f ++ xs)) where
  pub settled_in : (x : ℕ) → In x f → settled st op v p m x ≡ v
  settled_in x i =
      let z = opened_at op pl (f ++ xs) a x (Memᴰ.append_left xs i) in
      let y = opened_front op pl f xs a x i in
      let q = z.1 in
      subst (λ k. settled st op v p m k ≡ v) z.0 (settle_hit st op v p m (pl x) (omega arith) (omega arith))

  pub settled_out : (x : ℕ) → (In x f → ⊥) → settled st op v p m x ≡ st x
  settled_out x n = settle_miss st op v p m x (λ k b c d. n (Memᴰ.cast d (opened_range op pl f xs a k (omega arith) (omega arith))))
