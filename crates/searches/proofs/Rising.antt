-- Links that rise, or are 0, make a Linked graph: what Linked asks of the leaves that read first and next.
use mathlib.Core.Path.{◌≡◌, refl, sym, ◌∙◌, ap, subst}
use mathlib.Core.Bool.{Bool, cond}
use mathlib.Core.List.Memᴰ
use mathlib.Core.List.{List, [], ◌∷◌, Memᴰ as In}
use mathlib.Core.Logic.{◌⊎◌, ⊎_elim}
use Prim.Native.Nat.{ℕ, zero, suc, ◌+◌, ◌*◌, ◌≤◌, ◌<◌}
use native.Mathlib.Omega.{arith}
use native.Mathlib.Nat.{suc-mul}
use lib.ListN.{length}
use Rattle.searches.specs.UsefulSearch.{Links, status_in, start_of, run_of}
use Rattle.searches.specs.StoreLinks.{along}
use Rattle.searches.proofs.Ties.{Linked}
use Rattle.searches.proofs.Whole.{Marked, search_marks}

pub along_zero : (next : ℕ → ℕ) (k : ℕ) → along next k 0 ≡ []
unfolding along
along_zero next zero = refl
along_zero next (suc k) = refl

module _ (next : ℕ → ℕ) (last : ℕ) (rises : (r : ℕ) → 0 < r → (next r ≡ 0) ⊎ ((r < next r) × (next r ≤ last))) where
  more : (k r : ℕ) → r ≤ last → last < k + r → along next k r ≡ along next (suc k) r
  unfolding along
  more zero r a b = absurd (omega arith)
  more (suc k) zero a b = refl
  more (suc k) (suc r) a b = ap (λ (l : List ℕ). suc r ∷ l) (⊎_elim
      (λ e. subst (λ z. along next k z ≡ along next (suc k) z) (sym e) (along_zero next k))
      (λ e. let x = e.0 in let y = e.1 in more k (next (suc r)) y (omega (arith, x, y)))
      (rises (suc r) (omega arith)))

  -- with room for all records, a list is its first record and the list from the next one on
  pub turn : (r : ℕ) → 0 < r → along next (suc last) r ≡ r ∷ along next (suc last) (next r)
  unfolding along
  turn zero h = absurd (omega arith)
  turn (suc r) h = ap (λ (l : List ℕ). suc r ∷ l) (⊎_elim
      (λ e. subst (λ z. along next last z ≡ along next (suc last) z) (sym e) (along_zero next last))
      (λ e. let x = e.0 in let y = e.1 in more last (next (suc r)) y (omega (arith, x, y)))
      (rises (suc r) h))

  within : (k r : ℕ) → r ≤ last → (q : ℕ) → In q (along next k r) → (0 < q) × (q ≤ last)
  unfolding along
  within zero r a q i = absurd (Memᴰ.not-nil i)
  within (suc k) zero a q i = absurd (Memᴰ.not-nil i)
  within (suc k) (suc r) a q i = ⊎_elim
      (λ e. (omega (arith, e), omega (arith, e, a)))
      (λ j. ⊎_elim
      (λ e. absurd (Memᴰ.not-nil (subst (λ (l : List ℕ). In q l) (ap (λ z. along next k z) e ∙ along_zero next k) j)))
      (λ e. within k (next (suc r)) e.1 q j)
      (rises (suc r) (omega arith)))
      (Memᴰ.cases_cons i)

  short : (k r : ℕ) → 0 < r → r ≤ last → length (along next k r) + r ≤ suc last
  unfolding along
  short zero r a b = omega arith
  short (suc k) zero a b = absurd (omega arith)
  short (suc k) (suc r) a b = ⊎_elim
      (λ e. let z : length (along next k (next (suc r))) ≡ 0 = ap (λ y. length (along next k y)) e ∙ ap length (along_zero next k) in omega (arith, z))
      (λ e. let x = e.0 in let y = e.1 in let z = short k (next (suc r)) (omega (arith, x)) y in omega (arith, x, y, z))
      (rises (suc r) (omega arith))

  shorter : (k r : ℕ) → r ≤ last → length (along next k r) ≤ last
  shorter k zero a = let z = ap length (along_zero next k) in omega (arith, z)
  shorter k (suc r) a = let z = short k (suc r) (omega arith) a in omega (arith, z)

pub rising_linked : (L : Links) (n last : ℕ) → ((r : ℕ) → 0 < r → (L.next r ≡ 0) ⊎ ((r < L.next r) × (L.next r ≤ last))) → ((x : ℕ) → L.first x ≤ last)
    → ((r : ℕ) → 0 < r → r ≤ last → L.target r < n) → last < 16777216 → n ≤ 16777216 → Linked L (λ r. along L.next (suc last) r) n
unfolding along
rising_linked L n last rises firsts targets e m = record {
  none = refl;
  some = λ r h. turn L.next last rises r h;
  target_below = λ x r i. let z = within L.next last rises (suc last) (L.first x) (firsts x) r i in targets r z.0 z.1;
  record_below = λ x r i. let z = (within L.next last rises (suc last) (L.first x) (firsts x) r i).1 in omega (arith, z, e);
  small = m;
}

-- the whole, for links that rise, with the code's fuel
pub useful_marked : (L : Links) (fin : ℕ → Bool) (n last : ℕ) → ((r : ℕ) → 0 < r → (L.next r ≡ 0) ⊎ ((r < L.next r) × (L.next r ≤ last))) → ((x : ℕ) → L.first x ≤ last)
    → ((r : ℕ) → 0 < r → r ≤ last → L.target r < n) → last < 16777216 → n ≤ 16777216 → 0 < n → (w : List ℕ) → 2 * n ≤ length w → ((x : ℕ) → x < n → status_in w x ≡ cond (fin x) 4 0)
    → Marked L (λ r. along L.next (suc last) r) fin n (run_of L (suc n * (last + 2)) (start_of L w))
useful_marked L fin n last rises firsts targets e m pos w long marks =
    search_marks L (λ r. along L.next (suc last) r) fin n last (suc n * (last + 2)) (rising_linked L n last rises firsts targets e m) pos
    (λ x l. shorter L.next last rises (suc last) (L.first x) (firsts x)) (omega (arith, suc-mul n (last + 2))) w long marks
