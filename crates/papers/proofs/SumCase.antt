-- Weights of pairs of words, computed: T1 has the paths 3:5, 3:5, 3:6 of weights 2, 3 and 4, T2 has 5:9, 6:9, 6:9 of weights 5, 1 and 7. T1(3, 5) = 5, T1(3, 6) = 4, T2(5, 9) = 5,
-- T2(6, 9) = 8, and (T1 ∘ T2)(3, 9) = 5 × 5 + 4 × 8 = 57.
use mathlib.Core.Path.{◌≡◌, refl, sym, subst}
use mathlib.Core.Bool.{true, false, cond, false≢true}
use mathlib.Core.List.Memᴰ
use mathlib.Core.List.Memᴰ.{head as here}
use mathlib.Core.List.Memᴰ.{tail as there}
use mathlib.Core.List.{List, [], ◌∷◌, map, Memᴰ as In, head-eq_of_cons-eq}
use mathlib.Core.Logic.{⊎_elim}
use Rattle.std.specs.Prelude.{Some}
use Rattle.std.proofs.lemmas.Option.{same_Some}
use Prim.Native.Nat.{ℕ}
use native.Mathlib.Omega.{arith}
use lib.ListN.{get_or}
use Rattle.lists.specs.Lists.{Distinct, keep_if, Enumerates}
use Rattle.lists.proofs.Compare.{eq_list}
use Rattle.papers.specs.Machine.{Machine}
use Rattle.papers.specs.Weight.{naturals, count}
use Rattle.papers.specs.Paths.{word, Accepting, AcceptingPath}
use Rattle.papers.specs.Sums.{total, SumIs, PathOf, Weighs, PairOf, weight_of_pair, Middle, ComposedWeighs}
use Rattle.papers.proofs.SemiringLaws.{semiring_laws}
use Rattle.papers.proofs.MiddleWords.{over_middle_words}

-- three transitions from state 0 to state 1, which is final with weight 1
abbrev machine : List ℕ → List ℕ → List ℕ → Machine
machine inputs outputs weights = record {
  states = 2;
  start = Some 0;
  list = λ q. get_or ((1 ∷ 2 ∷ 3 ∷ []) ∷ []) q [];
  input = λ t. get_or inputs t 0;
  output = λ t. get_or outputs t 0;
  weight = λ t. get_or weights t 0;
  target = λ t. 1;
  is_final = λ q. get_or (false ∷ true ∷ []) q false;
  final_weight = λ q. get_or (0 ∷ 1 ∷ []) q 0;
}

abbrev i1 : List ℕ
i1 = 0 ∷ 3 ∷ 3 ∷ 3 ∷ []

abbrev o1 : List ℕ
o1 = 0 ∷ 5 ∷ 5 ∷ 6 ∷ []

abbrev w1 : List ℕ
w1 = 0 ∷ 2 ∷ 3 ∷ 4 ∷ []

abbrev T1 : Machine
T1 = machine i1 o1 w1

abbrev i2 : List ℕ
i2 = 0 ∷ 5 ∷ 6 ∷ 6 ∷ []

abbrev o2 : List ℕ
o2 = 0 ∷ 9 ∷ 9 ∷ 9 ∷ []

abbrev w2 : List ℕ
w2 = 0 ∷ 5 ∷ 1 ∷ 7 ∷ []

abbrev T2 : Machine
T2 = machine i2 o2 w2

-- a number stands for itself
abbrev itself : ℕ → ℕ
itself n = n

abbrev one : ℕ → List ℕ
one t = t ∷ []

-- its accepting paths, and no others
module _ (i o w : List ℕ) where
  from1 : (p : List ℕ) → Accepting naturals itself (machine i o w) 1 p → p ≡ []
  from1 [] h = refl
  from1 (t ∷ p) h = absurd (Memᴰ.not-nil h.0)

  three : (P : List ℕ → Type 0) → P (one 1) → P (one 2) → P (one 3) → (p : List ℕ) → AcceptingPath naturals itself (machine i o w) p → P p
  three P a b d [] (q, s, h) = absurd (false≢true (subst (λ (n : ℕ). get_or (false ∷ true ∷ []) n false ≡ true) (sym (same_Some _ _ s)) h.0))
  three P a b d (t ∷ p) (q, s, h) =
      let h0 = subst (λ (n : ℕ). Accepting naturals itself (machine i o w) n (t ∷ p)) (sym (same_Some _ _ s)) h in
      ⊎_elim (λ e. at e a h0.1)
      (λ j. ⊎_elim (λ e. at e b h0.1) (λ j. ⊎_elim (λ e. at e d h0.1) (λ j. absurd (Memᴰ.not-nil j)) (Memᴰ.cases_cons j)) (Memᴰ.cases_cons j))
      (Memᴰ.cases_cons h0.0)
    where
      at : {k : ℕ} → t ≡ k → P (one k) → Accepting naturals itself (machine i o w) 1 p → P (t ∷ p)
      at e x h = subst P (λ j. sym e j ∷ sym (from1 p h) j) x

  accepts : (t : ℕ) → In t (1 ∷ 2 ∷ 3 ∷ []) → AcceptingPath naturals itself (machine i o w) (one t)
  accepts t j = (0, refl, (j, (refl, λ z. absurd (omega (arith, z)))))

-- what holds of a list of one, and of two
of_one : {A : Type 0} (P : A → Type 0) {x : A} → P x → (a : A) → In a (x ∷ []) → P a
of_one P h a j = ⊎_elim (λ e. subst P (sym e) h) (λ k. absurd (Memᴰ.not-nil k)) (Memᴰ.cases_cons j)

of_two : {A : Type 0} (P : A → Type 0) {x y : A} → P x → P y → (a : A) → In a (x ∷ y ∷ []) → P a
of_two P h k a j = ⊎_elim (λ e. subst P (sym e) h) (λ i. of_one P k a i) (Memᴰ.cases_cons j)

apart : {m n : ℕ} → (m ≡ n → ⊥) → one m ≡ one n → ⊥
apart h e = h (head-eq_of_cons-eq e)

two_apart : {m n : ℕ} → (m ≡ n → ⊥) → Distinct (one m ∷ one n ∷ [])
two_apart {m} h = (λ j. of_one (λ p. one m ≡ p → ⊥) (apart h) _ j refl, (λ j. Memᴰ.not-nil j, tt))

first5 : Weighs naturals itself T1 (one 3) (one 5) 5
unfolding total word keep_if
first5 = (
  one 1 ∷ one 2 ∷ [],
  record {
    once = two_apart (λ e. omega (arith, e));
    exactly = λ p. (
      of_two (PathOf naturals itself T1 (one 3) (one 5)) (accepts i1 o1 w1 1 (here refl), refl, refl) (accepts i1 o1 w1 2 (there (here refl)), refl, refl) p,
      λ h. three i1 o1 w1 (λ p. word (map T1.output p) ≡ one 5 → In p (one 1 ∷ one 2 ∷ [])) (λ e. here refl) (λ e. there (here refl)) (λ e. absurd (apart (λ z. omega (arith, z)) e)) p h.0 h.2,
    );
  },
  refl,
)

first6 : Weighs naturals itself T1 (one 3) (one 6) 4
unfolding total word keep_if
first6 = (
  one 3 ∷ [],
  record {
    once = (λ j. Memᴰ.not-nil j, tt);
    exactly = λ p. (
      of_one (PathOf naturals itself T1 (one 3) (one 6)) (accepts i1 o1 w1 3 (there (there (here refl))), refl, refl) p,
      λ h.
          three i1 o1 w1 (λ p. word (map T1.output p) ≡ one 6 → In p (one 3 ∷ []))
          (λ e. absurd (apart (λ z. omega (arith, z)) e)) (λ e. absurd (apart (λ z. omega (arith, z)) e)) (λ e. here refl) p h.0 h.2,
    );
  },
  refl,
)

second5 : Weighs naturals itself T2 (one 5) (one 9) 5
unfolding total word keep_if
second5 = (
  one 1 ∷ [],
  record {
    once = (λ j. Memᴰ.not-nil j, tt);
    exactly = λ p. (
      of_one (PathOf naturals itself T2 (one 5) (one 9)) (accepts i2 o2 w2 1 (here refl), refl, refl) p,
      λ h.
          three i2 o2 w2 (λ p. word (map T2.input p) ≡ one 5 → In p (one 1 ∷ []))
          (λ e. here refl) (λ e. absurd (apart (λ z. omega (arith, z)) e)) (λ e. absurd (apart (λ z. omega (arith, z)) e)) p h.0 h.1,
    );
  },
  refl,
)

second6 : Weighs naturals itself T2 (one 6) (one 9) 8
unfolding total word keep_if
second6 = (
  one 2 ∷ one 3 ∷ [],
  record {
    once = two_apart (λ e. omega (arith, e));
    exactly = λ p. (
      of_two (PathOf naturals itself T2 (one 6) (one 9)) (accepts i2 o2 w2 2 (there (here refl)), refl, refl) (accepts i2 o2 w2 3 (there (there (here refl))), refl, refl) p,
      λ h.
          three i2 o2 w2 (λ p. word (map T2.input p) ≡ one 6 → In p (one 2 ∷ one 3 ∷ []))
          (λ e. absurd (apart (λ z. omega (arith, z)) e)) (λ e. here refl) (λ e. there (here refl)) p h.0 h.1,
    );
  },
  refl,
)

middles : Enumerates (one 5 ∷ one 6 ∷ []) (Middle naturals itself T1 T2 (one 3) (one 9))
unfolding word keep_if
middles = record {
  once = two_apart (λ e. omega (arith, e));
  exactly = λ z. (
    of_two (Middle naturals itself T1 T2 (one 3) (one 9))
        (one 1, (accepts i1 o1 w1 1 (here refl), refl, refl), (one 1, (accepts i2 o2 w2 1 (here refl), refl, refl)))
        (one 3, (accepts i1 o1 w1 3 (there (there (here refl))), refl, refl), (one 2, (accepts i2 o2 w2 2 (there (here refl)), refl, refl))) z,
    λ m. three i1 o1 w1 (λ p. word (map T1.output p) ≡ z → In z (one 5 ∷ one 6 ∷ [])) (λ e. here (sym e)) (λ e. here (sym e)) (λ e. there (here (sym e))) m.0 m.1.0 m.1.2,
  );
}

-- over the middle words
pub fifty_seven : ComposedWeighs naturals itself T1 T2 (one 3) (one 9) 57
unfolding total eq_list
fifty_seven = record {
  weight1 = λ z. cond (eq_list z (one 5)) 5 4;
  weight2 = λ z. cond (eq_list z (one 5)) 5 8;
  first = λ z m. of_two (λ z. Weighs naturals itself T1 (one 3) z (cond (eq_list z (one 5)) 5 4)) first5 first6 z ((middles.exactly z).1 m);
  second = λ z m. of_two (λ z. Weighs naturals itself T2 z (one 9) (cond (eq_list z (one 5)) 5 8)) second5 second6 z ((middles.exactly z).1 m);
  sum = (one 5 ∷ one 6 ∷ [], middles, refl);
}

-- so over the four pairs
pub over_four : SumIs naturals (PairOf naturals itself T1 T2 (one 3) (one 9)) (weight_of_pair naturals itself T1 T2) 57
over_four = (over_middle_words naturals (semiring_laws count) itself T1 T2 (one 3) (one 9) 57).1 fifty_seven
