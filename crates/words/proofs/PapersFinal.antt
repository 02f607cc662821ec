-- The final weight of a composed state: the papers' product, none just where one of both states is not final or has the weight zero, refused just where it is too large.
use mathlib.Core.Path.{◌≡◌, refl, sym, ◌∙◌, ap, subst}
use mathlib.Core.Bool.{Bool, true, false, ◌&&◌, cond, true≢false}
use mathlib.Core.Logic.{◌≢◌, ◌⊎◌, inl, inr, ⊎_elim}
use Rattle.std.specs.Prelude.{Option, None, Some}
use Rattle.std.proofs.lemmas.Option.{none-some, same_Some}
use Prim.Native.Nat.{ℕ, ◌≤◌}
use Rattle.papers.specs.Machine.{Machine}
use Rattle.papers.specs.Weight.{semiring}
use Rattle.papers.specs.Composition.{Triple, final_product}
use Rattle.papers.proofs.SemiringLaws.{semiring_laws}
use Rattle.words.specs.Labels.{MAX, Checked, good, refused}
use Rattle.words.specs.Weights.{Kind, is_zero, times}
use Rattle.words.specs.Steps.{Composition, unless_zero, final_at}
use Rattle.words.specs.AsPapers.{exact, TooLarge, composed_of}
use Rattle.words.specs.Links.{NoEnd, FinalExactly}
use Rattle.words.proofs.PapersWeights.{times_some, times_none, exact_word, exact_zero, too_large_for_words, too_large_zero}
use Rattle.words.proofs.CheckedLaws.{refused_is, good_is, good≢refused}

-- the four answers
data Answer (k : Kind) (M N : Machine) (q1 q2 : ℕ) (e : (semiring k).Element) (r : Checked (Option ℕ)) : Type 0 where
  not_final : (M.is_final q1 ≡ false) ⊎ (N.is_final q2 ≡ false) → r ≡ good None → Answer k M N q1 q2 e r
  zero_weight : (M.is_final q1 ≡ true) × (N.is_final q2 ≡ true) → e ≡ (semiring k).zero → r ≡ good None → Answer k M N q1 q2 e r
  weight : (w : ℕ) → (M.is_final q1 ≡ true) × (N.is_final q2 ≡ true) → e ≢ (semiring k).zero → exact k w ≡ e → w ≤ MAX → r ≡ good (Some w) → Answer k M N q1 q2 e r
  too_large_lem : (M.is_final q1 ≡ true) × (N.is_final q2 ≡ true) → TooLarge k e → r ≡ refused 12 → Answer k M N q1 q2 e r

module _ (c : Composition) (s : Triple) where
  abbrev k : Kind
  k = c.kind

  abbrev M : Machine
  M = c.operand1.machine

  abbrev N : Machine
  N = c.operand2.machine

  abbrev e : (semiring c.kind).Element
  e = final_product (semiring c.kind) (exact c.kind) (composed_of c) s.s1 s.s2

  abbrev Answers : Checked (Option ℕ) → Type 0
  Answers r = Answer k M N s.s1 s.s2 e r

  weighed : (o : Option ℕ) → times k (M.final_weight s.s1) (N.final_weight s.s2) ≡ o → (M.is_final s.s1 ≡ true) × (N.is_final s.s2 ≡ true) → Answers (unless_zero k o)
  weighed None h f = too_large_lem f ((times_none k _ _).0 h) refl
  weighed (Some w) h f = go (is_zero k w) refl
    where
      p : (exact c.kind w ≡ e) × (w ≤ MAX)
      p = (times_some c.kind (M.final_weight s.s1) (N.final_weight s.s2) w).0 h

      go : (b : Bool) → is_zero c.kind w ≡ b → Answers (good (cond b None (Some w)))
      go true z = zero_weight f (sym p.0 ∙ (exact_zero c.kind w).0 z) refl
      go false z = weight w f (λ y. true≢false (sym ((exact_zero c.kind w).1 (p.0 ∙ y)) ∙ z)) p.0 p.1 refl

  answer : Answers (final_at c s)
  unfolding final_at
  answer = go (M.is_final s.s1) (N.is_final s.s2) refl refl
    where
      go : (a b : Bool) → M.is_final s.s1 ≡ a → N.is_final s.s2 ≡ b → Answers (cond (a && b) (unless_zero k (times k (M.final_weight s.s1) (N.final_weight s.s2))) (good None))
      go true true x y = weighed (times k (M.final_weight s.s1) (N.final_weight s.s2)) refl (x, y)
      go true false x y = not_final (inr y) refl
      go false b x y = not_final (inl x) refl

  -- a state that ends no path makes the product zero, or is not final
  no_ends : (M.is_final s.s1 ≡ true) × (N.is_final s.s2 ≡ true) → NoEnd k M s.s1 ⊎ NoEnd k N s.s2 → e ≡ (semiring k).zero
  no_ends f h =
      ⊎_elim
      (λ a. ⊎_elim (λ x. absurd (true≢false (sym f.0 ∙ x))) (λ z. ((semiring_laws k).zero_product (exact k (M.final_weight s.s1)) (exact k (N.final_weight s.s2))).1 (inl z)) a)
      (λ a. ⊎_elim (λ x. absurd (true≢false (sym f.1 ∙ x))) (λ z. ((semiring_laws k).zero_product (exact k (M.final_weight s.s1)) (exact k (N.final_weight s.s2))).1 (inr z)) a)
      h

  None≢Some : {w : ℕ} → ◌≡◌ {A = Checked (Option ℕ)} (good None) (good (Some w)) → ⊥
  None≢Some h = none-some _ (good_is h)

  by_answer : (r : Checked (Option ℕ)) → Answers r → FinalExactly c s r
  by_answer r (not_final f h) = record {
    none_where = (λ x. ⊎_elim (λ y. inl (inl y)) (λ y. inr (inl y)) f, λ x. h);
    some_where = λ w. (λ x. absurd (None≢Some (sym h ∙ x)), λ x. absurd (not_both f x.0.0));
    refused_where = λ n. (λ x. absurd (good≢refused (sym h ∙ x)), λ x. absurd (not_both f x.1));
  }
    where
      not_both : (M.is_final s.s1 ≡ false) ⊎ (N.is_final s.s2 ≡ false) → (M.is_final s.s1 ≡ true) × (N.is_final s.s2 ≡ true) → ⊥
      not_both (inl y) g = true≢false (sym g.0 ∙ y)
      not_both (inr y) g = true≢false (sym g.1 ∙ y)
  by_answer r (zero_weight f z h) = record {
    none_where = (
      λ x. ⊎_elim (λ y. inl (inr y)) (λ y. inr (inr y)) (((semiring_laws k).zero_product (exact k (M.final_weight s.s1)) (exact k (N.final_weight s.s2))).0 z),
      λ x. h,
    );
    some_where = λ w. (λ x. absurd (None≢Some (sym h ∙ x)), λ x. absurd (x.0.1 z));
    refused_where = λ n. (λ x. absurd (good≢refused (sym h ∙ x)), λ x. absurd (too_large_zero k (rw z at x.2)));
  }
  by_answer r (weight v f z d l h) = record {
    none_where = (λ x. absurd (None≢Some (sym x ∙ h)), λ x. absurd (z (no_ends f x)));
    some_where = λ w. (
      λ x. let y : v ≡ w = same_Some _ _ (good_is (sym h ∙ x)) in ((f, z), subst (λ (u : ℕ). exact k u ≡ e) y d, subst (λ (u : ℕ). u ≤ MAX) y l),
      λ x. h ∙ ap (λ (u : ℕ). good (Some u)) (exact_word k v w (d ∙ sym x.1)),
    );
    refused_where = λ n. (λ x. absurd (good≢refused (sym h ∙ x)), λ x. absurd (too_large_for_words k v l (rw d x.2)));
  }
  by_answer r (too_large_lem f t h) = record {
    none_where = (λ x. absurd (good≢refused (sym x ∙ h)), λ x. absurd (too_large_zero k (rw (no_ends f x) at t)));
    some_where = λ w. (λ x. absurd (good≢refused (sym x ∙ h)), λ x. absurd (too_large_for_words k w x.2 (rw x.1 t)));
    refused_where = λ n. (λ x. (refused_is (sym x ∙ h), f, t), λ x. h ∙ ap refused (sym x.0));
  }

  pub final_as_papers : FinalExactly c s (final_at c s)
  final_as_papers = by_answer (final_at c s) answer
