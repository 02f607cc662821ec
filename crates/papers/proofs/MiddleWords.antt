-- MPR's equation, of two machines: the ⊕-sum over the pairs of accepting paths x:z, z:y is the ⊕-sum over the middle words z of T1(x, z) ⊗ T2(z, y). The pairs are listed middle word
-- by middle word; and a list of the pairs gives lists of the middle words and of both machines' paths.
use mathlib.Core.Path.{◌≡◌, refl, sym, ◌∙◌, ap₂, subst}
use mathlib.Core.List.Memᴰ
use mathlib.Core.List.Memᴰ.{head as here}
use mathlib.Core.List.Memᴰ.{tail as there}
use mathlib.Core.List.{List, [], ◌∷◌, ◌++◌, map, Memᴰ as In}
use mathlib.Core.Logic.{◌↔◌, ⊎_elim}
use Prim.Native.Nat.{ℕ}
use Rattle.lists.specs.Lists.{Distinct, keep_if, Enumerates}
use Rattle.lists.proofs.Members.{in_keep, of_keep}
use Rattle.lists.proofs.Once.{distinct_append}
use Rattle.lists.proofs.Compare.{eq_list, eq_list_eq, eq_eq_list}
use Rattle.lists.proofs.Listed.{once, once_distinct, in_once, pairs_of, in_pairs, distinct_pairs}
use Rattle.papers.specs.Machine.{Machine}
use Rattle.papers.specs.Weight.{Semiring, CommutativeSemiring}
use Rattle.papers.specs.Paths.{word}
use Rattle.papers.specs.Sums.{total, SumIs, PathOf, weight_of_path, PairOf, weight_of_pair, Middle, ComposedWeighs}
use Rattle.papers.proofs.SumLaws.{sum_unique, total_append, total_pairs}

module _ (K : Semiring) (L : CommutativeSemiring K) (value : ℕ → K.Element) (A B : Machine) (x y : List ℕ) where
  abbrev Pairs : List ℕ × List ℕ → Type 0
  Pairs p = PairOf K value A B x y p

  -- the middle word of a pair
  abbrev mid : List ℕ × List ℕ → List ℕ
  mid p = word (map A.output p.0)

  middle : (p : List ℕ × List ℕ) → Pairs p → Middle K value A B x y (mid p)
  middle p h = subst (Middle K value A B x y) (sym h.1.2) (p.0, h.1, (p.1, h.2))

  module _ (e : K.Element) (C : ComposedWeighs K value A B x y e) where
    abbrev product : List ℕ → K.Element
    product z = K.times (C.weight1 z) (C.weight2 z)

    -- the pairs with one of these middle words
    by_words : (zs : List (List ℕ)) → Distinct zs → ((z : List ℕ) → In z zs → Middle K value A B x y z)
        → (l : List (List ℕ × List ℕ)) × Enumerates l (λ p. Pairs p × In (mid p) zs) × (total K (weight_of_pair K value A B) l ≡ total K product zs)
    unfolding total
    by_words [] d m = ([], record { once = tt; exactly = λ p. (λ i. absurd (Memᴰ.not-nil i), λ h. absurd (Memᴰ.not-nil h.1)) }, refl)
    by_words (z ∷ zs) d m =
        let r = by_words zs d.1 (λ a i. m a (there i)) in
        let f = C.first z (m z (here refl)) in
        let s = C.second z (m z (here refl)) in
        join f.0 s.0 r.0 f.1 s.1 r.1
        (total_append K L (weight_of_pair K value A B) (pairs_of f.0 s.0) r.0
        ∙ ap₂ K.plus (total_pairs K L (weight_of_path K value A) (weight_of_path K value B) f.0 s.0 ∙ ap₂ K.times f.2 s.2) r.2)
      where
        join : (ps qs : List (List ℕ)) (l : List (List ℕ × List ℕ)) → Enumerates ps (PathOf K value A x z) → Enumerates qs (PathOf K value B z y) → Enumerates l (λ p. Pairs p × In (mid p) zs)
            → total K (weight_of_pair K value A B) (pairs_of ps qs ++ l) ≡ K.plus (product z) (total K product zs)
            → (l : List (List ℕ × List ℕ)) × Enumerates l (λ p. Pairs p × In (mid p) (z ∷ zs)) × (total K (weight_of_pair K value A B) l ≡ K.plus (product z) (total K product zs))
        join ps qs l f s r t = (
          pairs_of ps qs ++ l,
          record {
            once = distinct_append (pairs_of ps qs) l (distinct_pairs ps qs f.once s.once) r.once (λ p i j. d.0 (Memᴰ.cast (sym (at_z p i)) ((r.exactly p).0 j).1));
            exactly = λ p. (
              λ i. ⊎_elim (λ j. let q = (in_pairs ps qs p).0 j in ((z, (f.exactly _).0 q.0, (s.exactly _).0 q.1), here (at_z p j))) (λ j. let q = (r.exactly p).0 j in (q.0, there q.1)) (Memᴰ.append_cases (pairs_of ps qs) i),
              λ h. ⊎_elim (λ q. Memᴰ.append_left l (put p h.0 q)) (λ q. Memᴰ.append_right (pairs_of ps qs) ((r.exactly p).1 (h.0, q))) (Memᴰ.cases_cons h.1),
            );
          },
          t,
        )
          where
            at_z : (p : List ℕ × List ℕ) → In p (pairs_of ps qs) → mid p ≡ z
            at_z p i = ((f.exactly p.0).0 ((in_pairs ps qs p).0 i).0).2

            put : (p : List ℕ × List ℕ) → Pairs p → mid p ≡ z → In p (pairs_of ps qs)
            put p h q =
                let k : h.0 ≡ z = sym h.1.2 ∙ q in
                (in_pairs ps qs p).1 ((f.exactly p.0).1 (subst (λ u. PathOf K value A x u p.0) k h.1), (s.exactly p.1).1 (subst (λ u. PathOf K value B u y p.1) k h.2))

    -- all of them
    pub over_pairs : SumIs K (PairOf K value A B x y) (weight_of_pair K value A B) e
    over_pairs =
        let S = C.sum in
        let r = by_words S.0 S.1.once (λ z i. (S.1.exactly z).0 i) in (
          r.0,
          record { once = r.1.once; exactly = λ p. (λ i. ((r.1.exactly p).0 i).0, λ h. (r.1.exactly p).1 (h, (S.1.exactly (mid p)).1 (middle p h))) },
          r.2 ∙ S.2,
        )

  module _ (l : List (List ℕ × List ℕ)) (E : Enumerates l Pairs) where
    -- the pairs of the middle word z
    abbrev of : List ℕ → List (List ℕ × List ℕ)
    of z = keep_if (λ p. eq_list (mid p) z) l

    in_of : (z : List ℕ) (p : List ℕ × List ℕ) → In p (of z) ↔ (PathOf K value A x z p.0 × PathOf K value B z y p.1)
    in_of z p = (
      λ i.
          let r = of_keep (λ p. eq_list (mid p) z) l i in
          let h = (E.exactly p).0 r.0 in
          let k : h.0 ≡ z = sym h.1.2 ∙ eq_list_eq (mid p) z r.1 in
          (subst (λ u. PathOf K value A x u p.0) k h.1, subst (λ u. PathOf K value B u y p.1) k h.2),
      λ h. in_keep (λ p. eq_list (mid p) z) ((E.exactly p).1 (z, h.0, h.1)) (eq_eq_list (mid p) z h.0.2),
    )

    abbrev firsts : List ℕ → List (List ℕ)
    firsts z = once (map (λ p. p.0) (of z))

    abbrev seconds : List ℕ → List (List ℕ)
    seconds z = once (map (λ p. p.1) (of z))

    abbrev mids : List (List ℕ)
    mids = once (map mid l)

    all_firsts : (z : List ℕ) → Middle K value A B x y z → Enumerates (firsts z) (PathOf K value A x z)
    all_firsts z m = record {
      once = once_distinct (map (λ p. p.0) (of z));
      exactly = λ p. (
        λ i. let r = Memᴰ.of_map (λ (q : List ℕ × List ℕ). q.0) (of z) ((in_once (map (λ p. p.0) (of z)) p).0 i) in subst (PathOf K value A x z) r.2 ((in_of z r.0).0 r.1).0,
        λ h. (in_once (map (λ p. p.0) (of z)) p).1 (Memᴰ.map (λ (q : List ℕ × List ℕ). q.0) ((in_of z (p, m.2.0)).1 (h, m.2.1))),
      );
    }

    all_seconds : (z : List ℕ) → Middle K value A B x y z → Enumerates (seconds z) (PathOf K value B z y)
    all_seconds z m = record {
      once = once_distinct (map (λ p. p.1) (of z));
      exactly = λ q. (
        λ i. let r = Memᴰ.of_map (λ (q : List ℕ × List ℕ). q.1) (of z) ((in_once (map (λ p. p.1) (of z)) q).0 i) in subst (PathOf K value B z y) r.2 ((in_of z r.0).0 r.1).1,
        λ h. (in_once (map (λ p. p.1) (of z)) q).1 (Memᴰ.map (λ (q : List ℕ × List ℕ). q.1) ((in_of z (m.0, q)).1 (m.1, h))),
      );
    }

    all_mids : Enumerates mids (Middle K value A B x y)
    all_mids = record {
      once = once_distinct (map mid l);
      exactly = λ z. (
        λ i. let r = Memᴰ.of_map mid l ((in_once (map mid l) z).0 i) in subst (Middle K value A B x y) r.2 (middle r.0 ((E.exactly r.0).0 r.1)),
        λ m. (in_once (map mid l) z).1 (Memᴰ.cast (sym m.1.2) (Memᴰ.map mid ((E.exactly (m.0, m.2.0)).1 (z, m.1, m.2.1)))),
      );
    }

    listed : ComposedWeighs K value A B x y (total K (λ z. K.times (total K (weight_of_path K value A) (firsts z)) (total K (weight_of_path K value B) (seconds z))) mids)
    listed = record {
      weight1 = λ z. total K (weight_of_path K value A) (firsts z);
      weight2 = λ z. total K (weight_of_path K value B) (seconds z);
      first = λ z m. (firsts z, all_firsts z m, refl);
      second = λ z m. (seconds z, all_seconds z m, refl);
      sum = (mids, all_mids, refl);
    }

  -- MPR's equation
  pub over_middle_words : (e : K.Element) → SumIs K (PairOf K value A B x y) (weight_of_pair K value A B) e ↔ ComposedWeighs K value A B x y e
  over_middle_words e = (
    λ h.
        let C = listed h.0 h.1 in
        subst (ComposedWeighs K value A B x y) (sum_unique K L Pairs (weight_of_pair K value A B) _ e (over_pairs _ C) h) C,
    over_pairs e,
  )

  -- the composed weight of a pair of words is one element
  pub composed_unique : (d e : K.Element) → ComposedWeighs K value A B x y d → ComposedWeighs K value A B x y e → d ≡ e
  composed_unique d e C D = sum_unique K L Pairs (weight_of_pair K value A B) d e (over_pairs d C) (over_pairs e D)
