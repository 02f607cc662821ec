-- The look-up of a label that is neither 0 nor MAX, as a relation: the transitions with that label as they stand, and the sigma transitions, if the label is allowed.
use mathlib.Core.Path.{◌≡◌, refl, sym, ◌∙◌, ap}
use mathlib.Core.Bool.{Bool, true, false, not, ◌&&◌, cond, false≢true}
use mathlib.Core.List.Memᴰ
use mathlib.Core.List.{List, [], ◌∷◌, ◌++◌, map, Memᴰ as In}
use mathlib.Core.Logic.{◌≢◌, ◌⊎◌, inl, inr, ⊎_elim}
use Prim.Native.Nat.{ℕ}
use lib.Dec.{eqb}
use borrow.Author.Tests.{eqb-true, eqb-false, eq-eqb, ne_eqb, not-true}
use Rattle.lists.specs.Lists.{Distinct}
use Rattle.lists.proofs.Members.{and_left, and_right, in_keep, of_keep}
use Rattle.lists.proofs.Once.{distinct_keep}
use Rattle.lists.proofs.Apart.{Apart, apart_distinct, apart_append, apart_map}
use Rattle.papers.specs.Machine.{Machine}
use Rattle.papers.specs.Composition.{Edge, rest, along}
use Rattle.words.specs.Labels.{eps_label, no_label, good, refuse_if}
use Rattle.words.specs.Matches.{MatchType, label_on, Match, loop, own, viaSigma, labelled, sorted_matches}
use Rattle.words.specs.Sigmas.{Operand, inner, is_allowed, is_set, is_sigma, sigma_trs, sigma_matches, lookup}
use Rattle.words.specs.AsPapers.{edge_of}
use Rattle.words.proofs.CheckedLaws.{good_is, past_check}

pub in_labelled : (on : MatchType) (M : Machine) (s x : ℕ) {t : ℕ} → In t (M.list s) → label_on on M t ≡ x → In t (labelled on M s x)
unfolding labelled
in_labelled on M s x i e = in_keep _ i (eq-eqb _ _ e)

pub of_labelled : (on : MatchType) (M : Machine) (s x : ℕ) {t : ℕ} → In t (labelled on M s x) → In t (M.list s) × (label_on on M t ≡ x)
unfolding labelled
of_labelled on M s x i = let r = of_keep (λ t. eqb (label_on on M t) x) (M.list s) i in (r.0, eqb-true _ _ r.1)

distinct_labelled : (on : MatchType) (M : Machine) (s x : ℕ) → Distinct (M.list s) → Distinct (labelled on M s x)
unfolding labelled
distinct_labelled on M s x d = distinct_keep _ (M.list s) d

pub in_sigmas : (o : Operand) (s : ℕ) {u : ℕ} → In u (o.machine.list s) → inner o u ≡ o.sigma.label → inner o u ≢ no_label → In u (sigma_trs o s)
unfolding sigma_trs
in_sigmas o s i e n = rw (ne_eqb o.sigma.label no_label (λ d. n (e ∙ d))) (in_labelled o.on o.machine s o.sigma.label i e)

of_sigmas : (o : Operand) (s : ℕ) {u : ℕ} → In u (sigma_trs o s) → In u (o.machine.list s) × (inner o u ≡ o.sigma.label) × (is_set o.sigma ≡ true)
unfolding sigma_trs
of_sigmas o s {u} i = go (is_set o.sigma) refl i
  where
    go : (b : Bool) → is_set o.sigma ≡ b → In u (cond b (labelled o.on o.machine s o.sigma.label) [])
        → In u (o.machine.list s) × (inner o u ≡ o.sigma.label) × (is_set o.sigma ≡ true)
    go true e j = let r = of_labelled o.on o.machine s o.sigma.label j in (r.0, r.1, e)
    go false e j = absurd (Memᴰ.not-nil j)

distinct_sigmas : (o : Operand) (s : ℕ) → Distinct (o.machine.list s) → Distinct (sigma_trs o s)
unfolding sigma_trs
distinct_sigmas o s d = go (is_set o.sigma)
  where
    go : (b : Bool) → Distinct (cond b (labelled o.on o.machine s o.sigma.label) [])
    go true = distinct_labelled o.on o.machine s o.sigma.label d
    go false = tt

-- the own matches of a label
abbrev pub owns : Operand → ℕ → ℕ → List ℕ
owns o s x = labelled o.on o.machine s x

set_if : (l x : ℕ) → x ≢ no_label → not (eqb l no_label) && eqb x l ≡ eqb x l
set_if l x n = go (eqb l no_label) refl
  where
    go : (b : Bool) → eqb l no_label ≡ b → not b && eqb x l ≡ eqb x l
    go true e = sym (ne_eqb x l (λ d. n (d ∙ eqb-true l no_label e)))
    go false e = refl

pub lookup_label : (o : Operand) (s x : ℕ) → x ≢ eps_label → x ≢ no_label
    → lookup o s x ≡ refuse_if (eqb x o.sigma.label) 11 (good (map own (owns o s x) ++ sigma_matches o s x))
unfolding lookup sorted_matches
lookup_label o s x nε nm = rw (set_if o.sigma.label x nm, ne_eqb x eps_label nε, ne_eqb x no_label nm)

-- a sigma match stands for an allowed label that is neither 0 nor MAX
pub of_sigma_matches : (o : Operand) (s x : ℕ) {m : Match} → In m (sigma_matches o s x)
    → (x ≢ eps_label) × (x ≢ no_label) × (is_allowed o.sigma.allowed x ≡ true) × ((u : ℕ) × In u (sigma_trs o s) × (viaSigma u ≡ m))
unfolding sigma_matches
of_sigma_matches o s x {m} i = go (not (eqb x eps_label) && (not (eqb x no_label) && is_allowed o.sigma.allowed x)) refl i
  where
    go : (b : Bool) → not (eqb x eps_label) && (not (eqb x no_label) && is_allowed o.sigma.allowed x) ≡ b → In m (cond b (map viaSigma (sigma_trs o s)) [])
        → (x ≢ eps_label) × (x ≢ no_label) × (is_allowed o.sigma.allowed x ≡ true) × ((u : ℕ) × In u (sigma_trs o s) × (viaSigma u ≡ m))
    go true h j =
        let r = and_right (not (eqb x eps_label)) _ h in (
          eqb-false _ _ (not-true _ (and_left (not (eqb x eps_label)) _ h)),
          eqb-false _ _ (not-true _ (and_left (not (eqb x no_label)) _ r)),
          and_right (not (eqb x no_label)) _ r,
          Memᴰ.of_map viaSigma (sigma_trs o s) j,
        )
    go false h j = absurd (Memᴰ.not-nil j)

-- a match of x: a transition with x, or a sigma transition
pub found : (o : Operand) (s x : ℕ) {m : Match} → In m (map own (owns o s x) ++ sigma_matches o s x)
    → ((u : ℕ) × In u (o.machine.list s) × (inner o u ≡ x) × (own u ≡ m))
    ⊎ ((u : ℕ) × In u (o.machine.list s) × (inner o u ≡ o.sigma.label) × (is_allowed o.sigma.allowed x ≡ true) × (viaSigma u ≡ m))
found o s x i =
    ⊎_elim
    (λ j. let r = Memᴰ.of_map own (owns o s x) j in let q = of_labelled o.on o.machine s x r.1 in inl (r.0, q.0, q.1, r.2))
    (λ j. let q = of_sigma_matches o s x j in let p = of_sigmas o s q.3.1 in inr (q.3.0, p.0, p.1, q.2, q.3.2))
    (Memᴰ.append_cases (map own (owns o s x)) i)

pub find_own : (o : Operand) (s x : ℕ) {u : ℕ} → In u (o.machine.list s) → inner o u ≡ x → In (own u) (map own (owns o s x) ++ sigma_matches o s x)
find_own o s x i e = Memᴰ.append_left _ (Memᴰ.map own (in_labelled o.on o.machine s x i e))

pub find_sigma : (o : Operand) (s x : ℕ) {u : ℕ} → x ≢ eps_label → x ≢ no_label → In u (o.machine.list s) → inner o u ≡ o.sigma.label → inner o u ≢ no_label
    → is_allowed o.sigma.allowed x ≡ true → In (viaSigma u) (map own (owns o s x) ++ sigma_matches o s x)
unfolding sigma_matches
find_sigma o s x nε nm i e n a = Memᴰ.append_right (map own (owns o s x)) (rw (ne_eqb x eps_label nε, ne_eqb x no_label nm, a) (Memᴰ.map viaSigma (in_sigmas o s i e n)))

-- no two matches of a label are one edge
abbrev pub SameEdge : Match → Match → Type 0
SameEdge m n = edge_of m ≡ edge_of n

pub apart_own : (l : List ℕ) → Distinct l → Apart SameEdge (map own l)
apart_own l d = apart_map SameEdge own l (apart_distinct _ (λ a b e. cc) l d)

apart_sigma : (l : List ℕ) → Distinct l → Apart SameEdge (map viaSigma l)
apart_sigma l d = apart_map SameEdge viaSigma l (apart_distinct _ (λ a b e. cc) l d)

abbrev is_rest : Edge → Bool
is_rest rest = true
is_rest (along t) = false

pub rest≢along : {t : ℕ} → rest ≡ along t → ⊥
rest≢along e = false≢true (sym (ap is_rest e))

loop_first : (l : List ℕ) → Distinct l → Apart SameEdge (loop ∷ map own l)
loop_first l d = (λ m i e. let r = Memᴰ.of_map own l i in rest≢along (e ∙ sym (ap edge_of r.2)), apart_own l d)

pub apart_sorted : (on : MatchType) (M : Machine) (s x : ℕ) → Distinct (M.list s) → Apart SameEdge (sorted_matches on M s x)
unfolding sorted_matches
apart_sorted on M s x d = go (eqb x eps_label) (eqb x no_label)
  where
    all : (y : ℕ) → Distinct (labelled on M s y)
    all y = distinct_labelled on M s y d

    go : (a b : Bool) → Apart SameEdge (cond a (loop ∷ map own (labelled on M s eps_label)) (cond b (map own (labelled on M s eps_label)) (map own (labelled on M s x))))
    go true b = loop_first (labelled on M s eps_label) (all eps_label)
    go false true = apart_own (labelled on M s eps_label) (all eps_label)
    go false false = apart_own (labelled on M s x) (all x)

apart_sigmas : (o : Operand) (s x : ℕ) → Distinct (o.machine.list s) → Apart SameEdge (sigma_matches o s x)
unfolding sigma_matches
apart_sigmas o s x d = go (not (eqb x eps_label) && (not (eqb x no_label) && is_allowed o.sigma.allowed x))
  where
    go : (b : Bool) → Apart SameEdge (cond b (map viaSigma (sigma_trs o s)) [])
    go true = apart_sigma (sigma_trs o s) (distinct_sigmas o s d)
    go false = tt

-- what an own match and a sigma match of one edge have in common: the label is sigma
own_as_sigma : (o : Operand) (s x : ℕ) {m n : Match} → In m (sorted_matches o.on o.machine s x) → In n (sigma_matches o s x) → SameEdge m n → is_sigma o.sigma x ≡ true
unfolding sorted_matches
own_as_sigma o s x {m} {n} i j e =
    let q = of_sigma_matches o s x j in
    let r = Memᴰ.of_map own (owns o s x) (rw (ne_eqb x eps_label q.0, ne_eqb x no_label q.1) at i) in
    let p = of_sigmas o s q.3.1 in
    let same : r.0 ≡ q.3.0 = same_record (ap edge_of r.2 ∙ e ∙ sym (ap edge_of q.3.2)) in
    let z : x ≡ o.sigma.label = sym (of_labelled o.on o.machine s x r.1).1 ∙ ap (inner o) same ∙ p.1 in
    rw (p.2, eq-eqb x o.sigma.label z)
  where
    same_record : {t u : ℕ} → along t ≡ along u → t ≡ u
    same_record h = cc

-- for any label: a refusal, or matches that are all different edges
pub looked : (o : Operand) (s x : ℕ) → Distinct (o.machine.list s) → (b : Bool) × (l : List Match) × (lookup o s x ≡ refuse_if b 11 (good l)) × (b ≡ false → Apart SameEdge l)
unfolding lookup
looked o s x d =
    let owned = sorted_matches o.on o.machine s x in
    let others = sigma_matches o s x in (
      is_sigma o.sigma x,
      owned ++ others,
      refl,
      λ n. apart_append SameEdge owned others (apart_sorted o.on o.machine s x d) (apart_sigmas o s x d) (λ a b i j e. false≢true (sym n ∙ own_as_sigma o s x i j e)),
    )

-- so the matches of a label that is not refused are all different edges
pub found_apart : (o : Operand) (s x : ℕ) (l : List Match) → Distinct (o.machine.list s) → lookup o s x ≡ good l → Apart SameEdge l
found_apart o s x l d e =
    let r = looked o s x d in
    let p = past_check r.0 11 (good r.1) l (sym r.2 ∙ e) in
    rw (← good_is p.1) (r.3 p.0)
