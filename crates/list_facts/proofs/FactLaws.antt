-- What the facts of a list tell a caller: the largest weight, what a filter sees, and that the numbers stay small.
use mathlib.Core.Path.{◌≡◌, refl, sym, ◌∙◌, ap}
use mathlib.Core.Bool.{Bool, true, false, not, ◌&&◌, cond}
use mathlib.Core.List.Memᴰ
use mathlib.Core.List.{List, [], ◌∷◌, Memᴰ as In}
use mathlib.Core.Logic.{◌⊎◌, inl, inr, ⊎_elim}
use Prim.Native.Nat.{ℕ, ◌≤◌, max}
use native.Mathlib.Omega.{arith}
use lib.Dec.{eqb, eqb-suc-suc}
use lib.ListN.{length}
use borrow.Author.Tests.{eqb-true, ne_eqb}
use Rattle.lists.specs.Lists.{put_if, keep_if, every}
use Rattle.lists.proofs.Members.{keep_length}
use Rattle.papers.specs.Filter.{no_epsilon, only_epsilons}
use Rattle.words.specs.Labels.{eps_label, no_label}
use Rattle.words.specs.Weights.{Kind, zero_of, is_zero}
use Rattle.words.specs.Matches.{MatchType, label_on, labelled}
use Rattle.words.specs.Machines.{well_formed, first_of, list_of, machine_of}
use Rattle.words.specs.Filters.{none_at, all_at}
use Rattle.words.proofs.ListLaws.{list_length}
use Rattle.words.proofs.FormLaws.{form}
use Rattle.fst.specs.Meaning.{as_operand}
use Rattle.sorted_lists.specs.Runs.{straight}
use Rattle.sorted_lists.specs.Longest.{longest}
use Rattle.list_facts.specs.declared.ListFacts.{ListFacts}
use Rattle.list_facts.specs.Facts.{heaviest, TrueOf}

-- every weight is the kind's zero, or at most the largest
pub most_holds : (k : Kind) (weight : ℕ → ℕ) (l : List ℕ) (t : ℕ) → In t l → (weight t ≡ zero_of k) ⊎ (weight t ≤ heaviest k weight l)
unfolding is_zero heaviest
most_holds k weight [] t i = absurd (Memᴰ.not-nil i)
most_holds k weight (u ∷ us) t i = ⊎_elim (λ e. here e) (λ j. later (most_holds k weight us t j)) (Memᴰ.cases_cons i)
  where
    first : (b : Bool) → is_zero k (weight u) ≡ b → (weight u ≡ zero_of k) ⊎ (weight u ≤ max (cond b 0 (weight u)) (heaviest k weight us))
    first true e = inl (eqb-true _ _ e)
    first false e = inr (omega arith)

    here : t ≡ u → (weight t ≡ zero_of k) ⊎ (weight t ≤ heaviest k weight (u ∷ us))
    here e = rw e (first (is_zero k (weight u)) refl)

    later : (weight t ≡ zero_of k) ⊎ (weight t ≤ heaviest k weight us) → (weight t ≡ zero_of k) ⊎ (weight t ≤ heaviest k weight (u ∷ us))
    later (inl e) = inl e
    later (inr h) = inr (omega (arith, h))

module _ {A : Type 0} (P : A → Bool) where
  -- none holds where none is kept
  kept_none : (l : List A) → every (λ x. not (P x)) l ≡ eqb (length (keep_if P l)) 0
  unfolding keep_if every
  kept_none [] = refl
  kept_none (x ∷ xs) = go (P x) (kept_none xs)
    where
      go : (b : Bool) → every (λ y. not (P y)) xs ≡ eqb (length (keep_if P xs)) 0 → not b && every (λ y. not (P y)) xs ≡ eqb (length (put_if b x (keep_if P xs))) 0
      go true e = sym (ne_eqb (length (x ∷ keep_if P xs)) 0 (λ z. omega (arith, z)))
      go false e = e

  -- all hold where all are kept
  kept_all : (l : List A) → every P l ≡ eqb (length (keep_if P l)) (length l)
  unfolding keep_if every
  kept_all [] = refl
  kept_all (x ∷ xs) = go (P x) (kept_all xs)
    where
      go : (b : Bool) → every P xs ≡ eqb (length (keep_if P xs)) (length xs) → b && every P xs ≡ eqb (length (put_if b x (keep_if P xs))) (length (x ∷ xs))
      go true e = e ∙ sym (eqb-suc-suc (length (keep_if P xs)) (length xs))
      go false e = let h = keep_length P xs in sym (ne_eqb (length (keep_if P xs)) (length (x ∷ xs)) (λ z. omega (arith, h, z)))

module _ {on : MatchType} {k : Kind} {m : List ℕ} {s : ℕ} {r : ListFacts} (f : TrueOf on k m s r) where
  -- one by one
  pub len_is : r.len ≡ length (list_of m s)
  len_is = ap (λ (x : ListFacts). x.len) f.is

  pub eps_is : r.eps ≡ length (labelled on (machine_of m) s eps_label)
  eps_is = ap (λ (x : ListFacts). x.eps) f.is

  pub straight_is : r.straight ≡ straight m (first_of m s)
  straight_is = ap (λ (x : ListFacts). x.straight) f.is

  pub most_is : r.most ≡ heaviest k (machine_of m).weight (list_of m s)
  most_is = ap (λ (x : ListFacts). x.most) f.is

  pub run_is : r.run ≡ longest (label_on on (machine_of m)) no_label 0 0 (list_of m s)
  run_is = ap (λ (x : ListFacts). x.run) f.is

  -- the list has no more epsilons than records, and no more records than the machine
  pub eps_few : r.eps ≤ r.len
  unfolding labelled
  eps_few = let h = keep_length (λ (t : ℕ). eqb (label_on on (machine_of m) t) eps_label) (list_of m s) in omega (arith, eps_is, len_is, h)

  pub len_few : well_formed m ≡ true → r.len ≤ 16777215
  unfolding list_of
  len_few e = let h = (form m e).trs in let l = list_length m (first_of m s) in omega (arith, len_is, h, l)

  -- "none" and "all" of a filter, from the counts
  pub none_is : none_at (as_operand on m no_label) s ≡ eqb r.eps 0
  unfolding none_at no_epsilon labelled
  none_is = rw eps_is (kept_none (λ (t : ℕ). eqb (label_on on (machine_of m) t) eps_label) (list_of m s))

  pub all_is : all_at (as_operand on m no_label) s ≡ eqb r.eps r.len && not ((machine_of m).is_final s)
  unfolding all_at only_epsilons labelled
  all_is = rw (eps_is, len_is) (ap (λ (b : Bool). b && not ((machine_of m).is_final s)) (kept_all (λ (t : ℕ). eqb (label_on on (machine_of m) t) eps_label) (list_of m s)))
