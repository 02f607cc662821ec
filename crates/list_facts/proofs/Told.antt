-- At the end of a list, what was found is what the facts of the list say.
use mathlib.Core.Path.{◌≡◌, refl, sym, ◌∙◌, subst}
use mathlib.Core.Bool.{Bool, ◌||◌, and-true}
use mathlib.Core.List.{List, []}
use Prim.Native.Nat.{ℕ, ◌+◌}
use native.Mathlib.Omega.{arith}
use lib.Dec.{eqb}
use Rattle.lists.specs.Lists.{keep_if, every}
use Rattle.words.specs.Weights.{Kind}
use Rattle.words.specs.Matches.{MatchType, inputs, outputs, label_on, labelled}
use Rattle.words.specs.Machines.{word_on, tr_word, next_of, list_of, machine_of}
use Rattle.sorted_lists.specs.Runs.{straight}
use Rattle.sorted_lists.specs.Longest.{longest}
use Rattle.list_facts.specs.declared.ListFacts.{ListFacts}
use Rattle.list_facts.specs.Facts.{heaviest, facts_of, TrueOf}
use Rattle.list_facts.proofs.Pass.{Found}

-- the record after t is consecutive, or there is none
abbrev pub goes_on : List ℕ → ℕ → Bool
goes_on m t = eqb (next_of m t) 0 || eqb (next_of m t) (t + 1)

labels : (on : MatchType) (m : List ℕ) → (λ (u : ℕ). tr_word m u (word_on on)) ≡ label_on on (machine_of m)
labels inputs m = refl
labels outputs m = refl

pub told : (on : MatchType) (k : Kind) (m : List ℕ) (s : ℕ) (r : ListFacts) (same last : ℕ)
    → Found (λ u. tr_word m u (word_on on)) (λ u. tr_word m u 2) k (goes_on m) (list_of m s) [] r.len r.eps r.straight r.most r.run same last
    → TrueOf on k m s r
unfolding labelled keep_if every heaviest longest straight list_of
told on k m s r same last e =
    let f = subst (λ (g : ℕ → ℕ). Found g (λ u. tr_word m u 2) k (goes_on m) (list_of m s) [] r.len r.eps r.straight r.most r.run same last) (labels on m) e in
    let len : r.len ≡ (facts_of on k m s).len = omega (arith, f.lens) in
    let eps : r.eps ≡ (facts_of on k m s).eps = omega (arith, f.epss) in
    let most : r.most ≡ (facts_of on k m s).most = omega (arith, f.mosts) in
    let plain : r.straight ≡ (facts_of on k m s).straight = sym (and-true r.straight) ∙ f.straights in
    record { is = rw (← len, ← eps, ← most, ← plain, ← f.runs) }
