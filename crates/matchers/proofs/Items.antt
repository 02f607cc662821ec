-- For a caller: the labels for which a sigma transition serves.
use mathlib.Core.Path.{◌≡◌, sym, ap}
use mathlib.Core.Bool.{Bool, true, false, cond, true≢false}
use mathlib.Core.List.Memᴰ
use mathlib.Core.List.{List, ◌∷◌, map, Memᴰ as In}
use mathlib.Core.Logic.{◌≢◌, ⊎_elim}
use Prim.Native.Nat.{ℕ}
use lib.Dec.{eqb}
use Rattle.words.specs.Labels.{eps_label, no_label, good}
use Rattle.words.specs.Matches.{Match, loop, own, viaSigma, labelled, sorted_matches}
use Rattle.words.specs.Sigmas.{Operand, is_sigma, lookup}
use Rattle.words.proofs.CheckedLaws.{good_is, past_check}
use Rattle.words.proofs.PapersLookup.{of_sigma_matches}

abbrev by_sigma : Match → Bool
by_sigma loop = false
by_sigma (own t) = false
by_sigma (viaSigma t) = true

not_own : (l : List ℕ) {u : ℕ} → In (viaSigma u) (map own l) → ⊥
not_own l i = let r = Memᴰ.of_map own l i in true≢false (sym (ap by_sigma r.2))

-- no match of the sorted look-up is a sigma transition
not_sorted : (o : Operand) (s x : ℕ) {u : ℕ} → In (viaSigma u) (sorted_matches o.on o.machine s x) → ⊥
unfolding sorted_matches
not_sorted o s x {u} i = go (eqb x eps_label) (eqb x no_label) i
  where
    go : (a b : Bool) → In (viaSigma u) (cond a (loop ∷ map own (labelled o.on o.machine s eps_label)) (cond b (map own (labelled o.on o.machine s eps_label)) (map own (labelled o.on o.machine s x)))) → ⊥
    go true b j = ⊎_elim (λ e. true≢false (ap by_sigma e)) (not_own (labelled o.on o.machine s eps_label)) (Memᴰ.cases_cons j)
    go false true j = not_own (labelled o.on o.machine s eps_label) j
    go false false j = not_own (labelled o.on o.machine s x) j

-- a sigma transition answers only for a label that is neither 0 nor MAX
pub sigma_label : (o : Operand) (s x : ℕ) (ms : List Match) {u : ℕ} → lookup o s x ≡ good ms → In (viaSigma u) ms → (x ≢ eps_label) × (x ≢ no_label)
unfolding lookup
sigma_label o s x ms {u} e i =
    let own-ones = sorted_matches o.on o.machine s x in
    let p = (past_check (is_sigma o.sigma x) 11 _ ms e).1 in
    ⊎_elim (λ j. absurd (not_sorted o s x j)) (λ j. let r = of_sigma_matches o s x j in (r.0, r.1)) (Memᴰ.append_cases own-ones (rw (← good_is p) at i))
