-- The second paragraph of "Choosing the side", word for word, follows from the look-ups of which the walk is made.
use mathlib.Core.Path.{◌≡◌, refl, sym, ap, ap₂}
use mathlib.Core.Bool.{Bool, true, false, not, ◌&&◌, and-false, cond}
use mathlib.Core.List.{List, [], ◌∷◌, ◌++◌, map, map-map, flat_map, append-nil}
use Prim.Native.Nat.{ℕ}
use lib.Dec.{eqb}
use borrow.Author.Tests.{eqb-true, eqb-false, eq-eqb, ne_eqb}
use Rattle.words.specs.Labels.{eps_label, no_label, good}
use Rattle.words.specs.Matches.{MatchType, loop, own, viaSigma, sorted_matches}
use Rattle.words.specs.Sigmas.{Operand, inner, is_allowed, sigma_trs, sigma_matches, lookup}
use Rattle.words.specs.Steps.{asks, move_of, moves_of, walk}
use Rattle.words.specs.Links.{epsilons, moves_of_tr}

-- asked for 0: the loop, and then the epsilon transitions
pub lookup_eps : (o : Operand) (s : ℕ) → (o.sigma.label ≡ eps_label → ⊥) → lookup o s eps_label ≡ good (loop ∷ map own (epsilons o s))
unfolding lookup sorted_matches sigma_matches
lookup_eps o s h = rw (ne_eqb eps_label o.sigma.label (λ e. h (sym e)), and-false, append-nil (map own (epsilons o s)))

not_asked : (l : ℕ) → not (eqb l no_label) && eqb no_label l ≡ false
not_asked l = go (eqb l no_label) refl
  where
    go : (b : Bool) → eqb l no_label ≡ b → not b && eqb no_label l ≡ false
    go true e = refl
    go false e = ne_eqb no_label l (λ d. eqb-false l no_label e (sym d))

-- asked for MAX: the epsilon transitions alone
pub lookup_none : (o : Operand) (s : ℕ) → lookup o s no_label ≡ good (map own (epsilons o s))
unfolding lookup sorted_matches sigma_matches
lookup_none o s = rw (not_asked o.sigma.label, append-nil (map own (epsilons o s)))

-- where no sigma label is set: any label's own matches alone
pub lookup_unset : (o : Operand) (s x : ℕ) → o.sigma.label ≡ no_label → lookup o s x ≡ good (sorted_matches o.on o.machine s x)
unfolding lookup sigma_matches sigma_trs
lookup_unset o s x e = rw (eq-eqb o.sigma.label no_label e, none_left (not (eqb x eps_label) && (not (eqb x no_label) && is_allowed o.sigma.allowed x)), append-nil (sorted_matches o.on o.machine s x))
  where
    none_left : (b : Bool) → cond b (map viaSigma []) [] ≡ []
    none_left true = refl
    none_left false = refl

moves_of_tr_lem : (d : MatchType) (W M : Operand) (sm t : ℕ) → (M.sigma.label ≡ eps_label → ⊥) → moves_of d (own t) (lookup M sm (inner W t)) ≡ moves_of_tr d W M sm t
moves_of_tr_lem d W M sm t h = go (eqb (inner W t) eps_label) refl
  where
    go : (b : Bool) → eqb (inner W t) eps_label ≡ b → moves_of d (own t) (lookup M sm (inner W t)) ≡ moves_of_tr d W M sm t
    go true e = rw (eqb-true (inner W t) eps_label e, lookup_eps M sm h) (ap (λ l. good (move_of d (own t) loop) ∷ l) (map-map (λ m. good (move_of d (own t) m)) own (epsilons M sm)))
    go false e = rw e

-- "Direction input at (s1, s2, f): first each epsilon-input transition of s2 alone; then along s1's list, for output 0, s1 alone and then a pair with each epsilon of
-- s2; for another label, each match. Direction output mirrors this": W is walked, M is looked up. Refusal 4 shuts out a sigma label 0.
pub walk_as_written : (d : MatchType) (W : Operand) (sw : ℕ) (M : Operand) (sm : ℕ) → (M.sigma.label ≡ eps_label → ⊥)
    → walk d W sw M sm ≡ map (λ u. good (move_of d loop (own u))) (epsilons M sm) ++ flat_map (moves_of_tr d W M sm) (W.machine.list sw)
unfolding walk flat_map
walk_as_written d W sw M sm h = rw lookup_none (ap₂ ◌++◌ (map-map (λ m. good (move_of d loop m)) own (epsilons M sm)) (along (W.machine.list sw)))
  where
    along : (ts : List ℕ) → flat_map (λ w. moves_of d w (lookup M sm (asks W w))) (map own ts) ≡ flat_map (moves_of_tr d W M sm) ts
    along [] = refl
    along (t ∷ ts) = ap₂ ◌++◌ (moves_of_tr_lem d W M sm t h) (along ts)
