-- A product of words is the exact product where it is given, and is not given just where the exact product is too large for a word.
use mathlib.Core.Path.{◌≡◌, refl, sym, ◌∙◌, ap}
use mathlib.Core.Bool.{Bool, true, false, ◌||◌, cond}
use mathlib.Core.Logic.{◌↔◌}
use Rattle.std.specs.Prelude.{Option, None, Some}
use Prim.Native.Nat.{ℕ, ◌+◌, ◌*◌, ◌≤◌}
use native.Mathlib.Omega.{arith}
use lib.Dec.{eqb, ltb, leb}
use borrow.Author.Tests.{eqb-true, eqb-false, eq-eqb, ne_eqb, ltb-true, ltb-false, leb-true, leb-false}
use Rattle.papers.specs.Weight.{finite, infinite, sum, semiring}
use Rattle.words.specs.Labels.{MAX}
use Rattle.words.specs.Weights.{Kind, cost, count, one, is_zero, times}
use Rattle.words.specs.AsPapers.{exact, TooLarge}

-- the exact product of two words
abbrev pub product : (k : Kind) → ℕ → ℕ → (semiring k).Element
product k a b = (semiring k).times (exact k a) (exact k b)

-- what a product is: the word that stands for the exact product, or none where that is too large
abbrev Right : (k : Kind) → (semiring k).Element → Option ℕ → Type 0
Right k e None = TooLarge k e
Right k e (Some w) = (exact k w ≡ e) × (w ≤ MAX)

right_count : (a b : ℕ) (l : Bool) → leb (a * b) MAX ≡ l → Right count (a * b) (cond l (Some (a * b)) None)
right_count a b true e = (refl, leb-true _ _ e)
right_count a b false e = leb-false _ _ e

right_cost : (a b : ℕ) (p q l : Bool) → eqb a MAX ≡ p → eqb b MAX ≡ q → ltb (a + b) MAX ≡ l
    → Right cost (sum (cond p infinite (finite a)) (cond q infinite (finite b))) (cond (p || q) (Some MAX) (cond l (Some (a + b)) None))
right_cost a b true q l x y z = (refl, omega arith)
right_cost a b false true l x y z = (refl, omega arith)
right_cost a b false false true x y z = let h = ltb-true (a + b) MAX z in (rw (ne_eqb (a + b) MAX (λ e. omega arith)), omega arith)
right_cost a b false false false x y z = ltb-false (a + b) MAX z

right : (k : Kind) (a b : ℕ) → Right k (product k a b) (times k a b)
unfolding times
right cost a b = right_cost a b (eqb a MAX) (eqb b MAX) (ltb (a + b) MAX) refl refl refl
right count a b = right_count a b (leb (a * b) MAX) refl

-- an element that is too large is no word's
pub too_large_for_words : (k : Kind) (w : ℕ) → w ≤ MAX → TooLarge k (exact k w) → ⊥
too_large_for_words cost w l h = go (eqb w MAX) refl h
  where
    go : (b : Bool) → eqb w MAX ≡ b → TooLarge cost (cond b infinite (finite w)) → ⊥
    go true e h = h
    go false e h = let n = eqb-false w MAX e in n (omega arith)
too_large_for_words count w l h = omega arith

-- one word stands for an element at most
pub exact_word : (k : Kind) (v w : ℕ) → exact k v ≡ exact k w → v ≡ w
exact_word cost v w e = go (eqb v MAX) (eqb w MAX) refl refl e
  where
    go : (p q : Bool) → eqb v MAX ≡ p → eqb w MAX ≡ q → cond p infinite (finite v) ≡ cond q infinite (finite w) → v ≡ w
    go true true x y e = eqb-true v MAX x ∙ sym (eqb-true w MAX y)
    go true false x y e = cc
    go false true x y e = cc
    go false false x y e = cc
exact_word count v w e = e

pub times_some : (k : Kind) (a b w : ℕ) → (times k a b ≡ Some w) ↔ ((exact k w ≡ product k a b) × (w ≤ MAX))
times_some k a b w = (λ e. rw e at (right k a b), λ h. go (times k a b) (right k a b) h)
  where
    go : (o : Option ℕ) → Right k (product k a b) o → (exact k w ≡ product k a b) × (w ≤ MAX) → o ≡ Some w
    go None r h = absurd (too_large_for_words k w h.1 (rw h.0 r))
    go (Some v) r h = ap Some (exact_word k v w (r.0 ∙ sym h.0))

pub times_none : (k : Kind) (a b : ℕ) → (times k a b ≡ None) ↔ TooLarge k (product k a b)
times_none k a b = (λ e. rw e at (right k a b), λ h. go (times k a b) (right k a b) h)
  where
    go : (o : Option ℕ) → Right k (product k a b) o → TooLarge k (product k a b) → o ≡ None
    go None r h = refl
    go (Some w) r h = absurd (too_large_for_words k w r.1 (rw r.0 h))

-- one and zero
pub exact_one : (k : Kind) → exact k (one k) ≡ (semiring k).one
exact_one cost = refl
exact_one count = refl

pub exact_zero : (k : Kind) (w : ℕ) → (is_zero k w ≡ true) ↔ (exact k w ≡ (semiring k).zero)
unfolding is_zero
exact_zero cost w = (λ e. rw e, λ h. go (eqb w MAX) h)
  where
    go : (b : Bool) → cond b infinite (finite w) ≡ infinite → b ≡ true
    go true e = refl
    go false e = cc
exact_zero count w = (λ e. eqb-true w 0 e, λ h. eq-eqb w 0 h)

-- zero is never too large
pub too_large_zero : (k : Kind) → TooLarge k (semiring k).zero → ⊥
too_large_zero cost h = h
too_large_zero count h = omega arith
