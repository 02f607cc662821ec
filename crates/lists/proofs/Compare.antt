-- Lists of numbers compared by a test.
use mathlib.Core.Path.{◌≡◌, refl, ap₂, subst}
use mathlib.Core.Bool.{Bool, true, false, ◌&&◌, false≢true}
use mathlib.Core.List.{List, [], ◌∷◌}
use Prim.Native.Nat.{ℕ}
use lib.Dec.{eqb}
use borrow.Author.Tests.{eqb-true, eq-eqb}
use Rattle.lists.proofs.Members.{and_left, and_right}

unfoldable pub eq_list : List ℕ → List ℕ → Bool
eq_list [] [] = true
eq_list [] (y ∷ ys) = false
eq_list (x ∷ xs) [] = false
eq_list (x ∷ xs) (y ∷ ys) = eqb x y && eq_list xs ys

pub eq_list_eq : (xs ys : List ℕ) → eq_list xs ys ≡ true → xs ≡ ys
unfolding eq_list
eq_list_eq [] [] e = refl
eq_list_eq [] (y ∷ ys) e = absurd (false≢true e)
eq_list_eq (x ∷ xs) [] e = absurd (false≢true e)
eq_list_eq (x ∷ xs) (y ∷ ys) e = ap₂ ◌∷◌ (eqb-true x y (and_left (eqb x y) _ e)) (eq_list_eq xs ys (and_right (eqb x y) _ e))

same_list : (xs : List ℕ) → eq_list xs xs ≡ true
unfolding eq_list
same_list [] = refl
same_list (x ∷ xs) = rw (eq-eqb x x refl) (same_list xs)

pub eq_eq_list : (xs ys : List ℕ) → xs ≡ ys → eq_list xs ys ≡ true
eq_eq_list xs ys e = subst (λ (l : List ℕ). eq_list xs l ≡ true) e (same_list xs)
