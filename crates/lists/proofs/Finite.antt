-- A law over finitely many cases as one test that the checker computes.
use mathlib.Core.Path.{◌≡◌, refl}
use mathlib.Core.Bool.{Bool, true, false}
use Rattle.lists.specs.Finite.{both, implies, all_b}

pub left : (a b : Bool) → both a b ≡ true → a ≡ true
unfolding both
left true b e = refl
left false b e = e

pub right : (a b : Bool) → both a b ≡ true → b ≡ true
unfolding both
right true b e = e
right false b e = cc

pub join : (a b : Bool) → a ≡ true → b ≡ true → both a b ≡ true
unfolding both
join true b p q = q
join false b p q = p

pub apply : (a b : Bool) → implies a b ≡ true → a ≡ true → b ≡ true
unfolding implies
apply true b e p = e
apply false b e p = cc

pub at_b : (P : Bool → Bool) → all_b P ≡ true → (b : Bool) → P b ≡ true
unfolding all_b
at_b P e true = left _ _ e
at_b P e false = right _ _ e
