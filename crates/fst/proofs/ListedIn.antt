-- Where a label stands in a list: among the early items or among the late; and what the library's `contains` says of it.
use Rattle.std.specs.Prelude.{◌≡◌, List, [], ◌∷◌, ◌++◌, ℕ, ◌||◌, Bool, eqb, take, drop}
use Rattle.std.specs.List.{list_any}
use mathlib.Core.Path.{refl, sym, ap, ◌∙◌}
use Rattle.std.proofs.Math.Bool.{or_assoc}
use Rattle.std.proofs.lemmas.List.{take-append-drop}
use Rattle.words.specs.Sigmas.{has}

pub any_has : (x : ℕ) (l : List ℕ) → list_any (λ y. eqb y x) l ≡ has x l
unfolding has
any_has x [] = refl
any_has x (y ∷ ys) = ap (λ b. eqb y x || b) (any_has x ys)

has_joined : (x : ℕ) (l m : List ℕ) → has x (l ++ m) ≡ has x l || has x m
unfolding has
has_joined x [] m = refl
has_joined x (y ∷ ys) m = ap (λ b. eqb y x || b) (has_joined x ys m) ∙ sym (or_assoc (eqb y x) (has x ys) (has x m))

pub has_split : (x k : ℕ) (l : List ℕ) → has x l ≡ has x (take k l) || has x (drop k l)
has_split x k l = sym (ap (has x) (take-append-drop k l)) ∙ has_joined x (take k l) (drop k l)

-- by the answer for the early items
pub split_by : (x k : ℕ) (l early late : List ℕ) (answer : Bool) → early ≡ take k l → late ≡ drop k l → answer ≡ has x early → answer || has x late ≡ has x l
split_by x k l early late answer e f a = sym (has_split x k l ∙ rw (sym e, sym f, sym a) refl)
